-- Entries are added, and none is lost.
use Rattle.std.proofs.Common.{◌≡◌, ◌++◌, ◌∷◌, [], append_assoc, map, sym, subst}
use Rattle.std.proofs.lemmas.List.{map-append}
use Rattle.std.specs.List.Sorted.{IsPermutation}
use Rattle.std.proofs.lemmas.List.Sorted.{IsPermutation-refl, IsPermutation-sym, IsPermutation-trans, IsPermutation-map, IsPermutation-append_right}
use Rattle.comemo_base.specs.Tree.{stored}
use Rattle.comemo_cache.specs.Meaning.{Meaning, Invocation, Run}
use Rattle.comemo_cache.specs.Cache.{Entries, Touches, young}
use Rattle.comemo.specs.Called.{Grows}
use Rattle.comemo.specs.Finish.{Ends}
use Rattle.comemo.specs.declared.pending.How.{How}
use Rattle.comemo.specs.declared.pending.How.TheVariants as how

pub grows_not : {K C R O : Type 0} (es es' : Entries K C R O) → es' ≡ es → Grows es es'
grows_not es es' e = ([], subst (λ x. IsPermutation (map young es) (map young x)) (sym e) (IsPermutation-refl (map young es)))

pub grows_by_touch : {K C R O : Type 0} (M : Meaning K C R O) (call : Invocation K C R) (es es' : Entries K C R O) → Touches M es call es' → Grows es es'
grows_by_touch M call es es' touched =
    let was = IsPermutation-map young _ _ touched.before in
    ([], IsPermutation-trans (map young es) (map young (touched.entry ∷ touched.others)) (map young es') (IsPermutation-sym _ _ was) (IsPermutation-map young _ _ touched.after))

pub grows_on : {K C R O : Type 0} (es mid es' : Entries K C R O) → Grows es mid → Grows mid es' → Grows es es'
grows_on es mid es' a b =
    let parts : map young ((b.0 ++ a.0) ++ es) ≡ map young b.0 ++ map young (a.0 ++ es) = rw append_assoc (map-append young b.0 (a.0 ++ es)) in
    let so_far = IsPermutation-append_right (map young b.0) (map young (a.0 ++ es)) (map young mid) a.1 in
    let before = subst (λ xs. IsPermutation (map young b.0 ++ map young (a.0 ++ es)) xs) (sym (map-append young b.0 mid)) so_far in
    (b.0 ++ a.0, subst (λ xs. IsPermutation xs (map young es')) (sym parts) (IsPermutation-trans _ _ _ before b.1))

-- a run that ended lost no entry
pub grows_by_ends : {K C R O : Type 0} (M : Meaning K C R O) (es : Entries K C R O) (ran : Run K C R O) (reply : How) (es' : Entries K C R O) → Ends M es ran reply es' → Grows es es'
grows_by_ends M es ran how.Hit es' e = absurd e
grows_by_ends M es ran how.Stored es' e = (stored e.2.adds.own e.2.adds.path e.2.kept ∷ [], IsPermutation-map young _ _ e.2.adds.entries)
grows_by_ends M es ran how.AlreadyExists es' e = grows_not es es' e.1
grows_by_ends M es ran how.MissingCall es' e = grows_not es es' e.2
grows_by_ends M es ran how.NotStored es' e = grows_not es es' e
grows_by_ends M es ran how.Disabled es' e = grows_not es es' e
grows_by_ends M es ran how.Late es' e = grows_not es es' e
