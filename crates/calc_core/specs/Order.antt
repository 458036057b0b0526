-- The order of texts: by the hash of each, and then by their bytes.
use Rattle.std.specs.Prelude.{◌≡◌, ℕ, true, List, ◌∷◌, Some, bytes_eq, nat_eq}
use Rattle.std.proofs.Common.{◌∙◌, sym, subst}
use Rattle.std.specs.Ordering.{nat_cmp, on, eq_by_cmp}
use Rattle.std.specs.declared.cmp.Ordering.{Ordering}
use Rattle.std.specs.Cmp.{IsTotalOrder, IsPartialOrder, partial_order_from_total, both_ways, second_so}
use Rattle.std.specs.Cmp.Lexicographic.{slice_cmp, bytes_decides, nat_list_eq_equiv, on_texts, texts_ties}
use Rattle.std.specs.Hash.FoldHasher as folding

-- the hash of a text's bytes
abbrev pub digest : List ℕ → ℕ
digest bytes = folding.finish (folding.write folding.initial bytes)

-- a text after its hash
abbrev pub numbered : List ℕ → List ℕ
numbered bytes = digest bytes ∷ bytes

-- the order by hash first
abbrev pub by_number : List ℕ → List ℕ → Ordering
by_number = on numbered (slice_cmp nat_cmp)

pub by_number_total : IsTotalOrder by_number
by_number_total = on_texts numbered

-- equal texts have the same hash
with_number : (x y : List ℕ) → bytes_eq x y ≡ bytes_eq (numbered x) (numbered y)
with_number x y =
    both_ways (bytes_eq x y) (bytes_eq (numbered x) (numbered y)) (λ e. subst (λ z. bytes_eq (numbered x) (numbered z) ≡ true) ((bytes_decides x y).0 e) (nat_list_eq_equiv.refl (numbered x))) (λ e. second_so (nat_eq (digest x) (digest y)) (bytes_eq x y) e)

pub by_number_ties : (x y : List ℕ) → bytes_eq x y ≡ eq_by_cmp by_number x y
by_number_ties x y = with_number x y ∙ texts_ties (numbered x) (numbered y)

pub by_number_po : IsPartialOrder bytes_eq (λ x y. Some (by_number x y))
by_number_po = subst (λ E. IsPartialOrder E (λ x y. Some (by_number x y))) (λ i x y. sym (by_number_ties x y) i) (partial_order_from_total by_number_total)
