-- For callers: after a reply an entry agrees, and it stays until an eviction.
use Rattle.std.proofs.Common.{List, [], ◌∷◌, ◌++◌, IsTrue, map, inl, inr, sym, subst}
use Rattle.std.proofs.lemmas.List.Sorted.{Contains-permutation}
use Rattle.std.specs.Cmp.{IsEquivalence}
use Rattle.std.specs.List.{Any}
use Rattle.std.specs.List.Sorted.{IsPermutation}
use Rattle.comemo_base.specs.Answers.{Respects, Agrees}
use Rattle.comemo_base.specs.Insertion.{AllAmong}
use Rattle.comemo_base.specs.Tree.{Stored, stored}
use Rattle.comemo_base.proofs.Paths.{joined, turned}
use Rattle.comemo_base.proofs.Under.{Any-here, Any-later, Any-split, Any-weaker, Any-from_under}
use Rattle.comemo_base.proofs.Sets.{Agrees-among}
use Rattle.comemo_cache.specs.Meaning.{Meaning, Invocation, Run, run}
use Rattle.comemo_cache.specs.Cache.{Kept, Entries, young}
use Rattle.comemo.specs.Called.{IsReply, Grows}
use Rattle.comemo.specs.Finish.{Ends}
use Rattle.comemo.specs.declared.pending.How.{How}
use Rattle.comemo.specs.declared.pending.How.TheVariants as how
use Rattle.comemo.specs.declared.pending.Reply.{Reply}
use Rattle.comemo.proofs.Again.{agrees_stored_path}

any_moved : {X : Type 0} (P : X → Type 0) (xs ys : List X) → IsPermutation xs ys → Any P xs → Any P ys
any_moved P xs ys moved found =
    let there = Contains-permutation xs ys found.1 moved (found.0, found.2, found.3) in
    (there.0, found.1, there.1, there.2, found.4)

any_behind : {X : Type 0} (P : X → Type 0) (xs ys : List X) → Any P ys → Any P (xs ++ ys)
any_behind P [] ys found = found
any_behind P (x ∷ xs) ys found = Any-later P x (xs ++ ys) (any_behind P xs ys found)

-- what holds of an entry by its key and its path
module _ {K C R O : Type 0} (P : K → List (C × R) → Type 0) where
  abbrev Q : Stored K C R (Kept O C) → Type 0
  Q e = P e.key e.path

  any_young : (es : Entries K C R O) → Any Q es → Any Q (map young es)
  any_young [] found = found
  any_young (e ∷ es) found = elim (Any-split Q e es found) [
    | inl here ↦ Any-here Q (young e) (map young es) here
    | inr later ↦ Any-later Q (young e) (map young es) (any_young es later)
  ]

  any_old : (es : Entries K C R O) → Any Q (map young es) → Any Q es
  any_old [] found = found
  any_old (e ∷ es) found = elim (Any-split Q (young e) (map young es) found) [
    | inl here ↦ Any-here Q e es here
    | inr later ↦ Any-later Q e es (any_old es later)
  ]

  -- it holds of one where no entry was lost
  pub any_grows : (es es' : Entries K C R O) → Grows es es' → Any (λ e. P e.key e.path) es → Any (λ e. P e.key e.path) es'
  any_grows es es' grows found = any_old es' (any_moved Q (map young (grows.0 ++ es)) (map young es') grows.1 (any_young (grows.0 ++ es) (any_behind Q grows.0 es found)))

-- the run is in the cache after a call that ended so
abbrev pub IsInCache : How → Type 0
IsInCache how.Hit = Unit {0}
IsInCache how.Stored = Unit {0}
IsInCache how.AlreadyExists = Unit {0}
IsInCache how.MissingCall = ⊥
IsInCache how.NotStored = ⊥
IsInCache how.Disabled = ⊥
IsInCache how.Late = ⊥

module _ {K C R O : Type 0} (M : Meaning K C R O) (calls : IsEquivalence M.same_call) (answers : IsEquivalence M.same_answer) (keys : IsEquivalence M.same_key) where
  -- after a run that is in the cache, an entry has its key and agrees with the answers that its reads agree with
  kept_by_end : (m : C → R) → Respects M.same_call M.same_answer m → (mid es' : Entries K C R O) (ran : Run K C R O) → Agrees M.same_answer m ran.pairs → (h : How) → IsInCache h → Ends M mid ran h es' → Any (λ e. IsTrue (M.same_key e.key ran.key) × Agrees M.same_answer m e.path) es'
  kept_by_end m r mid es' ran a how.Hit kept e = absurd e
  kept_by_end m r mid es' ran a how.Stored kept e =
      let adds = e.2.adds in
      let P : Stored K C R (Kept O C) → Type 0 = λ x. IsTrue (M.same_key x.key ran.key) × Agrees M.same_answer m x.path in
      let entry = stored adds.own adds.path e.2.kept in
      any_moved P (entry ∷ mid) es' adds.entries (Any-here P entry mid (adds.is_key, agrees_stored_path answers m r _ ran.pairs adds.path adds.is_new a))
  kept_by_end m r mid es' ran a how.AlreadyExists kept e =
      let P : Stored K C R (Kept O C) → Type 0 = λ x. IsTrue (M.same_key x.key ran.key) × Agrees M.same_answer m x.path in
      let S : Stored K C R (Kept O C) → Type 0 = λ x. IsTrue (M.same_key x.key ran.key) × AllAmong M.same_call M.same_answer ran.pairs x.path in
      let there : Any S mid = Any-from_under M.same_key mid ran.key (λ x. AllAmong M.same_call M.same_answer ran.pairs x.path) e.0 in
      subst (λ xs. Any P xs) (sym e.1) (Any-weaker S P (λ x h. (h.0, Agrees-among calls answers m r ran.pairs x.path a h.1)) mid there)
  kept_by_end m r mid es' ran a how.MissingCall kept e = absurd kept
  kept_by_end m r mid es' ran a how.NotStored kept e = absurd kept
  kept_by_end m r mid es' ran a how.Disabled kept e = absurd kept
  kept_by_end m r mid es' ran a how.Late kept e = absurd kept

  -- after a reply, an entry has the call's key and agrees with its answers
  pub kept_after : {call : Invocation K C R} {es mid es' : Entries K C R O} {sent : List (C × R) → List C → Type 0} {reply : Reply O} → Respects M.same_call M.same_answer call.answers → IsReply M call es mid sent reply es' → IsInCache reply.how → Any (λ e. IsTrue (M.same_key e.key call.key) × Agrees M.same_answer call.answers e.path) es'
  kept_after {call = call} {mid = mid} {es' = es'} {reply = reply} respects is kept =
      let P : Stored K C R (Kept O C) → Type 0 = λ x. IsTrue (M.same_key x.key call.key) × Agrees M.same_answer call.answers x.path in
      elim is.came [
        | inl hit ↦
            let touched = hit.1.touched in
            any_moved P (young touched.entry ∷ touched.others) es' touched.after (Any-here P (young touched.entry) touched.others (touched.has_key, touched.agrees))
        | inr ran ↦
            let S : Stored K C R (Kept O C) → Type 0 = λ x. IsTrue (M.same_key x.key ran.own) × Agrees M.same_answer call.answers x.path in
            Any-weaker S P (λ x h. (joined keys x.key ran.own call.key h.0 (turned keys call.key ran.own ran.has_key), h.1)) es' (kept_by_end call.answers respects mid es' (run ran.own is.pairs reply.output is.writes) is.agrees reply.how kept ran.ends)
      ]
