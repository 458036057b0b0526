use Rattle.std.proofs.Common.{◌≡◌, ◌≢◌, ◌⊎◌, ℕ, Bool, true, false, [], Result, Ok, Err, IfOk, IsTrue, inl, inr, refl, rules}
use Rattle.std.specs.Prelude.{⊤, nat_eq}
use Rattle.std.specs.Result.{is_ok}
use Rattle.comemo.specs.Recording.{Recording, Took}
use Rattle.comemo.specs.Sending.{Asks}
use Rattle.comemo.specs.Runs.{IsRun}
use Rattle.comemo.proofs.NamedRuns.{AsksLike, nothing_asked, asked_then, settled_run}
use Rattle.comemo.proofs.Holding.{some_held}
use Rattle.comemo_examples.specs.declared.contexts.ContextCall.{ContextCall}
use Rattle.comemo_examples.specs.declared.contexts.ContextCall.TheVariants.{Location, Styles}
use Rattle.comemo_examples.specs.contracts.contexts.ContextCallPartialEq.TheImpl as call
use Rattle.bench_rows.proofs.workers.orders.whole_by.Goals as goal

-- of two different calls each is one
each : (one other c : ContextCall) → one ≢ other → IsTrue (call.ghosts.eq other c) ⊎ IsTrue (call.ghosts.eq one c) ⊎ ⊥
each Location Location c differ = absurd (differ refl)
each Styles Styles c differ = absurd (differ refl)
each Location Styles Location differ = inr (inl refl)
each Location Styles Styles differ = inl refl
each Styles Location Location differ = inl refl
each Styles Location Styles differ = inr (inl refl)

both_asked : {E : Type 0} (touches : ContextCall → ContextCall → Bool) (m n : ContextCall → ℕ) (s t u : Recording ContextCall ℕ) (first second : ContextCall) (one other : Result ℕ E) → first ≢ second → s.pairs ≡ [] → IfOk one (λ x. Asks nat_eq m first x (Took call.ghosts.eq touches s t)) → is_ok one ≡ true → IfOk other (λ x. Asks nat_eq n second x (Took call.ghosts.eq touches t u)) → is_ok other ≡ true → u.complete ≡ true → u.late ≡ false → IsRun call.ghosts.eq nat_eq (AsksLike {K = Unit {0}} (λ _. true) call.ghosts.eq (λ _ _ _. ⊤)) u.pairs
both_asked touches m n s t u first second (Ok x) (Ok y) differ none a is b is' = settled_run tt (search rules) (asked_then b (λ n f. tt) (asked_then a (λ n f. tt) (nothing_asked none))) (λ n f k e c _. each first second c differ)
both_asked touches m n s t u first second (Ok x) (Err e) differ none a is b is' = let no : false ≡ true = is' in cc
both_asked touches m n s t u first second (Err e) other differ none a is b is' = let no : false ≡ true = is in cc

pub finish-requires-clause-settled : goal.finish-requires-clause-settled
finish-requires-clause-settled g c =
    let begun = some_held (g.H.Hold.entries c.args.cache.now) _ (rw c.in-Run.is at c.in_ok-output.ensures.run).0 in
    both_asked _ _ _ _ _ _ c.args.first c.args.second c.ask-one.result c.ask-other.result c.requires begun.1.pairs (rw c.recording.ensures.value at c.ask-one.ensures.ok) c.if-is_err.ensures.negation (rw c.recording-in-Run.ensures.value at c.ask-other.ensures.ok) c.if-is_err-2.ensures.negation
