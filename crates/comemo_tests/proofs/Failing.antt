-- How a run of a memoized function ended.
use Rattle.std.proofs.Common.{List, [], Result, Ok, Err, IfOk, refl}
use Rattle.comemo.specs.Sending.{BreaksOff}
use Rattle.comemo_tests.specs.Broken.{IsBroken}

-- the run was given up: its sink took nothing
pub given_up : {S C R : Type 0} {took : S → S → List (C × R) → List C → Type 0} {spoils : S → S → Type 0} → ((s : S) → took s s [] []) → {X : Type 0} → X → (s t : S) → spoils s t → X × IsBroken (BreaksOff took spoils s t)
given_up starts x s t spoiled = (x, ([], record { prefix = []; rest = []; parts = refl; mid = s; taken = starts s; spoiled = spoiled }))

-- if P implies Q for each output, it does for a reply
pub on_reply : {A E : Type 0} {P Q : A → Type 0} → ((a : A) → P a → Q a) → (r : Result A E) → IfOk r P → IfOk r Q
on_reply f (Ok a) p = f a p
on_reply f (Err e) p = tt
