-- What a function for random steps asks, and sequences that become runs of it.
use Rattle.std.specs.Prelude.{◌≡◌, ◌+◌, ◌<◌, ℕ, cond, nat_eq}
use Rattle.comemo_base.specs.Sequence.{Sequence, was_seen, held}
use Rattle.comemo_base.specs.Runs.{IsCausal}

-- how many calls are asked under a key, if the call 0 has this answer
abbrev pub bound_of : ℕ → ℕ → ℕ
bound_of key first = cond (nat_eq first 1) (key + 3) key

-- the calls below the key are asked, and also the next three if the answer to the call 0 is 1
abbrev pub AsksCounted : ℕ → (ℕ → ℕ) → ℕ → Type 0
AsksCounted key m call = call < bound_of key (m 0)

-- each call was asked because of the pairs before it, and no pair was taken out
pub record IsDraft (key : ℕ) (s : Sequence ℕ ℕ) : Type 0 where
  pub causal : IsCausal nat_eq nat_eq (λ m call. AsksCounted key m call) s.pairs
  pub own : (call : ℕ) → was_seen nat_eq s call ≡ held nat_eq s.pairs call
