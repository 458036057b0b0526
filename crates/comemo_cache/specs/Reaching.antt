-- What stays where a change doesn't reach.
use Rattle.std.specs.Prelude.{◌≡◌, ℕ, Bool, true, false, List, IsTrue}
use Rattle.comemo_base.specs.Answers.{Respects}
use Rattle.comemo_tree.specs.Reach.{is_one}
use Rattle.comemo_cache.specs.Meaning.{Meaning, Run, invocation}
use Rattle.comemo_cache.specs.Cache.{Entries, HasNone, HasAged}

-- the answers are the same but for these calls
abbrev pub DiffersAt : {C R : Type 0} → (C → C → Bool) → (R → R → Bool) → List C → (C → R) → (C → R) → Type 0
DiffersAt {C} eq same calls m n = (call : C) → is_one eq calls call ≡ false → IsTrue (same (m call) (n call))

-- Answers changed at these calls alone. What a look-up under the key found before, it finds now; where it found nothing, it finds
-- nothing now; and what was right by a run that is kept, is right now.
pub record StaysUnreached {K C R O : Type 0} (M : Meaning K C R O) (calls : List C) (es : Entries K C R O) (key : K) : Type 0 where
  pub hit : (m n : C → R) → DiffersAt M.same_call M.same_answer calls m n → (ran : Run K C R O) (age : ℕ) → HasAged M es (invocation key m true) ran age → HasAged M es (invocation key n true) ran age
  pub miss : (m n : C → R) → DiffersAt M.same_call M.same_answer calls m n → HasNone M es (invocation key m true) → HasNone M es (invocation key n true)
  pub right : (m n : C → R) → DiffersAt M.same_call M.same_answer calls m n → Respects M.same_call M.same_answer n → (ran : Run K C R O) → (age : ℕ) → HasAged M es (invocation key m true) ran age → M.right key n ran.output ran.writes
