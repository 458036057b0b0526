-- A session's answers to lines.
use Rattle.std.specs.Prelude.{ℕ, ◌<◌, List, [], ◌∷◌, ◌++◌, length, IsUtf8, codes}

-- what a line prints when the session is out of memory
abbrev pub out_of_memory : List ℕ
out_of_memory = codes "out of memory\n"

-- from the state s, the lines print this output and lead to the state t: the session is asked each line that is not empty, in order, and each of these is UTF-8
pub data Answered {S : Type 0} (answers : S → List ℕ → List ℕ → S → Type 0) (refuses : S → List ℕ → S → Type 0) : S → List (List ℕ) → List ℕ → S → Type 0 where
  no_line : {s : S} → Answered answers refuses s [] [] s
  empty_line : {s t : S} {lines : List (List ℕ)} {output : List ℕ} → Answered answers refuses s lines output t → Answered answers refuses s ([] ∷ lines) output t
  answered : {s m t : S} {line : List ℕ} (text : List ℕ) {lines : List (List ℕ)} (output : List ℕ)
      → 0 < length line → IsUtf8 line → answers s line text m → Answered answers refuses m lines output t → Answered answers refuses s (line ∷ lines) (text ++ output) t
  refused : {s m t : S} {line : List ℕ} {lines : List (List ℕ)} (output : List ℕ)
      → 0 < length line → IsUtf8 line → refuses s line m → Answered answers refuses m lines output t → Answered answers refuses s (line ∷ lines) (out_of_memory ++ output) t
