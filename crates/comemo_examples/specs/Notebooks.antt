-- What is in a notebook, and what its writes add.
use Rattle.std.specs.Prelude.{ℕ, Bool, true, false, List, [], ◌∷◌, refl}
use Rattle.std.specs.Coded.{Coded, code_by, coded×, coded_list, coded_ℕ}
use Rattle.comemo_examples.specs.declared.notebook.NotebookCall.{NotebookCall}
use Rattle.comemo_examples.specs.declared.notebook.NotebookCall.TheVariants.{Owner, Note}

-- its owner, the numbers on its lines, and how many lines it has room for
pub record Noted : Type 0 where
  pub owner : ℕ
  pub lines : List ℕ
  pub room : ℕ

abbrev pub noted_code : Coded Noted
noted_code = code_by (ℕ × (List ℕ × ℕ)) (coded× coded_ℕ (coded× (coded_list coded_ℕ) coded_ℕ)) (λ s. (s.owner, (s.lines, s.room))) (λ p. record { owner = p.0; lines = p.1.0; room = p.1.1 }) (λ _. refl)

-- which calls of a notebook are writes, and the lines that one adds
abbrev pub is_note : NotebookCall → Bool
is_note Owner = false
is_note (Note n) = true

abbrev pub noted : NotebookCall → List ℕ
noted Owner = []
noted (Note n) = n ∷ []
