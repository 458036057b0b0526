-- What an example function asks.
use Rattle.std.specs.Prelude.{ℕ, IsTrue, nat_eq}
use Rattle.comemo_examples.specs.declared.letters.Letter.{Letter}
use Rattle.comemo_examples.specs.declared.letters.Letter.TheVariants.{A, B, C}

-- A and B are asked, and also C if the answer to A is 1
abbrev pub AsksLetter : (Letter → ℕ) → Letter → Type 0
AsksLetter m A = Unit {0}
AsksLetter m B = Unit {0}
AsksLetter m C = IsTrue (nat_eq (m A) 1)
