-- The calls of files are told apart by their paths, and texts by their bytes.
use Rattle.std.proofs.Common.{◌≡◌, ◌&&◌, true, ℕ, List, IsTrue, String, string_bytes, string_eq, rules}
use Rattle.std.specs.Prelude.{bytes_eq}
use Rattle.std.specs.Cmp.{IsEquivalence}
use Rattle.std.specs.Global.{Global}
use Rattle.comemo.specs.Answers.{Respects}
use Rattle.calc_core.specs.declared.files.Files.{Files}
use Rattle.calc_core.specs.Files.{answers_of}
use Rattle.calc_core.specs.declared.files.FileCall.TheVariants.{Read}
use Rattle.calc_core.specs.contracts.files.FileCallPartialEq.TheImpl.{ghosts}

pub same_text : (a b : String Global) → string_bytes a ≡ string_bytes b → IsTrue (string_eq a b)
same_text a b h = search rules

-- the same of two keys, each a path and nothing more
pub key_bytes : (a b : String Global) → IsTrue (string_eq a b && true) → string_bytes a ≡ string_bytes b
key_bytes a b h = search rules

pub same_shared : (a b : List ℕ) → IsTrue (bytes_eq a b) → a ≡ b
same_shared a b h = search rules

pub same_texts : IsEquivalence bytes_eq
same_texts = search rules

pub same_calls : IsEquivalence ghosts.eq
same_calls = search rules

pub answers_alike : (files : Files) → Respects ghosts.eq bytes_eq (answers_of files)
answers_alike files (Read p) (Read q) h = search rules

pub key_alike : (a b : String Global) → string_bytes a ≡ string_bytes b → IsTrue (string_eq a b && true)
key_alike a b h = search rules
