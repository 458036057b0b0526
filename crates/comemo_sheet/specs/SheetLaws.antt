-- A sheet answers equal calls alike, a clone of an answer is equal to it, and equal answers hold the same number and
-- names.
use Rattle.std.specs.Prelude.{◌≡◌, String, string_bytes}
use Rattle.std.specs.Global.{Global}
use Rattle.std.specs.HashMap.{HashMap}
use Rattle.std.specs.String.{string_eq}
use Rattle.std.specs.Cmp.Lexicographic.{pointwise}
use Rattle.std.proofs.Common.{IsTrue, rules}
use Rattle.comemo.specs.Answers.{Respects}
use Rattle.comemo.proofs.Texts.{bytes_of_equal, texts_refl, texts_clone}
use Rattle.comemo_sheet.specs.Sheets.{content_of, cell_answer, number_in, names_in}
use Rattle.comemo_sheet.specs.declared.sheet.Content.{Content}
use Rattle.comemo_sheet.specs.declared.sheet.SheetCall.TheVariants.{Cell}
use Rattle.comemo_sheet.specs.contracts.sheet.SheetCallPartialEq.TheImpl as call
use Rattle.comemo_sheet.specs.contracts.sheet.ContentPartialEq.TheImpl as content
use Rattle.comemo_sheet.specs.contracts.sheet.ContentClone.TheImpl as clone

pub content_refl : (x : Content) → IsTrue (content.ghosts.eq x x)
content_refl x = search (rules, texts_refl)

pub content_clones : (x y : Content) → clone.ghosts.is_clone x y → IsTrue (content.ghosts.eq x y)
content_clones x y h = search (rules, texts_clone)

pub cells_alike : {H : Type 0} (cells : HashMap (String Global) Content H) → Respects call.ghosts.eq content.ghosts.eq (cell_answer cells)
cells_alike cells (Cell a) (Cell b) h = let e : string_bytes a ≡ string_bytes b = bytes_of_equal a b h in rw e (content_refl (content_of cells (string_bytes b)))

pub number_alike : (x y : Content) → IsTrue (content.ghosts.eq x y) → number_in x ≡ number_in y
number_alike x y h = search rules

pub names_alike : (x y : Content) → IsTrue (content.ghosts.eq x y) → IsTrue (pointwise string_eq (names_in x) (names_in y))
names_alike x y h = search rules
