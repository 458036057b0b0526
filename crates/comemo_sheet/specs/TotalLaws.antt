-- Rows of equal names have the same total.
use Rattle.std.specs.Prelude.{◌≡◌, pos, List, String}
use Rattle.std.specs.Global.{Global}
use Rattle.std.specs.String.{string_eq}
use Rattle.std.specs.Cmp.Lexicographic.{pointwise}
use Rattle.std.proofs.Common.{IsTrue, ap}
use Rattle.comemo.specs.Answers.{Respects}
use Rattle.comemo.proofs.Texts.{fold_alike}
use Rattle.comemo_sheet.specs.SheetLaws.{number_alike}
use Rattle.comemo_sheet.specs.Totals.{plus, total_of}
use Rattle.comemo_sheet.specs.declared.sheet.SheetCall.{SheetCall}
use Rattle.comemo_sheet.specs.declared.sheet.SheetCall.TheVariants.{Cell}
use Rattle.comemo_sheet.specs.declared.sheet.Content.{Content}
use Rattle.comemo_sheet.specs.contracts.sheet.SheetCallPartialEq.TheImpl as call
use Rattle.comemo_sheet.specs.contracts.sheet.ContentPartialEq.TheImpl as content

pub total_alike : (m : SheetCall → Content) → Respects call.ghosts.eq content.ghosts.eq m → (xs ys : List (String Global)) → IsTrue (pointwise string_eq xs ys) → total_of m xs ≡ total_of m ys
total_alike m r xs ys e = fold_alike string_eq _ (λ total x y h. ap (plus total) (number_alike (m (Cell x)) (m (Cell y)) (r (Cell x) (Cell y) h))) (pos 0) xs ys e
