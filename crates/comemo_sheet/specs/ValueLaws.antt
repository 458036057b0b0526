-- Cells of equal names have the same value.
use Rattle.std.specs.Prelude.{◌≡◌, refl, ℕ, zero, suc, ℤ, pos, List, Some, Option, String}
use Rattle.std.specs.Global.{Global}
use Rattle.std.specs.String.{string_eq}
use Rattle.std.specs.Cmp.Lexicographic.{pointwise}
use Rattle.std.proofs.Common.{IsTrue, ap}
use Rattle.comemo.specs.Answers.{Respects}
use Rattle.comemo.proofs.Texts.{fold_alike}
use Rattle.comemo_sheet.specs.Sheets.{number_in, names_in}
use Rattle.comemo_sheet.specs.SheetLaws.{number_alike, names_alike}
use Rattle.comemo_sheet.specs.Values.{both, sum_of, value_of}
use Rattle.comemo_sheet.specs.declared.sheet.SheetCall.{SheetCall}
use Rattle.comemo_sheet.specs.declared.sheet.SheetCall.TheVariants.{Cell}
use Rattle.comemo_sheet.specs.declared.sheet.Content.{Content}
use Rattle.comemo_sheet.specs.contracts.sheet.SheetCallPartialEq.TheImpl as call
use Rattle.comemo_sheet.specs.contracts.sheet.ContentPartialEq.TheImpl as content

-- if equal names have the same value, then lists of equal names have the same sum, and so have equal contents
pub names_alike_sum : (f : String Global → Option ℤ) → ((a b : String Global) → IsTrue (string_eq a b) → f a ≡ f b) → (start : Option ℤ) (xs ys : List (String Global)) → IsTrue (pointwise string_eq xs ys) → sum_of f start xs ≡ sum_of f start ys
names_alike_sum f alike start xs ys e = fold_alike string_eq _ (λ total a b h. ap (both total) (alike a b h)) start xs ys e

pub sum_alike : (f : String Global → Option ℤ) → ((a b : String Global) → IsTrue (string_eq a b) → f a ≡ f b) → (x y : Content) → IsTrue (content.ghosts.eq x y) → sum_of f (Some (number_in x)) (names_in x) ≡ sum_of f (Some (number_in y)) (names_in y)
sum_alike f alike x y e = rw (number_alike x y e) (names_alike_sum f alike (Some (number_in y)) (names_in x) (names_in y) (names_alike x y e))

pub value_alike : (m : SheetCall → Content) → Respects call.ghosts.eq content.ghosts.eq m → (limit : ℕ) (a b : String Global) → IsTrue (string_eq a b) → value_of m limit a ≡ value_of m limit b
value_alike m r zero a b e = refl
value_alike m r (suc limit) a b e = sum_alike (value_of m limit) (value_alike m r limit) (m (Cell a)) (m (Cell b)) (r (Cell a) (Cell b) e)

pub range_alike : (m : SheetCall → Content) → Respects call.ghosts.eq content.ghosts.eq m → (limit : ℕ) (xs ys : List (String Global)) → IsTrue (pointwise string_eq xs ys) → sum_of (value_of m limit) (Some (pos 0)) xs ≡ sum_of (value_of m limit) (Some (pos 0)) ys
range_alike m r limit xs ys e = names_alike_sum (value_of m limit) (value_alike m r limit) (Some (pos 0)) xs ys e
