-- Equal contents have the same number, or none for the same reason.
use Rattle.std.proofs.Common.{◌≡◌, IsTrue, rules}
use Rattle.comemo_sheet.specs.Plain.{plain_number}
use Rattle.comemo_sheet.specs.declared.sheet.Content.{Content}
use Rattle.comemo_sheet.specs.contracts.sheet.ContentPartialEq.TheImpl as content

pub plain_alike : (x y : Content) → IsTrue (content.ghosts.eq x y) → plain_number x ≡ plain_number y
plain_alike x y h = search rules
