use Rattle.std.proofs.Common.{rules}
use Rattle.std.proofs.lemmas.Int.{wraps}
use Rattle.comemo_sheet.proofs.row.add.Goals as goal

pub returns : goal.returns
returns c = search (rules, wraps)
