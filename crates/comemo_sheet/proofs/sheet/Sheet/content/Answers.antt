use Rattle.std.proofs.Common.{rules, ◌≡◌}
use Rattle.comemo_sheet.specs.Sheets.{content_of}
use Rattle.comemo_sheet.specs.SheetLaws.{content_clones}
use Rattle.comemo_sheet.proofs.sheet.Sheet.content.Goals as goal

pub returns : goal.returns
returns c = let e : content_of c.args.self.now.cells c.args.name.now ≡ c.in-Some.content.now = search rules in rw e (content_clones c.in-Some.content.now c.in_ok-own.own c.in_ok-own.ensures.cases)
