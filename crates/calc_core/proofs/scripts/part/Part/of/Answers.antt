use Rattle.std.proofs.Common.{rules}
use Rattle.calc_core.proofs.scripts.part.Part.of.Goals as goal

pub returns-in-Some : goal.returns-in-Some
returns-in-Some c = search rules
