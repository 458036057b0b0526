use Rattle.std.proofs.Common.{rules, append_assoc}
use Rattle.comemo_site.proofs.report.round_line.Goals as goal

pub returns : goal.returns
returns c = simp append_assoc (search rules)
