use Rattle.std.proofs.Common.{rules, append_assoc}
use Rattle.comemo_site.proofs.report.warning_line.Goals as goal

pub returns-in-Missing : goal.returns-in-Missing
returns-in-Missing c = rw (c.in-Missing.is, ← c.as_str-name.ensures) (simp append_assoc (search rules))

pub returns-in-TooDeep : goal.returns-in-TooDeep
returns-in-TooDeep c = rw (c.in-TooDeep.is, ← c.as_str-name-in-TooDeep.ensures) (simp append_assoc (search rules))
