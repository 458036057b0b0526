use Rattle.std.proofs.Common.{refl}
use Rattle.calc_core.proofs.commands.command.CommandRef.to_owned.Goals as goal

pub returns-in_ok-text-in-Write : goal.returns-in_ok-text-in-Write
returns-in_ok-text-in-Write c = rw (c.in-Write.is, c.in_ok-path-in-Write.ensures.ok, c.in_ok-text-in-Write.ensures.ok) refl
