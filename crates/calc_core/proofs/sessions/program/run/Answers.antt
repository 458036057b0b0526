use Rattle.calc_lines.proofs.Seen.{Ran_seen}
use Rattle.calc_core.specs.Sessions.{texts_in, Prints, Refuses}
use Rattle.calc_core.proofs.sessions.program.run.Goals as goal

pub returns : goal.returns
returns g c =
    (_, _, c.new.ensures, Ran_seen texts_in _ _ Prints Refuses (λ s line text t p. p) (λ s line t p. p) _ _ _ _ _ _ c.run.result c.run.ensures)
