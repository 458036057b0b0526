use Rattle.std.proofs.Common.{codes}
use Rattle.calc_lines.proofs.Seen.{RanAs_seen}
use Rattle.calc_core.specs.Sessions.{texts_in, Prints, Refuses}
use Rattle.calc_core.proofs.sessions.program.start.Goals as goal

pub returns-clause-ran : goal.returns-clause-ran
returns-clause-ran g c = λ no_words.
    (_, _, c.new-state.ensures, RanAs_seen texts_in _ _ Prints Refuses (λ s line text t p. p) (λ s line t p. p) (codes "calc") _ _ _ _ _ _ _ _ _ (c.start.ensures.ran no_words))
