use Rattle.std.proofs.Common.{◌++◌, Err, refl, subst}
use Rattle.calc_lines.specs.Started.{WritesPrefix}
use Rattle.calc_lines.proofs.program.start.Goals as goal

pub returns-in-Err-clause-ran : goal.returns-in-Err-clause-ran
returns-in-Err-clause-ran g c =
    let said = subst (λ end. WritesPrefix (g.E.Write.contents c.args.errors.now) (g.E.Write.contents c.put_message-in-Err.new.writer) (c.args.name.now ++ end)) c.message_end.ensures c.put_message-in-Err.ensures.prefix in
    λ _. (Err c.in-Err.fault, c.in-Err.ensures, refl, said)
