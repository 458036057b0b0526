use Rattle.std.proofs.Common.{[], arith, rules}
use Rattle.calc_core.specs.Remembered.{none_asked}
use Rattle.calc_core.proofs.EachAnswer.{next_command, knows_nothing}
use Rattle.calc_core.proofs.sessions.session.Goals as goal

pub loop-command-init : goal.loop-command-init
loop-command-init c = record { long = search rules; room = search rules; each = ([], knows_nothing _, rw c.in_ok-answers.ensures.items none_asked) }

pub loop-command-preserved : goal.loop-command-preserved
loop-command-preserved c =
    let i = c.loop-command.invariant in
    let (left, knows, each) = i.each in
    let recalls = rw c.as_ref.ensures at (c.carry_out.ensures.recalls left knows) in
    record {
      long = omega (arith, c.push_reserved.ensures.len, i.long);
      room = omega (arith, c.push_reserved.ensures.capacity, i.room);
      each = (_, recalls.1, next_command c.args.commands.now c.loop-command.command-index c.command-item.result c.loop-command-test.true c.command-item.is c.push_reserved.ensures.items each (rw c.as_ref.ensures at c.carry_out.ensures.answer) recalls.0);
    }
