use Rattle.std.proofs.Common.{sym, ap, ◌∙◌, length}
use Rattle.calc_tests.proofs.AskedAgain.{stored_is_found, text_stays}
use Rattle.calc_tests.proofs.files.sized_around_a_write.Goals as goal

pub returns : goal.returns
returns c = λ was.
    let before = rw c.view.ensures at c.in_ok-before.ensures.reply in
    let after = rw c.view-2.ensures at c.in_ok-after.ensures.reply in
    let stays = text_stays c.args.files.now c.write.new.self c.args.path.now c.args.other c.args.text c.requires c.in-Ok.ensures.ok in
    (stored_is_found before was stays after, (rw c.view-2.ensures at c.in_ok-after.ensures.output) ∙ ap length stays ∙ sym (rw c.view.ensures at c.in_ok-before.ensures.output))
