use Rattle.calc_core.proofs.files.text.Text.from_str.Goals as goal

pub returns : goal.returns
returns c = rw c.in_ok-own.ensures.ok at c.new.ensures
