use Rattle.std.proofs.Common.{◌≡◌}
use Rattle.comemo_lang.proofs.frontend.Frontend.export_all.Given as goal

abbrev pub invariant-loop-name : goal.invariant-loop-name
invariant-loop-name l = l.round.value ≡ l.initial.round.value
