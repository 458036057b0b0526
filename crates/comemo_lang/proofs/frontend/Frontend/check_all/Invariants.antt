use Rattle.std.proofs.Common.{◌≡◌, take, map}
use Rattle.comemo_lang.specs.Checking.{check_of}
use Rattle.comemo_lang.specs.Projects.{source_of}
use Rattle.comemo_lang.proofs.frontend.Frontend.check_all.Given as goal

abbrev pub invariant-loop-name : goal.invariant-loop-name
invariant-loop-name l = (l.all.items ≡ map (check_of (source_of l.project)) (take l.name-index l.names)) × (l.round.value ≡ l.project)
