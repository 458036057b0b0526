use Rattle.std.proofs.Common.{nat_eq}
use Rattle.std.specs.List.{All}
use Rattle.comemo_tree.specs.StepLists.{InsertsRun}
use Rattle.comemo_examples.specs.PlaceCalls.{AsksPlace}
use Rattle.comemo_examples.specs.contracts.places.PlaceCallPartialEq.TheImpl as call
use Rattle.comemo_examples.proofs.places.steps_below.Given as goal

-- the steps so far store runs
abbrev pub invariant-loop-location : goal.invariant-loop-location
invariant-loop-location l = All (InsertsRun call.ghosts.eq nat_eq (λ k m c. AsksPlace m c)) l.steps.items
