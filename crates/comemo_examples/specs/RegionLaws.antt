-- Equal questions to a region have equal answers.
use Rattle.std.proofs.Common.{rules}
use Rattle.std.specs.Prelude.{nat_eq}
use Rattle.comemo.specs.Answers.{Respects}
use Rattle.comemo_examples.specs.Towns.{asked}
use Rattle.comemo_examples.specs.Regions.{town_of}
use Rattle.comemo_examples.specs.declared.region.Region.{Region}
use Rattle.comemo_examples.specs.contracts.region.RegionCallPartialEq.TheImpl as call

pub each_alike : (s : Region) → Respects call.ghosts.eq nat_eq (λ of. asked (town_of of.place s).people (town_of of.place s).degrees of.call)
each_alike s x y h = search rules
