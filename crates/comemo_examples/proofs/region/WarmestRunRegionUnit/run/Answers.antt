use Rattle.std.proofs.Common.{refl, rules}
use Rattle.comemo_examples.specs.Regions.{of}
use Rattle.comemo_examples.specs.declared.region.Place.TheVariants.{Coast, River, Hill}
use Rattle.comemo_examples.proofs.region.WarmestRunRegionUnit.run.Goals as goal

pub returns-clause-right : goal.returns-clause-right
returns-clause-right c = λ m f.
    let hill = c.in_ok-hill.ensures.tells in
    let river = c.in_ok-river.ensures.tells in
    let before = hill.before m f in
    search (rules, hill.told m f (λ call. m (of Hill call)) (λ _. refl), river.told m before (λ call. m (of River call)) (λ _. refl), c.in_ok-coast.ensures.tells.told m (river.before m before) (λ call. m (of Coast call)) (λ _. refl))
