-- What a region answers.
use Rattle.comemo_examples.specs.declared.town.Town.{Town}
use Rattle.comemo_examples.specs.declared.town.TownCall.{TownCall}
use Rattle.comemo_examples.specs.declared.region.Region.{Region}
use Rattle.comemo_examples.specs.declared.region.RegionCall.{RegionCall}
use Rattle.comemo_examples.specs.declared.region.Place.{Place}
use Rattle.comemo_examples.specs.declared.region.Place.TheVariants.{Coast, River, Hill}

-- the town at a place
abbrev pub town_of : Place → Region → Town
town_of Coast region = region.coast.now
town_of River region = region.river.now
town_of Hill region = region.hill.now

-- a question to the town at a place
abbrev pub of : Place → TownCall → RegionCall
of place call = record { place = place; call = call }
