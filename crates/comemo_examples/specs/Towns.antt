-- What a town answers.
use Rattle.std.specs.Prelude.{ℕ}
use Rattle.comemo_examples.specs.declared.town.TownCall.{TownCall}
use Rattle.comemo_examples.specs.declared.town.TownCall.TheVariants.{People, Degrees}

abbrev pub asked : ℕ → ℕ → TownCall → ℕ
asked people degrees People = people
asked people degrees Degrees = degrees
