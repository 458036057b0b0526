-- The answers of a place.
use Rattle.std.specs.Prelude.{ℕ, String}
use Rattle.std.specs.Global.{Global}
use Rattle.bench_rows.specs.declared.place.PlaceCall.{PlaceCall}
use Rattle.bench_rows.specs.declared.place.PlaceCall.TheVariants.{Location, Styles}
use Rattle.bench_rows.specs.declared.place.PlaceAnswer.{PlaceAnswer}
use Rattle.bench_rows.specs.declared.place.PlaceAnswer.TheVariants.{At, Set}

abbrev pub place_answer : ℕ → String Global → PlaceCall → PlaceAnswer
place_answer location styles Location = At location
place_answer location styles Styles = Set styles
