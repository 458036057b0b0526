-- What the weather answers.
use Rattle.std.specs.Prelude.{ℕ}
use Rattle.weather.specs.declared.weather.WeatherCall.{WeatherCall}
use Rattle.weather.specs.declared.weather.WeatherCall.TheVariants.{Degrees, Wind}

abbrev pub answer : ℕ → ℕ → WeatherCall → ℕ
answer degrees wind Degrees = degrees
answer degrees wind Wind = wind
