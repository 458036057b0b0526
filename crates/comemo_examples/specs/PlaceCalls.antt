-- What a function of a place asks.
use Rattle.std.specs.Prelude.{ℕ, IsTrue, nat_eq}
use Rattle.comemo_examples.specs.declared.places.PlaceCall.{PlaceCall}
use Rattle.comemo_examples.specs.declared.places.PlaceCall.TheVariants.{Location, Styles}

-- the location is asked, and also the styles if it is 5
abbrev pub AsksPlace : (PlaceCall → ℕ) → PlaceCall → Type 0
AsksPlace m Location = Unit {0}
AsksPlace m Styles = IsTrue (nat_eq (m Location) 5)
