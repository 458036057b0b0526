-- What a `Part` states about the bytes of a part.
use Rattle.std.specs.Prelude.{ℕ, List}
use Rattle.calc_core.specs.declared.scripts.part.Part.{Part}
use Rattle.calc_core.specs.declared.scripts.part.Part.TheVariants.{Eval, Number, Bad}
use Rattle.calc_core.specs.Parts.{IsEval, IsNumber, IsBad}

abbrev pub IsPart : List ℕ → Part → Type 0
IsPart bytes (Eval path) = IsEval bytes path.now
IsPart bytes (Number n) = IsNumber bytes n
IsPart bytes Bad = IsBad bytes
