use Rattle.std.proofs.Common.{◌≡◌, take}
use Rattle.std.specs.List.{flat_map}
use Rattle.comemo_lang.specs.Checking.{defined}
use Rattle.comemo_lang.proofs.names.defined_names.Given as goal

abbrev pub invariant-loop-declaration : goal.invariant-loop-declaration
invariant-loop-declaration l = l.names.items ≡ flat_map defined (take l.declaration-index l.declarations)
