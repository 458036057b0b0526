use Rattle.std.proofs.Common.{◌≡◌, ◌++◌, take}
use Rattle.std.specs.List.{flat_map}
use Rattle.comemo_lang.specs.Checking.{unknown_in}
use Rattle.std.specs.HashSet.{contains}
use Rattle.std.specs.Prelude.{bytes_eq}
use Rattle.comemo_lang.proofs.check.push_unknown.Given as goal

abbrev pub invariant-loop-declaration : goal.invariant-loop-declaration
invariant-loop-declaration l = l.diagnostics.items ≡ l.initial.diagnostics.items ++ flat_map (unknown_in (contains bytes_eq l.known)) (take l.declaration-index l.declarations)
