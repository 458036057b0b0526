use Rattle.std.proofs.Common.{◌≡◌, ◌++◌, take}
use Rattle.std.specs.List.{flat_map}
use Rattle.comemo_lang.specs.Checking.{unknown}
use Rattle.std.specs.HashSet.{contains}
use Rattle.std.specs.Prelude.{bytes_eq}
use Rattle.comemo_lang.proofs.check.push_unknown_names.Given as goal

abbrev pub invariant-loop-name : goal.invariant-loop-name
invariant-loop-name l = l.diagnostics.items ≡ l.initial.diagnostics.items ++ flat_map (unknown (contains bytes_eq l.known)) (take l.name-index l.names)
