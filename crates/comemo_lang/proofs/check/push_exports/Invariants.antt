use Rattle.std.proofs.Common.{◌≡◌, ◌++◌, take}
use Rattle.std.specs.List.{flat_map}
use Rattle.comemo_lang.specs.Checking.{brought}
use Rattle.comemo_lang.proofs.check.push_exports.Given as goal

abbrev pub invariant-loop-import : goal.invariant-loop-import
invariant-loop-import l = l.names.items ≡ l.initial.names.items ++ flat_map brought (take l.import-index l.imports)
