use Rattle.std.proofs.Common.{◌≡◌, ◌++◌, take}
use Rattle.std.specs.List.{flat_map}
use Rattle.comemo_lang.specs.Checking.{missing}
use Rattle.comemo_lang.proofs.check.push_missing.Given as goal

abbrev pub invariant-loop-import : goal.invariant-loop-import
invariant-loop-import l = l.diagnostics.items ≡ l.initial.diagnostics.items ++ flat_map missing (take l.import-index l.imports)
