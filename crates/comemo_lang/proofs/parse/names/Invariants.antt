use Rattle.std.proofs.Common.{◌≡◌, take, length}
use Rattle.std.specs.List.{flat_map, slice_split}
use Rattle.std.specs.Str.{trim}
use Rattle.comemo_lang.specs.Syntax.{is_plus, named}
use Rattle.comemo_lang.proofs.parse.names.Given as goal

abbrev pub invariant-loop-term : goal.invariant-loop-term
invariant-loop-term l = l.names.items ≡ flat_map (λ term. named (trim term)) (take (length l.yielded) (slice_split is_plus l.expression))
