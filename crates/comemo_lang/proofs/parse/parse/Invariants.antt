use Rattle.std.proofs.Common.{◌≡◌, take, length}
use Rattle.std.specs.List.{flat_map}
use Rattle.std.specs.Str.{trim}
use Rattle.std.specs.Str.Lines.{lines}
use Rattle.comemo_lang.specs.Syntax.{declared_by}
use Rattle.comemo_lang.proofs.parse.parse.Given as goal

abbrev pub invariant-loop-line : goal.invariant-loop-line
invariant-loop-line l = l.declarations.items ≡ flat_map (λ line. declared_by (trim line)) (take (length l.yielded) (lines l.text))
