use Rattle.std.proofs.Common.{◌≡◌, length, take}
use Rattle.std.specs.List.{flat_map}
use Rattle.comemo_site.specs.Lines.{included, parts_of}
use Rattle.comemo_site.proofs.parse.pages_in.Given as goal

abbrev pub invariant-loop-line : goal.invariant-loop-line
invariant-loop-line l = l.pages.items ≡ flat_map included (take (length l.yielded) (parts_of l.source))
