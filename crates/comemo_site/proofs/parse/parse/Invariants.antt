use Rattle.std.proofs.Common.{◌≡◌, length, drop}
use Rattle.comemo_site.specs.Lines.{blocks_of, pages_of, parts_of}
use Rattle.comemo_site.specs.Parsing.{whole}
use Rattle.comemo_site.proofs.parse.parse.Given as goal

abbrev pub invariant-loop-line : goal.invariant-loop-line
invariant-loop-line l = whole (pages_of l.source) l.parser (drop (length l.yielded) (parts_of l.source)) ≡ blocks_of l.source
