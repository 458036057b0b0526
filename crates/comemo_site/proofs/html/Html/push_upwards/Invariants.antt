use Rattle.std.proofs.Common.{◌≡◌, ◌++◌, take}
use Rattle.comemo_site.specs.Html.{upwards}
use Rattle.comemo_site.proofs.html.Html.push_upwards.Given as goal

abbrev pub invariant-loop-byte : goal.invariant-loop-byte
invariant-loop-byte l = l.self ≡ l.initial.self ++ upwards (take l.byte-index l.byte-items)
