use Rattle.std.proofs.Common.{◌≡◌, ◌++◌, take}
use Rattle.comemo_site.specs.Html.{escaped}
use Rattle.comemo_site.proofs.html.Html.push_text.Given as goal

abbrev pub invariant-loop-byte : goal.invariant-loop-byte
invariant-loop-byte l = l.self ≡ l.initial.self ++ escaped (take l.byte-index l.byte-items)
