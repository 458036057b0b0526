use Rattle.std.proofs.Common.{◌≡◌, ◌++◌, take}
use Rattle.comemo_site.specs.Addresses.{encoded}
use Rattle.comemo_site.proofs.html.Html.push_name.Given as goal

abbrev pub invariant-loop-byte : goal.invariant-loop-byte
invariant-loop-byte l = l.self ≡ l.initial.self ++ encoded (take l.byte-index l.byte-items)
