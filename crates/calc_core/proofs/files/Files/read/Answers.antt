use Rattle.calc_core.proofs.Sizes.{mapped}
use Rattle.calc_core.proofs.files.Files.read.Goals as goal

pub returns : goal.returns
returns g c =
    let ok = rw c.fork-view.ensures at c.ask_through.ensures.ok in
    mapped (λ text asks. (c.in_ok-own.own, c.in_ok-own.ensures.ok, asks)) c.ask_through.result ok
