use Rattle.std.specs.Prelude.{option_copied}
use Rattle.comemo_base.proofs.Runs.{get-found}
use Rattle.comemo_tree.proofs.settled.Settled.get.Goals as goal

pub get-requires : goal.get-requires
get-requires g c = rw (← c.self.view_is) at c.requires

pub returns-clause-asked : goal.returns-clause-asked
returns-clause-asked g c = rw c.self.view_is at c.get.ensures.asked

pub returns-clause-refused : goal.returns-clause-refused
returns-clause-refused g c = rw c.self.view_is at c.get.ensures.refused

pub returns-clause-agreeing : goal.returns-clause-agreeing
returns-clause-agreeing g c = rw c.self.view_is at c.get.ensures.agreeing

pub returns-clause-found : goal.returns-clause-found
returns-clause-found g c = λ m respects computed pairs has agrees.
    let tree = rw c.self.view_is at c.reveal_tree.ensures in
    let agreeing = rw c.self.view_is at c.get.ensures.agreeing in
    get-found g.met.A.Call.Eq.laws g.met.A.Answer.Eq.laws g.met.A.Key.Eq.laws c.args.self.now tree m respects c.args.key.now pairs agrees has option_copied c.get.result (agreeing m respects computed)
