use Rattle.std.proofs.Common.{refl}
use Rattle.comemo.proofs.Again.{hits_again, finds_again}
use Rattle.comemo_tests.proofs.again.call_twice.Goals as goal

pub returns-clause-hit : goal.returns-clause-hit
returns-clause-hit g c = λ stored.
    let first = c.in_ok-first.ensures.reply in
    hits_again _ g.met.T.Answer.Eq.laws g.met.M.Key.Eq.laws first stored (g.met.M.Function.laws.key_clones _ _ c.in_ok-again.ensures.cases) (g.met.T.Track.alike c.args.of.now) first.agrees refl c.in_ok-second.ensures.reply

pub returns-clause-output : goal.returns-clause-output
returns-clause-output g c = λ stored.
    let first = c.in_ok-first.ensures.reply in
    let key = g.met.M.Function.laws.key_clones _ _ c.in_ok-again.ensures.cases in
    let respects = g.met.T.Track.alike c.args.of.now in
    finds_again _ g.met.T.Answer.Eq.laws g.met.M.Key.Eq.laws first stored key respects first.agrees refl c.in_ok-second.ensures.reply
