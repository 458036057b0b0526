use Rattle.std.proofs.Common.{[], ◌∷◌, refl}
use Rattle.std.proofs.lemmas.List.Elements.{All-nil, All-cons}
use Rattle.comemo.proofs.Again.{agrees_again}
use Rattle.comemo_cache.specs.Meaning.{Meaning, IsRight}
use Rattle.comemo_theorems.specs.History.{evicted, Honest}
use Rattle.comemo_theorems.proofs.Lawful.{lawful}
use Rattle.comemo_theorems.proofs.Again.{again_of, replies_again}
use Rattle.comemo_theorems.proofs.requests.call_evict_call.Goals as goal

pub returns : goal.returns
returns g c = λ valid stored.
    let M : Meaning g.row.M-Key.Denot g.row.T-Call.Denot g.row.T-Answer.Denot g.row.M-Out.Denot = record { same_call = g.T.Call.PartialEq.eq; same_answer = g.T.Answer.PartialEq.eq; same_key = g.M.Key.PartialEq.eq; is_write = g.T.Call.Call.is_write; is_clone = g.M.Out.Clone.is_clone; right = IsRight g.M.Function.means g.M.Function.writes; naming = g.M.Function.naming } in
    let laws = lawful M g.met.T.Call.Eq.laws g.met.T.Answer.Eq.laws g.met.M.Key.Eq.laws g.met.M.Function.laws in
    let first = c.in_ok-first.ensures.reply in
    let after = g.T.Track.answers c.args.after.now in
    let respects = g.met.T.Track.alike c.args.after.now in
    let agrees = agrees_again g.met.T.Call.Eq.laws g.met.T.Answer.Eq.laws _ _ (g.met.T.Track.alike c.args.before.now) c.new-asked.ensures.pairs first after respects (c.in_ok-valid.ensures.ok.0 valid) in
    let again = again_of M laws _ _ first.pairs _ first.writes (g.met.M.Function.laws.key_clones _ _ c.in_ok-again.ensures.cases) respects agrees first.stands in
    let q = replies_again M laws _ _ (evicted c.args.max_age ∷ []) _ _ _ _ _ _ _ _ first stored (_, c.evict.ensures, refl) (All-cons (Honest M) (evicted c.args.max_age) [] tt (All-nil (Honest M))) (c.requires.low, tt) again refl c.in_ok-second.ensures.reply in
    (q.0, q.1.0, q.1.1, q.1.2)
