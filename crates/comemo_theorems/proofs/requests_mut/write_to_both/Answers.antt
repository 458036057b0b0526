use Rattle.std.proofs.Common.{refl, ap}
use Rattle.comemo_cache.specs.Meaning.{Meaning, IsRight}
use Rattle.comemo_track.specs.Writing.{Done}
use Rattle.comemo_theorems.proofs.Lawful.{lawful}
use Rattle.comemo_theorems.proofs.Again.{replay_twice}
use Rattle.comemo_theorems.proofs.requests_mut.write_to_both.Goals as goal

pub returns : goal.returns
returns g c = λ stored.
    let M : Meaning g.row.M-Key.Denot g.row.T-Call.Denot g.row.T-Answer.Denot g.row.M-Out.Denot = record { same_call = g.T.Call.PartialEq.eq; same_answer = g.T.Answer.PartialEq.eq; same_key = g.M.Key.PartialEq.eq; is_write = g.T.Call.Call.is_write; is_clone = g.M.Out.Clone.is_clone; right = IsRight g.M.Function.means g.M.Function.writes; naming = g.M.Function.naming } in
    replay_twice M (lawful M g.met.T.Call.Eq.laws g.met.T.Answer.Eq.laws g.met.M.Key.Eq.laws g.met.M.Function.laws) {V = g.row.T.Denot} (Done g.T.Track.wrote g.T.Call.Call.is_write g.T.Call.Call.touches g.T.Answer.PartialEq.eq g.T.Track.answers) _ _ _ _ _ _ _ _ _ _ _ _ _ _ c.in_ok-first.ensures.reply stored (g.met.M.Function.laws.key_clones _ _ c.in_ok-again.ensures.cases) (g.met.T.Track.alike c.args.two.now) (ap g.T.Track.answers c.requires) refl c.in_ok-second.ensures.reply
