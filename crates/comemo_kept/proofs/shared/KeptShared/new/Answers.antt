use Rattle.comemo_kept.proofs.Sayings.{alike_of}
use Rattle.comemo_kept.proofs.shared.KeptShared.new.Goals as goal

pub new-requires : goal.new-requires
new-requires g c = alike_of g.met.T.Answer.Eq.laws (g.T.Track.answers c.args.value.now) (g.met.T.Track.alike c.args.value.now) g.B.Says.says c.requires
