use Rattle.std.proofs.Common.{◌%◌, ◌^◌, ap}
use Rattle.comemo_base.proofs.sip.SipHasher13Hasher.finish.Goals as goal

pub returns : goal.returns
returns c = ap (λ n. n % 2 ^ 64) c.finish128.ensures.state
