use Rattle.comemo_base.proofs.sip.SipHasher13.new.Goals as goal

pub returns : goal.returns
returns c = c.new_with_keys.ensures
