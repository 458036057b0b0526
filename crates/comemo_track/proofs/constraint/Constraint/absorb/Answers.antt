use Rattle.std.proofs.Common.{rules, ap, refl, arith}
use Rattle.comemo_track.specs.Recording.{Recording}
use Rattle.comemo_track.proofs.Recordings.{spoiled_at}
use Rattle.comemo_track.proofs.Sendings.{on_err}
use Rattle.comemo_track.proofs.constraint.Constraint.absorb.Goals as goal

pub returns-then-is_err-clause-err : goal.returns-then-is_err-clause-err
returns-then-is_err-clause-err g c =
    let r = c.absorb_parts-absorbed.result in
    spoiled_at g.C.PartialEq.eq g.C.Call.touches r c.args.self.now c.absorb_parts-absorbed.new.self _ c.absorb_parts-absorbed.ensures.err (ap (λ (s : Recording _ _). s.pairs) c.self.view_is) (ap (λ (s : Recording _ _). s.writes) c.self.view_is) (ap (λ (s : Recording _ _). s.late) c.self.view_is) (on_err r refl)

pub returns-clause-late : goal.returns-clause-late
returns-clause-late g c = grind arith steps 300000

pub returns-clause-pairs : goal.returns-clause-pairs
returns-clause-pairs g c = search rules

pub returns-clause-writes : goal.returns-clause-writes
returns-clause-writes g c = search rules

pub returns-clause-complete : goal.returns-clause-complete
returns-clause-complete g c = search rules
