use Rattle.std.proofs.Common.{◌∙◌, sym, ap, subst, List, arith, take, ◌+◌}
use Rattle.std.proofs.lemmas.List.{take_all}
use Rattle.comemo_base.specs.Sequence.{remaining}
use Rattle.comemo_base.specs.Tree.{IsSamePath}
use Rattle.comemo_base.proofs.Paths.{turned}
use Rattle.comemo_track.proofs.Copies.{copied, skipped}
use Rattle.comemo.proofs.pending.copy_pairs.Goals as goal
use Rattle.comemo.proofs.pending.copy_pairs.Goals.{in-Some+in_ok-call+in_ok-answer+in_ok-push, in_default}

pub loop-slot-preserved : goal.loop-slot-preserved
loop-slot-preserved g c =
    let slots = c.slots-slot-items.result.now in
    let i = c.loop-slot.slot-index in
    let slot = c.slot-item.result in
    let P = λ (ps : List (_ × _)). IsSamePath g.C.PartialEq.eq g.R.PartialEq.eq ps (remaining (take (i + 1) slots)) in
    elim c.match-slot.branch [
      | in-Some+in_ok-call+in_ok-answer+in_ok-push w ↦
          let call = turned g.met.C.Eq.laws w.in-Some.call w.in_ok-call.call (g.met.C.Call.laws.clones _ _ w.in_ok-call.ensures.cases) in
          let answer = turned g.met.R.Eq.laws w.in-Some.answer w.in_ok-answer.answer (c.requires _ _ w.in_ok-answer.ensures.cases) in
          subst P (sym (ap (λ v. v.items) w.pairs-is ∙ w.in_ok-push.ensures.items)) (copied g.C.PartialEq.eq g.R.PartialEq.eq slots i slot c.loop-slot-test.true c.slot-item.is c.loop-slot.pairs.items c.loop-slot.invariant (w.in_ok-call.call, w.in_ok-answer.answer) (w.in-Some.call, w.in-Some.answer) w.in-Some.is call answer)
      | in_default w ↦ subst P (sym (ap (λ v. v.items) w.pairs-is)) (skipped g.C.PartialEq.eq g.R.PartialEq.eq slots i slot c.loop-slot-test.true c.slot-item.is c.loop-slot.pairs.items c.loop-slot.invariant (λ q e. w.in_default.not-Some q e))
    ]

pub returns : goal.returns
returns g c =
    let slots = c.slots-slot-items.result.now in
    subst (λ qs. IsSamePath g.C.PartialEq.eq g.R.PartialEq.eq c.loop-slot.pairs.items qs) (ap remaining (take_all c.loop-slot.slot-index slots (omega arith)) ∙ c.slots-slot-items.ensures) c.loop-slot.invariant
