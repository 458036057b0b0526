use Rattle.std.proofs.Common.{◌+◌, ◌∙◌, ◌++◌, ◌∷◌, [], take, drop, sym, ap, arith}
use Rattle.std.proofs.lemmas.List.{take_all}
use Rattle.comemo_base.specs.Sequence.{remaining}
use Rattle.comemo_track.specs.Writing.{touched}
use Rattle.comemo_track.proofs.Validating.{remaining_at}
use Rattle.comemo_track.proofs.Copies.{slot_more, slot_less}
use Rattle.comemo_track.proofs.Touching.{touched_at, untouched_push}
use Rattle.comemo_track.proofs.constraint.touch_some.Goals as goal
use Rattle.comemo_track.proofs.constraint.touch_some.Goals.{in-Some+else-touch, in_default}

pub returns-then-touch : goal.returns-then-touch
returns-then-touch g c =
    let slots = c.slots-slot-items.result.now in
    let i = c.loop-slot.slot-index in
    let parted = remaining_at slots i c.slot-item.result _ c.loop-slot-test.true c.slot-item.is c.in-Some.is in
    sym (ap (touched g.C.Call.touches c.args.writes.now.items) (sym c.slots-slot-items.ensures ∙ parted) ∙ touched_at g.C.Call.touches c.args.writes.now.items (remaining (take i slots)) (c.in-Some.call, c.in-Some.field-0-1) (remaining (drop (i + 1) slots)) (sym c.touch.ensures ∙ c.if-touch.true))

pub loop-slot-preserved : goal.loop-slot-preserved
loop-slot-preserved g c =
    let slots = c.slots-slot-items.result.now in
    let i = c.loop-slot.slot-index in
    let slot = c.slot-item.result in
    elim c.match-slot.branch [
      | in-Some+else-touch w ↦
          let more = slot_more slots i slot c.loop-slot-test.true c.slot-item.is ∙ ap (λ x. remaining (take i slots) ++ remaining (x ∷ [])) w.in-Some.is in
          ap (touched g.C.Call.touches c.args.writes.now.items) more ∙ untouched_push g.C.Call.touches c.args.writes.now.items (remaining (take i slots)) (w.in-Some.call, w.in-Some.field-0-1) c.loop-slot.invariant (sym w.touch.ensures ∙ w.if-touch.false)
      | in_default w ↦ ap (touched g.C.Call.touches c.args.writes.now.items) (slot_less slots i slot c.loop-slot-test.true c.slot-item.is (λ q e. w.in_default.not-Some q e)) ∙ c.loop-slot.invariant
    ]

pub returns : goal.returns
returns g c =
    let slots = c.slots-slot-items.result.now in
    let pairs = ap remaining (take_all c.loop-slot.slot-index slots (omega arith)) ∙ c.slots-slot-items.ensures in
    sym (ap (touched g.C.Call.touches c.args.writes.now.items) (sym pairs) ∙ c.loop-slot.invariant)
