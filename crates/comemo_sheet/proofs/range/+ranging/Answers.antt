use Rattle.std.proofs.Common.{rules, arith, ◌≡◌, ◌-◌, IsTrue, ℕ, suc, ℤ, pos, String, string_bytes, refl, sym, ◌∙◌}
use Rattle.std.specs.Prelude.{Option, Some}
use Rattle.std.specs.Global.{Global}
use Rattle.std.proofs.lemmas.List.{take_all}
use Rattle.std.proofs.lemmas.List.Sums.{fold_more}
use Rattle.std.proofs.lemmas.Int.{to_z-of_z}
use Rattle.comemo.specs.Answers.{Respects}
use Rattle.comemo.proofs.Texts.{equal_of_bytes, alike_of_told}
use Rattle.comemo_sheet.specs.Sheets.{number_in, names_in}
use Rattle.comemo_sheet.specs.Values.{both, sum_of, value_of}
use Rattle.comemo_sheet.specs.ValueLaws.{sum_alike, value_alike}
use Rattle.comemo_sheet.specs.declared.sheet.SheetCall.{SheetCall}
use Rattle.comemo_sheet.specs.declared.sheet.SheetCall.TheVariants.{Cell}
use Rattle.comemo_sheet.specs.declared.sheet.Content.{Content}
use Rattle.comemo_sheet.specs.contracts.sheet.SheetCallPartialEq.TheImpl as call
use Rattle.comemo_sheet.specs.contracts.sheet.ContentPartialEq.TheImpl as content
use Rattle.comemo.proofs.Recursions.{own_then}
use Rattle.comemo_sheet.proofs.range.+ranging.Goals.{ranged-in-Empty, ranged-in-Number, ranged-in-Sum+in_ok-value-in-Sum}
use Rattle.comemo_sheet.proofs.range.+ranging.Goals as goal

-- the value by a cell's content is the value of the cell
by_content : (m : SheetCall → Content) → Respects call.ghosts.eq content.ghosts.eq m → (less : ℕ) (name own : String Global) (told : Content) (value : Option ℤ) → string_bytes name ≡ string_bytes own → IsTrue (content.ghosts.eq (m (Cell own)) told) → value ≡ sum_of (value_of m less) (Some (number_in told)) (names_in told) → value ≡ value_of m (suc less) name
by_content m r less name own told value same h is = is ∙ alike_of_told m r (λ x. sum_of (value_of m less) (Some (number_in x)) (names_in x)) (sum_alike (value_of m less) (value_alike m r less)) (Cell own) (Cell name) told (equal_of_bytes own name same) h

pub range_total-loop-name-preserved : goal.range_total-loop-name-preserved
range_total-loop-name-preserved g t c =
    own_then c.loop-name.invariant c.in_ok-value.ensures (λ m f before told.
    let value : value_of m c.args.range.limit c.name-item.result ≡ c.in_ok-value.value = value_alike m f.respects c.args.range.limit c.name-item.result c.in_ok-clone.field-0 (equal_of_bytes c.name-item.result c.in_ok-clone.field-0 (search rules)) ∙ sym told in
    search (rules, c.sum-total.ensures, fold_more (λ total x. both total (value_of m c.args.range.limit x)) (Some (pos 0)) c.args.range.names.items c.loop-name.name-index c.name-item.result))

pub range_total-finish-requires-clause-right : goal.range_total-finish-requires-clause-right
range_total-finish-requires-clause-right g t c = λ m f. search (rules, take_all c.loop-name.name-index c.deref-name-items.result.now c.loop-name-test.false, c.deref-name-items.ensures, c.loop-name.invariant.told m f)

pub ranged-finish-requires-clause-right : goal.ranged-finish-requires-clause-right
ranged-finish-requires-clause-right g t c = λ m f.
    let less = c.args.limit - 1 in
    let deep : suc less ≡ c.args.limit = omega (arith, c.if-limit-eq0.false) in
    let same : string_bytes c.args.name ≡ string_bytes c.in_ok-clone.field-0 = search rules in
    let told = c.in_ok-content.ensures.tells.told m in
    let by = by_content m f.respects less c.args.name c.in_ok-clone.field-0 c.in_ok-content.content c.match-content.value same in
    rw (← deep) (elim c.match-content.branch [
      | ranged-in-Empty w ↦ by (told (rw w.run-is at f)) (rw (w.value-is, w.in-Empty.is) refl)
      | ranged-in-Number w ↦ by (told (rw w.run-is at f)) (rw (w.value-is, w.in-Number.is) (search (rules, to_z-of_z)))
      | ranged-in-Sum+in_ok-value-in-Sum w ↦
          let total = w.in_ok-value-in-Sum.ensures in
          by (told (total.before m (rw w.run-is at f))) (rw (w.value-is, w.in-Sum.is) (total.told m (rw w.run-is at f)))
    ])
