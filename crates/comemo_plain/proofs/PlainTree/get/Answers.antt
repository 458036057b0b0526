use Rattle.std.proofs.Common.{◌≡◌, ◌∙◌, sym, ap, Some, None}
use Rattle.comemo_base.specs.Tree.{Stored}
use Rattle.comemo_base.proofs.Paths.{FindsAgreeing-from_asked, Agrees-asked, answers_next}
use Rattle.comemo_plain.proofs.PlainTree.get.Goals as goal

pub get_in-requires-clause-callable : goal.get_in-requires-clause-callable
get_in-requires-clause-callable g c =
    let own : c.as_slice.result.now ≡ c.args.self.now = c.as_slice.ensures.value ∙ c.self.view_is in
    rw own c.requires

pub returns-in_err-entry-clause-answered : goal.returns-in_err-entry-clause-answered
returns-in_err-entry-clause-answered g c = λ at.
    let h = c.in_err-entry.ensures.refused in
    absurd (answers_next g.O.FnMut c.args.oracle.now h.at c.get_in.new.oracle h.asked h.call _ at h.answered h.called)

pub returns-in_default-clause-asked : goal.returns-in_default-clause-asked
returns-in_default-clause-asked g c =
    let own : c.as_slice.result.now ≡ c.args.self.now = c.as_slice.ensures.value ∙ c.self.view_is in
    let led = rw (own, c.in_default.is) at c.in_ok-entry.ensures.asked in
    record { asked = led.0; answered = led.1; finds = led.2 }

pub returns-in_default-clause-agreeing : goal.returns-in_default-clause-agreeing
returns-in_default-clause-agreeing g c = λ m respects computed.
    let own : c.as_slice.result.now ≡ c.args.self.now = c.as_slice.ensures.value ∙ c.self.view_is in
    let led = rw (own, c.in_default.is) at c.in_ok-entry.ensures.asked in
    let tree = rw c.self.view_is at c.self.invariant in
    FindsAgreeing-from_asked g.met.C.Eq.laws g.met.R.Eq.laws m respects g.met.K.Eq.laws c.args.self.now c.args.key.now led.0 None tree (Agrees-asked g.O.FnMut g.R.PartialEq.eq m c.args.oracle.now c.get_in.new.oracle led.0 computed led.1) led.2

pub returns-clause-asked : goal.returns-clause-asked
returns-clause-asked g c =
    let own : c.as_slice.result.now ≡ c.args.self.now = c.as_slice.ensures.value ∙ c.self.view_is in
    let led = rw (own, c.in-Some.is) at c.in_ok-entry.ensures.asked in
    let a = led.2 in
    record { asked = led.0; answered = led.1; finds = (a.0, a.1, a.2, a.3, (a.4.0, a.4.1 ∙ ap (λ (x : Stored _ _ _ _). x.value) (sym c.entry.view_is))) }

pub returns-clause-agreeing : goal.returns-clause-agreeing
returns-clause-agreeing g c = λ m respects computed.
    let own : c.as_slice.result.now ≡ c.args.self.now = c.as_slice.ensures.value ∙ c.self.view_is in
    let led = rw (own, c.in-Some.is) at c.in_ok-entry.ensures.asked in
    let tree = rw c.self.view_is at c.self.invariant in
    let a = FindsAgreeing-from_asked g.met.C.Eq.laws g.met.R.Eq.laws m respects g.met.K.Eq.laws c.args.self.now c.args.key.now led.0 (Some c.in-Some.entry.now.value) tree (Agrees-asked g.O.FnMut g.R.PartialEq.eq m c.args.oracle.now c.get_in.new.oracle led.0 computed led.1) led.2 in
    (a.0, a.1, a.2, a.3, (a.4.0, a.4.1 ∙ ap (λ (x : Stored _ _ _ _). x.value) (sym c.entry.view_is)))
