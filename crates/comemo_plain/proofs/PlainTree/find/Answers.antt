use Rattle.std.proofs.Common.{◌≡◌, ◌∙◌, sym, ap, subst, List, None, inr}
use Rattle.comemo_base.specs.Tree.{Stored, IsSamePath}
use Rattle.comemo_base.specs.Lookup.{under}
use Rattle.comemo_base.proofs.Paths.{IfErr-refused, FindsAgreeing-from_asked, FindsAgreeingPath-from_asked, Agrees-asked, answers_next, IsSamePath-joined, IsSamePath-cloned}
use Rattle.comemo_plain.proofs.PlainTree.find.Goals as goal

pub get_in-requires-clause-callable : goal.get_in-requires-clause-callable
get_in-requires-clause-callable g c =
    let own : c.as_slice.result.now ≡ c.args.self.now = c.as_slice.ensures.value ∙ c.self.view_is in
    rw own c.requires.callable

pub returns-in_err-hit-clause-answered : goal.returns-in_err-hit-clause-answered
returns-in_err-hit-clause-answered g c = λ at.
    let h = c.in_err-hit.ensures.refused in
    absurd (answers_next g.O.FnMut c.args.oracle.now h.at c.get_in.new.oracle h.asked h.call _ at h.answered h.called)

pub returns-in_default-clause-asked : goal.returns-in_default-clause-asked
returns-in_default-clause-asked g c =
    let own : c.as_slice.result.now ≡ c.args.self.now = c.as_slice.ensures.value ∙ c.self.view_is in
    let led = rw (own, c.in_default.is) at c.in_ok-hit.ensures.asked in
    record { asked = led.0; answered = led.1; finds = led.2; path = tt }

pub returns-in_default-clause-agreeing : goal.returns-in_default-clause-agreeing
returns-in_default-clause-agreeing g c = λ m respects computed.
    let own : c.as_slice.result.now ≡ c.args.self.now = c.as_slice.ensures.value ∙ c.self.view_is in
    let led = rw (own, c.in_default.is) at c.in_ok-hit.ensures.asked in
    let tree = rw c.self.view_is at c.self.invariant in
    FindsAgreeing-from_asked g.met.C.Eq.laws g.met.R.Eq.laws m respects g.met.K.Eq.laws c.args.self.now c.args.key.now led.0 None tree (Agrees-asked g.O.FnMut g.R.PartialEq.eq m c.args.oracle.now c.get_in.new.oracle led.0 computed led.1) led.2

pub returns-in_err-path-clause-refused : goal.returns-in_err-path-clause-refused
returns-in_err-path-clause-refused g c =
    let own : c.as_slice.result.now ≡ c.args.self.now = c.as_slice.ensures.value ∙ c.self.view_is in
    let led = rw (own, c.in-Some.is) at c.in_ok-hit.ensures.asked in
    IfErr-refused c.from_residual-in_err-path.result _ (inr (c.in-Some.hit.now.value, record { asked = led.0; answered = led.1; finds = led.2 }))

pub returns-in_err-path-clause-answered : goal.returns-in_err-path-clause-answered
returns-in_err-path-clause-answered g c = λ at.
    let own : c.as_slice.result.now ≡ c.args.self.now = c.as_slice.ensures.value ∙ c.self.view_is in
    let led = rw (own, c.in-Some.is) at c.in_ok-hit.ensures.asked in
    IfErr-refused c.from_residual-in_err-path.result _ (c.in-Some.hit.now.value, record { asked = led.0; answered = led.1; finds = led.2 })

pub returns-clause-asked : goal.returns-clause-asked
returns-clause-asked g c =
    let own : c.as_slice.result.now ≡ c.args.self.now = c.as_slice.ensures.value ∙ c.self.view_is in
    let led = rw (own, c.in-Some.is) at c.in_ok-hit.ensures.asked in
    let a = led.2 in
    let path = subst (λ (ps : List (_ × _)). IsSamePath g.C.PartialEq.eq g.R.PartialEq.eq led.0 ps) (ap (λ (x : Stored _ _ _ _). x.path) (sym c.hit.view_is)) led.3 in
    let cloned = IsSamePath-cloned g.C.Clone.is_clone g.R.Clone.is_clone c.requires.calls_clone c.requires.answers_clone c.hit.inside.path.items c.in_ok-path.path.items c.in_ok-path.ensures.cases.0 in
    record {
      asked = led.0;
      answered = led.1;
      finds = (a.0, a.1, a.2, a.3, (a.4.0, a.4.1 ∙ ap (λ (x : Stored _ _ _ _). x.value) (sym c.hit.view_is)));
      path = IsSamePath-joined g.met.C.Eq.laws g.met.R.Eq.laws led.0 c.hit.inside.path.items c.in_ok-path.path.items path cloned;
    }

pub returns-clause-agreeing : goal.returns-clause-agreeing
returns-clause-agreeing g c = λ m respects computed.
    let own : c.as_slice.result.now ≡ c.args.self.now = c.as_slice.ensures.value ∙ c.self.view_is in
    let led = rw (own, c.in-Some.is) at c.in_ok-hit.ensures.asked in
    let a = led.2 in
    let path = subst (λ (ps : List (_ × _)). IsSamePath g.C.PartialEq.eq g.R.PartialEq.eq led.0 ps) (ap (λ (x : Stored _ _ _ _). x.path) (sym c.hit.view_is)) led.3 in
    let cloned = IsSamePath-cloned g.C.Clone.is_clone g.R.Clone.is_clone c.requires.calls_clone c.requires.answers_clone c.hit.inside.path.items c.in_ok-path.path.items c.in_ok-path.ensures.cases.0 in
    FindsAgreeingPath-from_asked g.met.C.Eq.laws g.met.R.Eq.laws m respects (under g.K.PartialEq.eq c.args.self.now c.args.key.now) led.0 c.in_ok-path.path.items c.hit.inside.value
    (Agrees-asked g.O.FnMut g.R.PartialEq.eq m c.args.oracle.now c.get_in.new.oracle led.0 computed led.1)
    (a.0, a.1, a.2, a.3, (a.4.0, a.4.1 ∙ ap (λ (x : Stored _ _ _ _). x.value) (sym c.hit.view_is)))
    (IsSamePath-joined g.met.C.Eq.laws g.met.R.Eq.laws led.0 c.hit.inside.path.items c.in_ok-path.path.items path cloned)
