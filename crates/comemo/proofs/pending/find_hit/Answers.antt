use Rattle.std.proofs.Common.{◌≡◌, [], IsTrue, true, false, arith, inl, refl}
use Rattle.std.proofs.lemmas.Result.{IfOk-weaker, IfErr-weaker}
use Rattle.std.proofs.lemmas.Option.{IfSome_then}
use Rattle.comemo_base.proofs.Paths.{turned, joined}
use Rattle.comemo_cache.specs.Meaning.{Meaning, run, invocation}
use Rattle.comemo_cache.specs.Cache.{IsPeeked}
use Rattle.comemo_cache.specs.Held.{Held}
use Rattle.comemo_cache.proofs.Entries.{HasNone-alike}
use Rattle.comemo_cache.proofs.Holding.{held_any, held_map, held_leads, some_held, stayed}
use Rattle.comemo_cache.proofs.Peeking.{none_left}
use Rattle.comemo_cache.proofs.Sendings.{breaks_at_once}
use Rattle.comemo_cache.proofs.Touching.{Touches-alike, young_touched}
use Rattle.comemo_cache.proofs.Writings.{took_run, spoiled_run}
use Rattle.comemo.proofs.Calls.{fault_handed}
use Rattle.comemo.proofs.Hits.{hit_of, stopped_of, none_mapped}
use Rattle.comemo_cache.specs.Meaning.{IsRight}
use Rattle.comemo.proofs.pending.find_hit.Goals as goal

pub returns-then-not-keeps_nothing-clause-hit : goal.returns-then-not-keeps_nothing-clause-hit
returns-then-not-keeps_nothing-clause-hit g c = IfOk-weaker c.look_hit.result _ _ (λ found k. IfSome_then found k (λ output h. h c.args.input.now (g.met.In.Input.starts c.args.input.now))) c.look_hit.ensures.hit

pub returns-then-not-keeps_nothing-clause-err : goal.returns-then-not-keeps_nothing-clause-err
returns-then-not-keeps_nothing-clause-err g c = IfErr-weaker c.look_hit.result _ _ (λ fault h. h c.args.input.now (g.met.In.Input.starts c.args.input.now)) c.look_hit.ensures.err

pub returns-in-Ok-None-clause-none : goal.returns-in-Ok-None-clause-none
returns-in-Ok-None-clause-none g c =
    let M : Meaning g.row.M-Key.Denot g.row.M-Call.Denot g.row.M-Answer.Denot g.row.M-Out.Denot = record { same_call = g.M.Call.PartialEq.eq; same_answer = g.M.Answer.PartialEq.eq; same_key = g.M.Key.PartialEq.eq; is_write = g.M.Call.Call.is_write; is_clone = g.M.Out.Clone.is_clone; right = IsRight g.M.Function.means g.M.Function.writes; naming = g.M.Function.naming } in
    let none = rw (c.in-Ok-None.is, c.in-Ok-None.field-0-is) at c.peek.ensures.found in
    (held_map (g.H.Hold.entries c.args.cache.now) _ _ (λ es n. HasNone-alike M g.met.M.Key.Eq.laws es c.args.key.now (g.In.Input.key_of c.args.input.now) (turned g.met.M.Key.Eq.laws _ _ c.requires) (g.In.Input.answers c.args.input.now) true true n) none, c.peek.ensures.same, refl, c.peek.ensures.stays)

pub returns-in-Err-clause-err : goal.returns-in-Err-clause-err
returns-in-Err-clause-err g c = (c.peek.ensures.stays, c.peek.ensures.same, held_any (g.H.Hold.entries c.args.cache.now) [] _ (λ es. record { pairs = []; found = inl refl; agrees = tt; is_broken = breaks_at_once g.met.S.Sink.starts _ _ [] c.spoil.ensures }))

pub give_peeked-requires : goal.give_peeked-requires
give_peeked-requires g c =
    let M : Meaning g.row.M-Key.Denot g.row.M-Call.Denot g.row.M-Answer.Denot g.row.M-Out.Denot = record { same_call = g.M.Call.PartialEq.eq; same_answer = g.M.Answer.PartialEq.eq; same_key = g.M.Key.PartialEq.eq; is_write = g.M.Call.Call.is_write; is_clone = g.M.Out.Clone.is_clone; right = IsRight g.M.Function.means g.M.Function.writes; naming = g.M.Function.naming } in
    let calls = g.met.M.Call.Eq.laws in
    let answers = g.met.M.Answer.Eq.laws in
    let keys = g.met.M.Key.Eq.laws in
    let m = g.In.Input.answers c.args.input.now in
    let own = g.In.Input.key_of c.args.input.now in
    let key = c.args.key.now in
    let alike = turned keys own key c.requires in
    let o = g.H.Hold.entries c.args.cache.now in
    let o' = g.H.Hold.entries c.peek.new.self in
    let peeked = c.in-Ok-Some.peeked in
    let found : Held o (λ es. IsPeeked M es (invocation key m true) peeked.output peeked.writes.items peeked.age) = rw (c.in-Ok-Some.is, c.in-Ok-Some.field-0-is) at c.peek.ensures.found in
    (some_held o _ found).1.written

pub returns-then-peeked-gt0-clause-hit : goal.returns-then-peeked-gt0-clause-hit
returns-then-peeked-gt0-clause-hit g c =
    let hit = rw (stayed (g.H.Hold.entries c.args.cache.now) (g.H.Hold.entries c.peek.new.self) c.peek.ensures.stays) at c.look_hit-then-peeked-gt0.ensures.hit in
    IfOk-weaker c.look_hit-then-peeked-gt0.result _ _ (λ found k. IfSome_then found k (λ output h. h c.args.input.now c.peek.ensures.same)) hit

pub returns-then-peeked-gt0-clause-err : goal.returns-then-peeked-gt0-clause-err
returns-then-peeked-gt0-clause-err g c =
    let err = rw (stayed (g.H.Hold.entries c.args.cache.now) (g.H.Hold.entries c.peek.new.self) c.peek.ensures.stays) at c.look_hit-then-peeked-gt0.ensures.err in
    IfErr-weaker c.look_hit-then-peeked-gt0.result _ _ (λ fault h. h c.args.input.now c.peek.ensures.same) err

pub returns-then-peeked-gt0-clause-none : goal.returns-then-peeked-gt0-clause-none
returns-then-peeked-gt0-clause-none g c =
    let M : Meaning g.row.M-Key.Denot g.row.M-Call.Denot g.row.M-Answer.Denot g.row.M-Out.Denot = record { same_call = g.M.Call.PartialEq.eq; same_answer = g.M.Answer.PartialEq.eq; same_key = g.M.Key.PartialEq.eq; is_write = g.M.Call.Call.is_write; is_clone = g.M.Out.Clone.is_clone; right = IsRight g.M.Function.means g.M.Function.writes; naming = g.M.Function.naming } in
    let keys = g.met.M.Key.Eq.laws in
    let s = c.args.input.now in
    let t = c.peek.new.input in
    let m = g.In.Input.answers s in
    let n = g.In.Input.answers t in
    let own = g.In.Input.key_of s in
    let then = g.In.Input.key_of t in
    let key = c.args.key.now in
    let alike = turned keys own key c.requires in
    let alike' = joined keys then own key (turned keys own then (g.met.In.Input.keeps_key s t [] c.peek.ensures.same)) c.requires in
    let o = g.H.Hold.entries c.args.cache.now in
    let o' = g.H.Hold.entries c.peek.new.self in
    let peeked = c.in-Ok-Some.peeked in
    let found : Held o (λ es. IsPeeked M es (invocation key m true) peeked.output peeked.writes.items peeked.age) = rw (c.in-Ok-Some.is, c.in-Ok-Some.field-0-is) at c.peek.ensures.found in
    let moves : (call : g.row.M-Call.Denot) → M.is_write call ≡ false → IsTrue (M.same_answer (m call) (n call)) = λ call read. g.met.In.Input.keeps s t [] c.peek.ensures.same call read refl in
    let none = rw (stayed o o' c.peek.ensures.stays) at c.look_hit-then-peeked-gt0.ensures.none in
    IfOk-weaker c.look_hit-then-peeked-gt0.result _ _ (λ h k. none_mapped h (λ is. (
      held_map o _ _ (λ es x. HasNone-alike M keys es key own alike m true true x) (none_left M g.met.M.Call.Eq.laws g.met.M.Answer.Eq.laws g.met.M.Call.Call.laws.same_kind m n moves key true peeked.output peeked.writes.items peeked.age o found (held_map o _ _ (λ es x. HasNone-alike M keys es then key alike' n true true x) is.0)),
      g.met.In.Input.joins _ _ _ [] [] c.peek.ensures.same is.1,
      is.2,
      is.3,
    )) k) none

pub returns-in_err-output-clause-err : goal.returns-in_err-output-clause-err
returns-in_err-output-clause-err g c =
    let M : Meaning g.row.M-Key.Denot g.row.M-Call.Denot g.row.M-Answer.Denot g.row.M-Out.Denot = record { same_call = g.M.Call.PartialEq.eq; same_answer = g.M.Answer.PartialEq.eq; same_key = g.M.Key.PartialEq.eq; is_write = g.M.Call.Call.is_write; is_clone = g.M.Out.Clone.is_clone; right = IsRight g.M.Function.means g.M.Function.writes; naming = g.M.Function.naming } in
    let calls = g.met.M.Call.Eq.laws in
    let answers = g.met.M.Answer.Eq.laws in
    let keys = g.met.M.Key.Eq.laws in
    let m = g.In.Input.answers c.args.input.now in
    let own = g.In.Input.key_of c.args.input.now in
    let key = c.args.key.now in
    let alike = turned keys own key c.requires in
    let o = g.H.Hold.entries c.args.cache.now in
    let o' = g.H.Hold.entries c.peek.new.self in
    let peeked = c.in-Ok-Some.peeked in
    let found : Held o (λ es. IsPeeked M es (invocation key m true) peeked.output peeked.writes.items peeked.age) = rw (c.in-Ok-Some.is, c.in-Ok-Some.field-0-is) at c.peek.ensures.found in
    let none : peeked.age ≡ 0 = omega arith in
    fault_handed c.from_residual.result c.in_err-output.field-0.0 c.from_residual.ensures.1 _ _ _ _ c.in_err-output.ensures.err
    (λ memory. (
      c.peek.ensures.stays,
      g.met.In.Input.joins _ _ _ [] [] c.peek.ensures.same memory.0,
      held_any o [] _ (λ es. record { pairs = []; found = inl refl; agrees = tt; is_broken = memory.1 }),
    ))
    (λ stop. held_leads o o' _ _ c.peek.ensures.stays (λ es k. (
      Touches-alike M keys es es key own alike m true true (young_touched M es (invocation key m true) (run key k.pairs peeked.output peeked.writes.items) peeked.age none k.kept),
      stopped_of M calls answers keys g.met.M.Function.laws key own alike m (g.met.In.Input.alike c.args.input.now) es k stop.0 stop.1 stop.2 stop.3 stop.6 (g.met.In.Input.joins _ _ _ [] stop.0 c.peek.ensures.same stop.4) (spoiled_run g.met.S.Sink.joins _ _ _ k.pairs stop.0 (c.keeps_nothing.ensures c.if-not-keeps_nothing.false k.pairs []).0 stop.5),
    )) found)

pub returns-clause-hit : goal.returns-clause-hit
returns-clause-hit g c =
    let M : Meaning g.row.M-Key.Denot g.row.M-Call.Denot g.row.M-Answer.Denot g.row.M-Out.Denot = record { same_call = g.M.Call.PartialEq.eq; same_answer = g.M.Answer.PartialEq.eq; same_key = g.M.Key.PartialEq.eq; is_write = g.M.Call.Call.is_write; is_clone = g.M.Out.Clone.is_clone; right = IsRight g.M.Function.means g.M.Function.writes; naming = g.M.Function.naming } in
    let calls = g.met.M.Call.Eq.laws in
    let answers = g.met.M.Answer.Eq.laws in
    let keys = g.met.M.Key.Eq.laws in
    let m = g.In.Input.answers c.args.input.now in
    let own = g.In.Input.key_of c.args.input.now in
    let key = c.args.key.now in
    let alike = turned keys own key c.requires in
    let o = g.H.Hold.entries c.args.cache.now in
    let o' = g.H.Hold.entries c.peek.new.self in
    let peeked = c.in-Ok-Some.peeked in
    let found : Held o (λ es. IsPeeked M es (invocation key m true) peeked.output peeked.writes.items peeked.age) = rw (c.in-Ok-Some.is, c.in-Ok-Some.field-0-is) at c.peek.ensures.found in
    let none : peeked.age ≡ 0 = omega arith in
    rw c.in_ok-output.ensures.output (held_leads o o' _ _ c.peek.ensures.stays (λ es k. (
      hit_of M calls answers keys g.met.M.Function.laws key own alike m (g.met.In.Input.alike c.args.input.now) es k (g.met.In.Input.joins _ _ _ [] peeked.writes.items c.peek.ensures.same c.in_ok-output.ensures.done) (took_run g.met.S.Sink.joins _ _ _ k.pairs peeked.writes.items (c.keeps_nothing.ensures c.if-not-keeps_nothing.false k.pairs []).0 c.in_ok-output.ensures.sent),
      Touches-alike M keys es es key own alike m true true (young_touched M es (invocation key m true) (run key k.pairs peeked.output peeked.writes.items) peeked.age none k.kept),
    )) found)
