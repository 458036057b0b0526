use Rattle.std.specs.List.{All}
use Rattle.std.proofs.Common.{◌≡◌, [], IsTrue, true, false, inl, refl}
use Rattle.comemo_base.proofs.Paths.{turned, joined}
use Rattle.comemo_cache.specs.Meaning.{Meaning, IsNamedRun, run, invocation}
use Rattle.comemo_cache.specs.Cache.{HasAged, IsPeeked, Stands}
use Rattle.comemo_cache.specs.Found.{TouchesFound}
use Rattle.comemo_cache.specs.Held.{Held, Leads}
use Rattle.comemo_cache.proofs.Entries.{HasNone-alike}
use Rattle.comemo_cache.proofs.Holding.{held_any, held_map, leads_map, stayed, hit_held}
use Rattle.comemo_cache.proofs.Peeking.{HasAged-moved}
use Rattle.comemo_cache.proofs.Sendings.{breaks_at_once}
use Rattle.comemo_cache.proofs.Touching.{Touches-alike}
use Rattle.comemo.proofs.Calls.{fault_is}
use Rattle.comemo.proofs.Hits.{hit_of, broken_of, stopped_of}
use Rattle.comemo_cache.specs.Meaning.{IsRight}
use Rattle.comemo.proofs.pending.look_hit.Goals as goal

pub returns-in-Ok-None-clause-none : goal.returns-in-Ok-None-clause-none
returns-in-Ok-None-clause-none g c =
    let M : Meaning g.row.M-Key.Denot g.row.M-Call.Denot g.row.M-Answer.Denot g.row.M-Out.Denot = record { same_call = g.M.Call.PartialEq.eq; same_answer = g.M.Answer.PartialEq.eq; same_key = g.M.Key.PartialEq.eq; is_write = g.M.Call.Call.is_write; is_clone = g.M.Out.Clone.is_clone; right = IsRight g.M.Function.means g.M.Function.writes; naming = g.M.Function.naming } in
    let none = rw (c.in-Ok-None.is, c.in-Ok-None.field-0-is) at c.look.ensures.found in
    (held_map (g.H.Hold.entries c.args.cache.now) _ _ (λ es n. HasNone-alike M g.met.M.Key.Eq.laws es c.args.key.now (g.In.Input.key_of c.args.input.now) (turned g.met.M.Key.Eq.laws _ _ c.requires) (g.In.Input.answers c.args.input.now) true true n) none, c.look.ensures.same, refl, c.look.ensures.stays)

pub returns-in-Err-clause-err : goal.returns-in-Err-clause-err
returns-in-Err-clause-err g c = λ s before. (c.look.ensures.stays, g.met.In.Input.joins _ _ _ [] [] before c.look.ensures.same, held_any (g.H.Hold.entries c.args.cache.now) [] _ (λ es. record { pairs = []; found = inl refl; agrees = tt; is_broken = breaks_at_once g.met.S.Sink.starts _ _ [] c.spoil.ensures }))

pub returns-in_ok-output-in-Ok-Some-clause-hit : goal.returns-in_ok-output-in-Ok-Some-clause-hit
returns-in_ok-output-in-Ok-Some-clause-hit g c =
    let M : Meaning g.row.M-Key.Denot g.row.M-Call.Denot g.row.M-Answer.Denot g.row.M-Out.Denot = record { same_call = g.M.Call.PartialEq.eq; same_answer = g.M.Answer.PartialEq.eq; same_key = g.M.Key.PartialEq.eq; is_write = g.M.Call.Call.is_write; is_clone = g.M.Out.Clone.is_clone; right = IsRight g.M.Function.means g.M.Function.writes; naming = g.M.Function.naming } in
    let calls = g.met.M.Call.Eq.laws in
    let answers = g.met.M.Answer.Eq.laws in
    let keys = g.met.M.Key.Eq.laws in
    let o = g.H.Hold.entries c.args.cache.now in
    let o' = g.H.Hold.entries c.give_found.new.cache in
    let key = c.args.key.now in
    let found = c.in-Ok-Some.found in
    let ran = run key found.pairs.items found.output found.writes.items in
    let reads : All (λ p. M.is_write p.0 ≡ false) found.pairs.items = rw (c.in-Ok-Some.is, c.in-Ok-Some.field-0-is) at c.look.ensures.reads in
    let written : All (λ w. M.is_write w ≡ true) found.writes.items = rw (c.in-Ok-Some.is, c.in-Ok-Some.field-0-is) at c.look.ensures.written in
    let stands : Stands M ran = rw (c.in-Ok-Some.is, c.in-Ok-Some.field-0-is) at c.look.ensures.stands in
    let settled : IsNamedRun M key found.pairs.items = rw (c.in-Ok-Some.is, c.in-Ok-Some.field-0-is) at c.look.ensures.settled in
    let aged : Held o (λ es. HasAged M es (invocation key (g.In.Input.answers c.args.input.now) true) ran found.age) = rw (c.in-Ok-Some.is, c.in-Ok-Some.field-0-is) at c.look.ensures.found in
    let touched : Leads o o' (TouchesFound M.same_answer M.same_key key found.pairs.items found.age) = rw (stayed _ _ c.look.ensures.stays) at c.in_ok-output-in-Ok-Some.ensures.touched in
    rw c.in_ok-output-in-Ok-Some.ensures.output (λ s before.
    let n = g.In.Input.answers s in
    let alike = turned keys _ _ (joined keys (g.In.Input.key_of s) (g.In.Input.key_of c.args.input.now) key (g.met.In.Input.keeps_key s c.args.input.now [] before) c.requires) in
    let moves : (call : g.row.M-Call.Denot) → M.is_write call ≡ false → IsTrue (M.same_answer (g.In.Input.answers c.args.input.now call) (n call)) = λ call read. turned answers _ _ (g.met.In.Input.keeps s c.args.input.now [] before call read refl) in
    let own : Held o (λ es. HasAged M es (invocation key n true) ran found.age) = held_map o _ _ (λ es k. HasAged-moved M calls answers g.met.M.Call.Call.laws.same_kind (g.In.Input.answers c.args.input.now) n moves key true ran reads es found.age k) aged in
    let same = g.met.In.Input.joins _ _ _ [] [] before c.look.ensures.same in
    leads_map o o' _ _ (λ es es' k.
    let peeked : IsPeeked M es (invocation key n true) found.output found.writes.items found.age = record { pairs = found.pairs.items; kept = k.0; stands = stands; reads = reads; written = written; settled = settled } in (
      hit_of M calls answers keys g.met.M.Function.laws key (g.In.Input.key_of s) alike n (g.met.In.Input.alike s) es peeked (g.met.In.Input.joins _ _ _ [] found.writes.items same c.in_ok-output-in-Ok-Some.ensures.done) c.in_ok-output-in-Ok-Some.ensures.sent,
      Touches-alike M keys es es' key (g.In.Input.key_of s) alike n true true k.1,
    )) (hit_held M (invocation key n true) ran found.age answers keys o o' c.look.ensures.tree own touched))

pub returns-in_err-output-in-Ok-Some-clause-err : goal.returns-in_err-output-in-Ok-Some-clause-err
returns-in_err-output-in-Ok-Some-clause-err g c =
    let M : Meaning g.row.M-Key.Denot g.row.M-Call.Denot g.row.M-Answer.Denot g.row.M-Out.Denot = record { same_call = g.M.Call.PartialEq.eq; same_answer = g.M.Answer.PartialEq.eq; same_key = g.M.Key.PartialEq.eq; is_write = g.M.Call.Call.is_write; is_clone = g.M.Out.Clone.is_clone; right = IsRight g.M.Function.means g.M.Function.writes; naming = g.M.Function.naming } in
    let calls = g.met.M.Call.Eq.laws in
    let answers = g.met.M.Answer.Eq.laws in
    let keys = g.met.M.Key.Eq.laws in
    let o = g.H.Hold.entries c.args.cache.now in
    let o' = g.H.Hold.entries c.give_found.new.cache in
    let key = c.args.key.now in
    let found = c.in-Ok-Some.found in
    let ran = run key found.pairs.items found.output found.writes.items in
    let reads : All (λ p. M.is_write p.0 ≡ false) found.pairs.items = rw (c.in-Ok-Some.is, c.in-Ok-Some.field-0-is) at c.look.ensures.reads in
    let written : All (λ w. M.is_write w ≡ true) found.writes.items = rw (c.in-Ok-Some.is, c.in-Ok-Some.field-0-is) at c.look.ensures.written in
    let stands : Stands M ran = rw (c.in-Ok-Some.is, c.in-Ok-Some.field-0-is) at c.look.ensures.stands in
    let settled : IsNamedRun M key found.pairs.items = rw (c.in-Ok-Some.is, c.in-Ok-Some.field-0-is) at c.look.ensures.settled in
    let aged : Held o (λ es. HasAged M es (invocation key (g.In.Input.answers c.args.input.now) true) ran found.age) = rw (c.in-Ok-Some.is, c.in-Ok-Some.field-0-is) at c.look.ensures.found in
    fault_is c.from_residual.result c.in_err-output-in-Ok-Some.field-0.0 c.from_residual.ensures.1 _ c.in_err-output-in-Ok-Some.ensures.err _
    (λ memory s before.
    let n = g.In.Input.answers s in
    let alike = turned keys _ _ (joined keys (g.In.Input.key_of s) (g.In.Input.key_of c.args.input.now) key (g.met.In.Input.keeps_key s c.args.input.now [] before) c.requires) in
    let moves : (call : g.row.M-Call.Denot) → M.is_write call ≡ false → IsTrue (M.same_answer (g.In.Input.answers c.args.input.now call) (n call)) = λ call read. turned answers _ _ (g.met.In.Input.keeps s c.args.input.now [] before call read refl) in
    let own : Held o (λ es. HasAged M es (invocation key n true) ran found.age) = held_map o _ _ (λ es k. HasAged-moved M calls answers g.met.M.Call.Call.laws.same_kind (g.In.Input.answers c.args.input.now) n moves key true ran reads es found.age k) aged in
    let same = g.met.In.Input.joins _ _ _ [] [] before c.look.ensures.same in (
      rw (stayed _ _ c.look.ensures.stays) at memory.0,
      g.met.In.Input.joins _ _ _ [] [] same memory.1,
      held_map o _ _ (λ es k.
          let peeked : IsPeeked M es (invocation key n true) found.output found.writes.items found.age = record { pairs = found.pairs.items; kept = k; stands = stands; reads = reads; written = written; settled = settled } in
          broken_of M calls answers keys g.met.M.Function.laws key (g.In.Input.key_of s) alike n (g.met.In.Input.alike s) es peeked memory.2) own,
    ))
    (λ stop s before.
    let n = g.In.Input.answers s in
    let alike = turned keys _ _ (joined keys (g.In.Input.key_of s) (g.In.Input.key_of c.args.input.now) key (g.met.In.Input.keeps_key s c.args.input.now [] before) c.requires) in
    let moves : (call : g.row.M-Call.Denot) → M.is_write call ≡ false → IsTrue (M.same_answer (g.In.Input.answers c.args.input.now call) (n call)) = λ call read. turned answers _ _ (g.met.In.Input.keeps s c.args.input.now [] before call read refl) in
    let own : Held o (λ es. HasAged M es (invocation key n true) ran found.age) = held_map o _ _ (λ es k. HasAged-moved M calls answers g.met.M.Call.Call.laws.same_kind (g.In.Input.answers c.args.input.now) n moves key true ran reads es found.age k) aged in
    let same = g.met.In.Input.joins _ _ _ [] [] before c.look.ensures.same in
    let touched : Leads o o' (TouchesFound M.same_answer M.same_key key found.pairs.items found.age) = rw (stayed _ _ c.look.ensures.stays) at stop.7 in
    leads_map o o' _ _ (λ es es' k.
    let peeked : IsPeeked M es (invocation key n true) found.output found.writes.items found.age = record { pairs = found.pairs.items; kept = k.0; stands = stands; reads = reads; written = written; settled = settled } in (
      Touches-alike M keys es es' key (g.In.Input.key_of s) alike n true true k.1,
      stopped_of M calls answers keys g.met.M.Function.laws key (g.In.Input.key_of s) alike n (g.met.In.Input.alike s) es peeked stop.0 stop.1 stop.2 stop.3 stop.6 (g.met.In.Input.joins _ _ _ [] stop.0 same stop.4) stop.5,
    )) (hit_held M (invocation key n true) ran found.age answers keys o o' c.look.ensures.tree own touched))
