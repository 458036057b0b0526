use Rattle.std.proofs.Common.{Vec, Global, arith, rules, ◌<◌, length, get_or, ◌∙◌, ◌≡◌, ◌⊎◌, refl, inl}
use Rattle.std.proofs.lemmas.List.{take_all, get_or_default, length_push}
use Rattle.std.proofs.lemmas.Iterator.Consumers.{YieldsList-turn, YieldsList-end}
use Rattle.std.proofs.lemmas.Iterator.Adapters.{YieldsList-from_vec}
use Rattle.comemo.proofs.Recursions.{handed, own_memory}
use Rattle.comemo.specs.declared.pending.Fault.TheVariants as fault
use Rattle.comemo_branches.specs.Branches.{BranchRan, BranchTold, FirstFails, GoesOn}
use Rattle.comemo_branches.proofs.Joining.{told_none, told_more, told_failed, goes_on_then, goes_on_from, some_item, ended_by, gave_told, took_one, took_more, first_fails}
use Rattle.comemo_branches.proofs.ended.join_each.Goals as goal

pub loop-end-init : goal.loop-end-init
loop-end-init g c = record {
  told = told_none (λ m x y. BranchTold g.F.Fn c.args.f.now g.P.Branch.seen (g.P.Branch.seen c.args.of.now) g.P.Branch.fits m x y) (λ (o : Vec g.row.X.Denot Global). o.items) c.args.items.now c.new-outputs.ensures.items;
  took = rw c.new-outputs.ensures.items refl;
}

pub join_one-requires : goal.join_one-requires
join_one-requires g c =
    let i = length c.loop-end.yielded in
    let turn = YieldsList-turn (YieldsList-from_vec {s = c.into_iter-end-iterator.result} c.args.ended.items (search rules) (search rules)) c.loop-end.yielded c.loop-end.end-iterator c.loop-end.yielded_by c.next.result c.next.new.self c.in-Some.end c.in-Some.is c.next.ensures.steps in
    let within : i < length c.args.items.now = omega (arith, c.requires.len, c.args.ended.ok.0, turn.0) in
    let d = some_item c.args.items.now i within in
    let x = get_or c.args.items.now i d in
    let ended = rw (← turn.1) at (c.requires.ran i d c.in-Some.end within) in
    let outer = g.P.Branch.seen c.args.of.now in
    ended_by g.P.Branch.seen (BranchRan g.F.Fn c.args.f.now g.P.Branch.seen outer x) outer (g.P.Branch.seen c.loop-end.of) (c.requires.keeps x) c.loop-end.invariant.told.same_value c.in-Some.end ended

pub returns-in_err-output-clause-told : goal.returns-in_err-output-clause-told
returns-in_err-output-clause-told g c = told_failed c.from_residual.result c.in_err-output.field-0.0 c.from_residual.ensures.1 c.loop-end.invariant.told c.in_err-output.ensures.told

pub returns-in_err-output-clause-fault : goal.returns-in_err-output-clause-fault
returns-in_err-output-clause-fault g c =
    let i = length c.loop-end.yielded in
    let outer = g.P.Branch.seen c.args.of.now in
    let f = c.args.f.now in
    let turn = YieldsList-turn (YieldsList-from_vec {s = c.into_iter-end-iterator.result} c.args.ended.items (search rules) (search rules)) c.loop-end.yielded c.loop-end.end-iterator c.loop-end.yielded_by c.next.result c.next.new.self c.in-Some.end c.in-Some.is c.next.ensures.steps in
    let within : i < length c.args.items.now = omega (arith, c.requires.len, c.args.ended.ok.0, turn.0) in
    let d = some_item c.args.items.now i within in
    let x = get_or c.args.items.now i d in
    let ended = rw (← turn.1) at (c.requires.ran i d c.in-Some.end within) in
    handed c.from_residual.result c.in_err-output.field-0.0 c.from_residual.ensures.1 (λ e. (e ≡ fault.Memory) ⊎ FirstFails g.F.Fn f g.P.Branch.seen outer c.args.items.now e) (first_fails g.F.Fn f g.P.Branch.seen outer g.P.Branch.took outer (g.P.Branch.seen c.loop-end.of) (g.P.Branch.seen c.join_one.new.of) c.args.items.now i x c.loop-end.outputs.items c.in-Some.end c.in_err-output.field-0.0 within (get_or_default c.args.items.now i d x within) c.loop-end.invariant.took ended c.in_err-output.ensures.fault)

pub returns-in_err-output-clause-goes_on : goal.returns-in_err-output-clause-goes_on
returns-in_err-output-clause-goes_on g c =
    handed c.from_residual.result c.in_err-output.field-0.0 c.from_residual.ensures.1 (λ e. GoesOn g.P.Branch.fits (g.P.Branch.seen c.args.of.now) (g.P.Branch.seen c.join_one.new.of) e) (goes_on_from (g.P.Branch.seen c.join_one.new.of) c.in-Some.end c.in_err-output.field-0.0 c.loop-end.invariant.told c.in_err-output.ensures.fault)

pub returns-in_err-keep-clause-told : goal.returns-in_err-keep-clause-told
returns-in_err-keep-clause-told g c = own_memory c.from_residual-in_err-keep.result (c.join_one.ensures.told.same_value ∙ c.loop-end.invariant.told.same_value) c.from_residual-in_err-keep.ensures.1

pub returns-in_err-keep-clause-fault : goal.returns-in_err-keep-clause-fault
returns-in_err-keep-clause-fault g c =
    handed c.from_residual-in_err-keep.result fault.Memory c.from_residual-in_err-keep.ensures.1 (λ e. (e ≡ fault.Memory) ⊎ FirstFails g.F.Fn c.args.f.now g.P.Branch.seen (g.P.Branch.seen c.args.of.now) c.args.items.now e) (inl refl)

pub returns-in_err-keep-clause-goes_on : goal.returns-in_err-keep-clause-goes_on
returns-in_err-keep-clause-goes_on g c =
    handed c.from_residual-in_err-keep.result fault.Memory c.from_residual-in_err-keep.ensures.1 (λ e. GoesOn g.P.Branch.fits (g.P.Branch.seen c.args.of.now) (g.P.Branch.seen c.join_one.new.of) e) (goes_on_then fault.Memory c.loop-end.invariant.told c.in_ok-output.ensures.told)

pub loop-end-preserved : goal.loop-end-preserved
loop-end-preserved g c =
    let i = length c.loop-end.yielded in
    let outer = g.P.Branch.seen c.args.of.now in
    let before = g.P.Branch.seen c.loop-end.of in
    let after = g.P.Branch.seen c.join_one.new.of in
    let f = c.args.f.now in
    let turn = YieldsList-turn (YieldsList-from_vec {s = c.into_iter-end-iterator.result} c.args.ended.items (search rules) (search rules)) c.loop-end.yielded c.loop-end.end-iterator c.loop-end.yielded_by c.next.result c.next.new.self c.in-Some.end c.in-Some.is c.next.ensures.steps in
    let within : i < length c.args.items.now = omega (arith, c.requires.len, c.args.ended.ok.0, turn.0) in
    let d = some_item c.args.items.now i within in
    let x = get_or c.args.items.now i d in
    let y = c.in_ok-output.output in
    let is = get_or_default c.args.items.now i d x within in
    let ended = rw (← turn.1) at (c.requires.ran i d c.in-Some.end within) in
    record {
      told = rw (length_push c.loop-end.yielded c.in-Some.end) (told_more (λ m x y. BranchTold g.F.Fn f g.P.Branch.seen outer g.P.Branch.fits m x y) (λ (o : Vec g.row.X.Denot Global). o.items) c.args.items.now i x within is c.loop-end.invariant.told (gave_told g.F.Fn f g.P.Branch.seen outer x c.in-Some.end ended c.in_ok-output.ensures.told) c.in_ok-keep.ensures);
      took = rw (length_push c.loop-end.yielded c.in-Some.end) (took_more g.F.Fn f g.P.Branch.seen outer g.P.Branch.took outer before after c.args.items.now i x c.loop-end.outputs.items c.keep.new.outputs.items y within is c.loop-end.invariant.took (took_one g.P.Branch.seen (BranchRan g.F.Fn f g.P.Branch.seen outer x) g.P.Branch.took before after y c.in-Some.end ended c.in_ok-output.ensures.took) c.in_ok-keep.ensures);
    }

pub returns-clause-told : goal.returns-clause-told
returns-clause-told g c =
    let end = YieldsList-end (YieldsList-from_vec {s = c.into_iter-end-iterator.result} c.args.ended.items (search rules) (search rules)) c.loop-end.yielded c.loop-end.end-iterator c.loop-end.yielded_by c.next.result c.next.new.self c.in-None.is c.next.ensures.steps in
    rw (take_all (length c.loop-end.yielded) c.args.items.now (omega (arith, c.requires.len, c.args.ended.ok.0, end.1))) at c.loop-end.invariant.told

pub returns-clause-took : goal.returns-clause-took
returns-clause-took g c =
    let end = YieldsList-end (YieldsList-from_vec {s = c.into_iter-end-iterator.result} c.args.ended.items (search rules) (search rules)) c.loop-end.yielded c.loop-end.end-iterator c.loop-end.yielded_by c.next.result c.next.new.self c.in-None.is c.next.ensures.steps in
    rw (take_all (length c.loop-end.yielded) c.args.items.now (omega (arith, c.requires.len, c.args.ended.ok.0, end.1))) at c.loop-end.invariant.took
