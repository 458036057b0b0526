use Rattle.std.proofs.Common.{Vec, Global, ◌∙◌, ◌≡◌, ◌⊎◌, refl, inl}
use Rattle.std.proofs.lemmas.List.{take_all}
use Rattle.comemo.proofs.Recursions.{handed, own_memory}
use Rattle.comemo.specs.declared.pending.Fault.TheVariants as fault
use Rattle.comemo_branches.specs.Branches.{BranchRan, BranchTold, FirstFails, GoesOn}
use Rattle.comemo_branches.proofs.Joining.{told_none, told_more, told_failed, goes_on_then, goes_on_from, end_from, ended_by, gave_told, took_one, took_more, first_fails}
use Rattle.comemo_branches.proofs.spread.map_in_turn.Goals as goal

pub loop-item-init : goal.loop-item-init
loop-item-init g c = record {
  told = told_none (λ m x y. BranchTold g.F.Fn c.args.f.now g.P.Branch.seen (g.P.Branch.seen c.args.of.now) g.P.Branch.fits m x y) (λ (o : Vec g.row.X.Denot Global). o.items) c.args.items.now c.new-outputs.ensures.items;
  took = rw c.new-outputs.ensures.items refl;
}

pub join_one-requires : goal.join_one-requires
join_one-requires g c =
    let outer = g.P.Branch.seen c.args.of.now in
    let same = c.loop-item.invariant.told.same_value in
    let ran = BranchRan g.F.Fn c.args.f.now g.P.Branch.seen outer c.item-item.result in
    ended_by g.P.Branch.seen ran outer (g.P.Branch.seen c.loop-item.of) (c.requires.keeps c.item-item.result) same c.run_branch-ended.result (end_from g.F.Fn c.args.f.now g.P.Branch.seen outer (g.P.Branch.seen c.loop-item.of) same c.item-item.result c.run_branch-ended.result c.run_branch-ended.ensures)

pub returns-in_err-output-clause-told : goal.returns-in_err-output-clause-told
returns-in_err-output-clause-told g c = told_failed c.from_residual.result c.in_err-output.field-0.0 c.from_residual.ensures.1 c.loop-item.invariant.told c.in_err-output.ensures.told

pub returns-in_err-output-clause-fault : goal.returns-in_err-output-clause-fault
returns-in_err-output-clause-fault g c =
    let outer = g.P.Branch.seen c.args.of.now in
    let f = c.args.f.now in
    let x = c.item-item.result in
    let ended = end_from g.F.Fn f g.P.Branch.seen outer (g.P.Branch.seen c.loop-item.of) c.loop-item.invariant.told.same_value x c.run_branch-ended.result c.run_branch-ended.ensures in
    handed c.from_residual.result c.in_err-output.field-0.0 c.from_residual.ensures.1 (λ e. (e ≡ fault.Memory) ⊎ FirstFails g.F.Fn f g.P.Branch.seen outer c.args.items.now e) (first_fails g.F.Fn f g.P.Branch.seen outer g.P.Branch.took outer (g.P.Branch.seen c.loop-item.of) (g.P.Branch.seen c.join_one.new.of) c.args.items.now c.loop-item.item-index x c.loop-item.outputs.items c.run_branch-ended.result c.in_err-output.field-0.0 c.loop-item-test.true c.item-item.is c.loop-item.invariant.took ended c.in_err-output.ensures.fault)

pub returns-in_err-output-clause-goes_on : goal.returns-in_err-output-clause-goes_on
returns-in_err-output-clause-goes_on g c =
    handed c.from_residual.result c.in_err-output.field-0.0 c.from_residual.ensures.1 (λ e. GoesOn g.P.Branch.fits (g.P.Branch.seen c.args.of.now) (g.P.Branch.seen c.join_one.new.of) e) (goes_on_from (g.P.Branch.seen c.join_one.new.of) c.run_branch-ended.result c.in_err-output.field-0.0 c.loop-item.invariant.told c.in_err-output.ensures.fault)

pub returns-in_err-keep-clause-told : goal.returns-in_err-keep-clause-told
returns-in_err-keep-clause-told g c = own_memory c.from_residual-in_err-keep.result (c.join_one.ensures.told.same_value ∙ c.loop-item.invariant.told.same_value) c.from_residual-in_err-keep.ensures.1

pub returns-in_err-keep-clause-fault : goal.returns-in_err-keep-clause-fault
returns-in_err-keep-clause-fault g c =
    handed c.from_residual-in_err-keep.result fault.Memory c.from_residual-in_err-keep.ensures.1 (λ e. (e ≡ fault.Memory) ⊎ FirstFails g.F.Fn c.args.f.now g.P.Branch.seen (g.P.Branch.seen c.args.of.now) c.args.items.now e) (inl refl)

pub returns-in_err-keep-clause-goes_on : goal.returns-in_err-keep-clause-goes_on
returns-in_err-keep-clause-goes_on g c =
    handed c.from_residual-in_err-keep.result fault.Memory c.from_residual-in_err-keep.ensures.1 (λ e. GoesOn g.P.Branch.fits (g.P.Branch.seen c.args.of.now) (g.P.Branch.seen c.join_one.new.of) e) (goes_on_then fault.Memory c.loop-item.invariant.told c.in_ok-output.ensures.told)

pub loop-item-preserved : goal.loop-item-preserved
loop-item-preserved g c =
    let outer = g.P.Branch.seen c.args.of.now in
    let before = g.P.Branch.seen c.loop-item.of in
    let after = g.P.Branch.seen c.join_one.new.of in
    let f = c.args.f.now in
    let x = c.item-item.result in
    let end = c.run_branch-ended.result in
    let y = c.in_ok-output.output in
    let ended = end_from g.F.Fn f g.P.Branch.seen outer before c.loop-item.invariant.told.same_value x end c.run_branch-ended.ensures in
    record {
      told = told_more (λ m x y. BranchTold g.F.Fn f g.P.Branch.seen outer g.P.Branch.fits m x y) (λ (o : Vec g.row.X.Denot Global). o.items) c.args.items.now c.loop-item.item-index x c.loop-item-test.true c.item-item.is c.loop-item.invariant.told (gave_told g.F.Fn f g.P.Branch.seen outer x end ended c.in_ok-output.ensures.told) c.in_ok-keep.ensures;
      took = took_more g.F.Fn f g.P.Branch.seen outer g.P.Branch.took outer before after c.args.items.now c.loop-item.item-index x c.loop-item.outputs.items c.keep.new.outputs.items y c.loop-item-test.true c.item-item.is c.loop-item.invariant.took (took_one g.P.Branch.seen (BranchRan g.F.Fn f g.P.Branch.seen outer x) g.P.Branch.took before after y end ended c.in_ok-output.ensures.took) c.in_ok-keep.ensures;
    }

pub returns-clause-told : goal.returns-clause-told
returns-clause-told g c = rw (take_all c.loop-item.item-index c.args.items.now c.loop-item-test.false) at c.loop-item.invariant.told

pub returns-clause-took : goal.returns-clause-took
returns-clause-took g c = rw (take_all c.loop-item.item-index c.args.items.now c.loop-item-test.false) at c.loop-item.invariant.took
