use Rattle.comemo_branches.specs.Branches.{PartRan}
use Rattle.comemo_branches.proofs.Joining.{took_one}
use Rattle.comemo_branches.proofs.join.join_in_threads.Goals as goal

pub returns-clause-took : goal.returns-clause-took
returns-clause-took g c =
    let outer = g.P.Branch.seen c.args.of.now in
    let mid = g.P.Branch.seen c.join_one.new.of in (
      mid,
      took_one g.P.Branch.seen (PartRan g.F.FnOnce c.args.first g.P.Branch.seen outer) g.P.Branch.took outer mid c.in_ok-left.left c.run_parts-one.result.0 c.run_parts-one.ensures.first c.in_ok-left.ensures.took,
      took_one g.P.Branch.seen (PartRan g.G.FnOnce c.args.second g.P.Branch.seen outer) g.P.Branch.took mid (g.P.Branch.seen c.join_one-2.new.of) c.in_ok-right.right c.run_parts-one.result.1 c.run_parts-one.ensures.second c.in_ok-right.ensures.took,
    )
