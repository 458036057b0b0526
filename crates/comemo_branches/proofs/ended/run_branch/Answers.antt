use Rattle.std.proofs.Common.{rules}
use Rattle.comemo_branches.specs.Branches.{BranchRan}
use Rattle.comemo_branches.proofs.Joining.{may_fail}
use Rattle.comemo_branches.proofs.ended.run_branch.Goals as goal

pub returns-in_err-output : goal.returns-in_err-output
returns-in_err-output g c = may_fail (BranchRan g.F.Fn c.args.f.now g.P.Branch.seen (g.P.Branch.seen c.args.of.now) c.args.item.now) c.from_residual.result c.in_err-output.field-0.0 c.f.new.arg2 c.f.result c.from_residual.ensures.1 c.in_err-output.was (search rules)
