use Rattle.std.proofs.Common.{subst}
use Rattle.std.proofs.lemmas.List.{get_or_read}
use Rattle.comemo_branches.specs.Branches.{BranchRan, MayEnd}
use Rattle.comemo_branches.proofs.spread.fn.run_branches.for_each_mut.Goals as goal

pub returns : goal.returns
returns g c = λ d. subst (λ x. MayEnd (BranchRan g.F.Fn c.captures.f.now g.P.Branch.seen (g.P.Branch.seen c.captures.of.now) x) c.run_branch.result) (get_or_read c.captures.items.now c.args.i c.index-items-i.result c.requires.0 c.index-items-i.is d) c.run_branch.ensures
