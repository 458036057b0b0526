use Rattle.comemo_examples.proofs.all_equal.+compared.Given as goal

abbrev pub decreases-compared : goal.decreases-compared
decreases-compared g l = l.count
