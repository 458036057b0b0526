use Rattle.comemo_sheet.proofs.fibonacci.+numbered.Given as goal

abbrev pub decreases-numbered : goal.decreases-numbered
decreases-numbered g l = l.place
