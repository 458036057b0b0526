use Rattle.comemo_kept.proofs.job.with_kept.Given as goal

-- the answers are the value's
abbrev pub ghosts-run_on_kept : goal.ghosts-run_on_kept
ghosts-run_on_kept g a = record { says = λ call answer. g.T.Answer.PartialEq.eq (g.T.Track.answers a.value.now call) answer }
