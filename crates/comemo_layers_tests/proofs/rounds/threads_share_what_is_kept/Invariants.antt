use Rattle.std.specs.Prelude.{nat_eq}
use Rattle.comemo_layers_tests.proofs.rounds.threads_share_what_is_kept.Given as goal

-- the answers of the value are the number
abbrev pub ghosts-asked_in_threads : goal.ghosts-asked_in_threads
ghosts-asked_in_threads g a = record { says = λ call answer. nat_eq a.of.now.number answer }
