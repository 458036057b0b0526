use Rattle.std.proofs.Common.{◌≡◌, map, take, string_bytes}
use Rattle.comemo.specs.Writing.{Done}
use Rattle.comemo.specs.FunctionMut.{lent, HasBegun, Goes}
use Rattle.comemo_examples.specs.Writers.{logged}
use Rattle.comemo_examples.specs.contracts.log.LogTrack.TheImpl as log
use Rattle.comemo_examples.specs.contracts.log.LogCallCall.TheImpl as call
use Rattle.comemo_examples.specs.contracts.log.LogCallPartialEq.TheImpl as calls
use Rattle.std.specs.contracts.prelude.UnitPartialEq.TheImpl as unit
use Rattle.comemo_examples.proofs.listing.ListingRunMutLogUnit.run.Given as goal

-- the recording extends the earlier one, and the texts so far are written
abbrev pub invariant-loop-text : goal.invariant-loop-text
invariant-loop-text l = record {
  agrees : HasBegun (Done log.ghosts.wrote call.ghosts.is_write call.ghosts.touches unit.ghosts.eq log.ghosts.answers) unit.ghosts.eq log.ghosts.answers (lent l.log.value l.log.recording);
  goes : Goes (Done log.ghosts.wrote call.ghosts.is_write call.ghosts.touches unit.ghosts.eq log.ghosts.answers) calls.ghosts.eq call.ghosts.touches unit.ghosts.eq log.ghosts.answers (lent l.initial.log.value l.initial.log.recording) (lent l.log.value l.log.recording);
  written : map logged l.log.recording.now.writes ≡ map string_bytes (take l.text-index l.texts.items);
}
