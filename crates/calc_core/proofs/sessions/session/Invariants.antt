use Rattle.std.proofs.Common.{◌≡◌, ◌≤◌, [], List, map, take, length, vec_len, vec_capacity}
use Rattle.calc_core.specs.Requests.{request_of}
use Rattle.calc_core.specs.Sessions.{texts_in}
use Rattle.calc_core.specs.Remembered.{Past, Knows, AnswersEach}
use Rattle.calc_core.proofs.sessions.session.Given as goal

-- the commands so far have these answers, what is remembered is kept, and there is room for the others
abbrev pub invariant-loop-command : goal.invariant-loop-command
invariant-loop-command l = record {
  long : vec_len l.answers ≡ l.command-index;
  room : length l.commands ≤ vec_capacity l.answers;
  each : (left : List Past) × Knows left l.state.evaluated × AnswersEach [] (texts_in l.initial.state) (map request_of (take l.command-index l.commands)) l.answers.items (texts_in l.state) left;
}
