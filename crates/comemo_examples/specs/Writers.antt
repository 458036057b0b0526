-- What the writes of an emitter, of a log and of a counter add.
use Rattle.std.specs.Prelude.{ℕ, Bool, true, false, List, string_bytes}
use Rattle.comemo_examples.specs.declared.emitter.EmitterCall.{EmitterCall}
use Rattle.comemo_examples.specs.declared.emitter.EmitterCall.TheVariants.{Emit}
use Rattle.comemo_examples.specs.declared.log.LogCall.{LogCall}
use Rattle.comemo_examples.specs.declared.log.LogCall.TheVariants.{Line}
use Rattle.comemo_examples.specs.declared.counter.CounterCall.{CounterCall}
use Rattle.comemo_examples.specs.declared.counter.CounterCall.TheVariants.{Get, Add}

-- what a write to an emitter appends to its text
abbrev pub emitted : EmitterCall → List ℕ
emitted (Emit text) = string_bytes text

-- the text that a write to a log puts on its next line
abbrev pub logged : LogCall → List ℕ
logged (Line text) = string_bytes text

-- which call to a counter is a write
abbrev pub is_add : CounterCall → Bool
is_add Get = false
is_add (Add n) = true

-- what a call to a counter adds to its number
abbrev pub added : CounterCall → ℕ
added Get = 0
added (Add n) = n
