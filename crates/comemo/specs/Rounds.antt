-- Rounds: which outputs are known, and what became of a call.
use Rattle.std.specs.Prelude.{◌≡◌, ◌⊎◌, Bool, List, Option, Some, None, cond}
use Rattle.std.specs.Map.{lookup}
use Rattle.comemo_cache.specs.declared.explain.Explanation.{Explanation}
use Rattle.comemo_cache.specs.declared.explain.Explanation.TheVariants as why
use Rattle.comemo_track.specs.declared.multi.MultiCall.{MultiCall}
use Rattle.comemo_track.specs.declared.multi.MultiCall.TheVariants as call
use Rattle.comemo.specs.declared.known.At.{At}
use Rattle.comemo.specs.declared.pending.Fault.{Fault}
use Rattle.comemo.specs.declared.pending.Fault.TheVariants as fault
use Rattle.comemo.specs.declared.round.RoundError.{RoundError}
use Rattle.comemo.specs.declared.round.RoundError.TheVariants as error
use Rattle.comemo.specs.declared.round.Turned.{Turned}
use Rattle.comemo.specs.declared.round.Turned.TheVariants.{Output, Needs}

-- the output at the key is known after, and those at other keys as before
abbrev pub Learns : {K O : Type 0} → (K → K → Bool) → List (K × O) → K → O → List (K × O) → Type 0
Learns {K} eq before key output after = (at : K) → lookup (eq at) after ≡ cond (eq key at) (Some output) (lookup (eq at) before)

-- the key whose output changed, by an explanation
abbrev pub changed_output : {C K R : Type 0} → Option (Explanation (MultiCall C (At K)) R) → Option K
changed_output (Some (why.Changed asked (call.B at) answer)) = Some at.key
changed_output (Some (why.Changed asked (call.A read) answer)) = None
changed_output (Some why.Hit) = None
changed_output (Some why.NeverKept) = None
changed_output None = None

-- it holds of the output, if the call returned one
abbrev pub OnOutput : {K O : Type 0} → Turned K O → (O → Type 0) → Type 0
OnOutput (Output output) P = P output
OnOutput (Needs key) P = Unit {0}

-- it holds of the key, if the call needs the output at one
abbrev pub OnNeeded : {K O : Type 0} → Turned K O → (K → Type 0) → Type 0
OnNeeded (Output output) P = Unit {0}
OnNeeded (Needs key) P = P key

-- a fault is want of memory, or that of the function of a key
abbrev pub FailsBy : {K : Type 0} → (K → Fault → Type 0) → RoundError K → Type 0
FailsBy {K} fails (error.Fault f) = (f ≡ fault.Memory) ⊎ ((key : K) × fails key f)
FailsBy fails (error.Circle key) = Unit {0}
