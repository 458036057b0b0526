-- How a call began, or why it failed to begin.
use Rattle.std.specs.Prelude.{List, [], Option}
use Rattle.comemo_cache.specs.Meaning.{Meaning, Invocation}
use Rattle.comemo_cache.specs.Cache.{Entries, Touches}
use Rattle.comemo_cache.specs.Held.{Held, Leads, Stays}
use Rattle.comemo.specs.Begin.{IsHit, IsBrokenOff, IsStopped}
use Rattle.comemo.specs.declared.pending.Begun.{Begun}
use Rattle.comemo.specs.declared.pending.Begun.TheVariants.{Hit, Run}
use Rattle.comemo.specs.declared.pending.Fault.{Fault}
use Rattle.comemo.specs.declared.pending.Fault.TheVariants as fault

-- the first holds of a hit's output, the second of the run that is to be done
abbrev pub OnBegun : {O I : Type 0} → Begun O I → (O → Type 0) → (I → Type 0) → Type 0
OnBegun (Hit output) P Q = P output
OnBegun (Run run) P Q = Q run

-- the first holds if a call did not begin, out of memory, the second if a hit stopped at a write; there is no other
-- fault
abbrev pub OnFault : Fault → Type 0 → Type 0 → Type 0
OnFault fault.Memory P Q = P
OnFault fault.Write P Q = Q
OnFault fault.Incomplete P Q = ⊥

module _ {K C R O : Type 0} (M : Meaning K C R O) (call : Invocation K C R) (before : Option (Entries K C R O)) (done : List C → Type 0) where
  -- a hit returned this output and touched its entry, from these entries before it to those after it
  abbrev pub BeganByHit : (List (C × R) → List C → Type 0) → O → Option (Entries K C R O) → Type 0
  BeganByHit sent output after = Leads before after (λ es es'. IsHit M es call done sent output × Touches M es call es')

  -- a call failed with this fault: it did not begin, and the entries are unchanged; or a hit stopped at a write, and
  -- its entry was touched
  abbrev pub FailedToBegin : (List (C × R) → Type 0) → (List (C × R) → List C → Type 0) → Fault → Option (Entries K C R O) → Type 0
  FailedToBegin broken spoiled f after =
      OnFault f (Stays before after × done [] × Held before (λ es. IsBrokenOff M es call broken)) (Leads before after (λ es es'. Touches M es call es' × IsStopped M es call done spoiled))
