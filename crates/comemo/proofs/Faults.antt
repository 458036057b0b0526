-- Which fault a call returned, where nothing is said of its sink; and what became of what its run needs.
use Rattle.std.specs.Bool.{⊤}
use Rattle.std.proofs.Common.{◌≡◌, ◌⊎◌, true, false, List, Option, Result, Ok, Err, IfOk, IsErr, inl, inr}
use Rattle.std.proofs.Math.Logic.{⊎_map}
use Rattle.comemo_cache.specs.Meaning.{Meaning, Invocation}
use Rattle.comemo_cache.specs.Cache.{Entries}
use Rattle.comemo_cache.specs.Held.{Held}
use Rattle.comemo_cache.proofs.Holding.{held_map}
use Rattle.comemo.specs.Begin.{IsStopped}
use Rattle.comemo.specs.FunctionMut.{FailsBy}
use Rattle.comemo.specs.declared.pending.Fault.{Fault}
use Rattle.comemo.specs.declared.pending.Fault.TheVariants as fault

-- of a call that only reads
pub without_sink : {E : Type 0} (before : Option E) (P : E → Type 0) (S : Type 0) (f : Fault) → (f ≡ fault.Memory) ⊎ Held before (λ es. P es × S) → (f ≡ fault.Memory) ⊎ Held before P
without_sink before P S f which = ⊎_map (λ memory. memory) (λ held. held_map before _ _ (λ es is. is.0) held) which

-- of a call that may write
module _ {K C R O : Type 0} {M : Meaning K C R O} {call : Invocation K C R} where
  stopped_so : {es : Entries K C R O} {done : List C → Type 0} {spoiled : List (C × R) → List C → Type 0} → IsStopped M es call done spoiled → IsStopped M es call done (λ _ _. ⊤)
  stopped_so s = record {
    pairs = s.pairs;
    output = s.output;
    prefix = s.prefix;
    next = s.next;
    rest = s.rest;
    is_refused = s.is_refused;
    is_enabled = s.is_enabled;
    kept = s.kept;
    agrees = s.agrees;
    stands = s.stands;
    reads = s.reads;
    written = s.written;
    are_done = s.are_done;
    is_spoiled = tt;
  }

  pub without_sink_mut : {es es' : Entries K C R O} {done : List C → Type 0} {spoils : Type 0} {spoiled : List (C × R) → List C → Type 0} (f : Fault) → FailsBy M es call done spoils spoiled f es' → FailsBy M es call done ⊤ (λ _ _. ⊤) f es'
  without_sink_mut f (inl (same, inl memory)) = inl (same, inl memory)
  without_sink_mut f (inl (same, inr (due, inl memory))) = inl (same, inr (due, inl memory))
  without_sink_mut f (inl (same, inr (due, inr spoils))) = inl (same, inr (due, inr tt))
  without_sink_mut f (inr (write, stopped)) = inr (write, (stopped.0, stopped_so stopped.1))

-- what holds of any result of a call, and what holds of a reply, where the call failed
pub spared : {A F X : Type 0} (P : A → Type 0) (r : Result A F) → IsErr r → X → X × IfOk r P
spared P (Ok x) h kept = let no : false ≡ true = h in cc
spared P (Err f) h kept = (kept, tt)
