-- How a run ends if a clone of its output is stored.
use Rattle.std.proofs.Common.{◌≡◌, Bool, true, false, List, sym, subst}
use Rattle.std.specs.Cmp.{IsEquivalence}
use Rattle.comemo_base.specs.Tree.{IsSamePath}
use Rattle.comemo_base.proofs.Paths.{Agrees-same, IsSamePath-turned}
use Rattle.comemo_track.specs.Sending.{TookAs}
use Rattle.comemo_cache.specs.Meaning.{Meaning, run, exactly, SameWrites}
use Rattle.comemo_cache.specs.Cache.{Entries}
use Rattle.comemo.specs.Finish.{Ends, Gives, BreaksOffRun}
use Rattle.comemo_cache.proofs.Entries.{IsSamePath-itself}
use Rattle.comemo_cache.proofs.Writings.{SameWrites-joined}
use Rattle.comemo.specs.declared.pending.How.{How}
use Rattle.comemo.specs.declared.pending.How.TheVariants as how

module _ {K C R O : Type 0} {M : Meaning K C R O} (calls : IsEquivalence M.same_call) (answers : IsEquivalence M.same_answer) where
  -- what went to a sink in place of the pairs of a run
  pub given : {sent : List (C × R) → List C → Type 0} (ps qs : List (C × R)) (writes : List C) → IsSamePath M.same_call M.same_answer ps qs → sent ps writes → Gives M sent qs writes
  given ps qs writes alike are_sent = record {
    given = ps;
    alike = alike;
    agreeing = λ m r. (λ a. Agrees-same calls answers m r ps qs alike a, λ a. Agrees-same calls answers m r qs ps (IsSamePath-turned calls answers ps qs alike) a);
    are_sent = are_sent;
  }

  -- what went there is the run's pairs themselves
  pub gives_itself : {sent : List (C × R) → List C → Type 0} (ps : List (C × R)) (writes : List C) → sent ps writes → Gives M sent ps writes
  gives_itself ps writes are_sent = given ps ps writes (IsSamePath-itself calls answers ps) are_sent

  pub broken_itself : {broken : List (C × R) → Type 0} (ps : List (C × R)) → broken ps → BreaksOffRun M broken ps
  broken_itself ps is = record { given = ps; alike = IsSamePath-itself calls answers ps; is_broken = is }

module _ {K C R O : Type 0} (M : Meaning K C R O) (calls : IsEquivalence M.same_call) (es : Entries K C R O) (key : K) (pairs : List (C × R)) (output kept : O) (is : M.is_clone output kept) (writes copies : List C) (same : SameWrites M.same_call writes copies) where
  pub Ends-cloned : (h : How) (es' : Entries K C R O) → Ends (exactly M) es (run key pairs kept copies) h es' → Ends M es (run key pairs output writes) h es'
  Ends-cloned how.Hit es' e = e
  Ends-cloned how.Stored es' e = (e.0, e.1, record { kept = e.2.kept; is_clone = subst (λ o. M.is_clone output o) (sym e.2.is_clone) is; same_writes = SameWrites-joined calls writes copies e.2.kept.writes same e.2.same_writes; is_new = e.2.is_new; adds = e.2.adds })
  Ends-cloned how.AlreadyExists es' e = e
  Ends-cloned how.MissingCall es' e = e
  Ends-cloned how.NotStored es' e = e
  Ends-cloned how.Disabled es' e = e
  Ends-cloned how.Late es' e = e

module _ {K C R O : Type 0} {M : Meaning K C R O} {S : Type 0} (took : S → S → List (C × R) → List C → Type 0) (lates : S → S → Type 0) {s t : S} {pairs : List (C × R)} {writes : List C} where
  -- what went to a sink that was not marked late, and what went to one where nothing was late
  pub gives_as_early : (b : Bool) → b ≡ false → Gives M (took s t) pairs writes → Gives M (TookAs took lates b s t) pairs writes
  gives_as_early false e g = g
  gives_as_early true e g = let no : true ≡ false = e in cc

  pub gives_early : (b : Bool) → b ≡ false → Gives M (TookAs took lates b s t) pairs writes → Gives M (took s t) pairs writes
  gives_early false e g = g
  gives_early true e g = let no : true ≡ false = e in cc

  -- what went to one that was marked late
  pub gives_late : (b : Bool) → b ≡ true → Gives M (TookAs took lates b s t) pairs writes → Gives M (TookAs took lates true s t) pairs writes
  gives_late true e g = g
  gives_late false e g = let no : false ≡ true = e in cc
