-- How calls of scripts move a state, such as a cache's entries, in the order of the script's parts.
use Rattle.std.specs.Prelude.{ℕ, List, [], ◌∷◌, ℤ, pos, ◌+ℤ◌, Ok, Err}
use Rattle.calc_core.specs.Parts.{parts, IsEval, IsNoEval}
use Rattle.calc_core.specs.Meaning.{Fits, PartMeans}
use Rattle.calc_core.specs.declared.scripts.outcome.CalcFault.{CalcFault}

-- what a call of a script does by itself, apart from the calls of its run
pub record Moves (S : Type 0) : Type 1 where
  -- a call of the script was a hit, and led from the first state to the second
  pub hit : List ℕ → S → S → Type 0
  -- in this state a call of the script begins a run
  pub missed : List ℕ → S → Type 0
  -- the end of a run of the script led from the first state to the second
  pub ended : List ℕ → S → S → Type 0
  -- a call of the script failed before a run began, and led from the first state to the second
  pub refused : List ℕ → S → S → Type 0

-- At path text: this text is at this path
module _ (At : List ℕ → List ℕ → Type 0) {S : Type 0} (move : Moves S) where
  mutual
    -- a call of the script ended, and led from s to t: a hit; or a run, by the calls that it made and then by its end
    pub data CallLeads : List ℕ → S → S → Type 0 where
      is_hit : {script : List ℕ} {s t : S} → move.hit script s t → CallLeads script s t
      is_run : {script : List ℕ} {s m t : S} → move.missed script s → PartsLead (parts script) (pos 0) s m → move.ended script m t → CallLeads script s t

    -- taking the part led from s to t: it calls the script at its path, or it calls none and changes nothing
    pub data PartLeads : List ℕ → S → S → Type 0 where
      no_call : {part : List ℕ} {s : S} → IsNoEval part → PartLeads part s s
      one_call : {part path text : List ℕ} {s t : S} → IsEval part path → At path text → CallLeads text s t → PartLeads part s t

    -- taking these parts, after parts with this sum, to the end or to the first fault, led from s to t, part by part
    pub data PartsLead : List (List ℕ) → ℤ → S → S → Type 0 where
      at_end : {sum : ℤ} {s : S} → PartsLead [] sum s s
      at_number : {p : List ℕ} {ps : List (List ℕ)} {sum n : ℤ} {g : ℕ} {s m t : S} → PartMeans At p (Ok n) g → Fits (sum +ℤ n) → PartLeads p s m → PartsLead ps (sum +ℤ n) m t → PartsLead (p ∷ ps) sum s t
      at_overflow : {p : List ℕ} {ps : List (List ℕ)} {sum n : ℤ} {g : ℕ} {s t : S} → PartMeans At p (Ok n) g → ¬ Fits (sum +ℤ n) → PartLeads p s t → PartsLead (p ∷ ps) sum s t
      at_fault : {p : List ℕ} {ps : List (List ℕ)} {sum : ℤ} {fault : CalcFault} {g : ℕ} {s t : S} → PartMeans At p (Err fault) g → PartLeads p s t → PartsLead (p ∷ ps) sum s t

  -- the calls that a run of the script made, in turn, led from s to t
  abbrev pub RunLeads : List ℕ → S → S → Type 0
  RunLeads script s t = PartsLead (parts script) (pos 0) s t

  mutual
    -- a call of the script failed, and led from s to t: before a run began; or in its run; or after the calls of its run
    pub data CallFails : List ℕ → S → S → Type 0 where
      is_refused : {script : List ℕ} {s t : S} → move.refused script s t → CallFails script s t
      is_broken : {script : List ℕ} {s t : S} → move.missed script s → PartsFail (parts script) (pos 0) s t → CallFails script s t
      has_no_end : {script : List ℕ} {s t : S} → move.missed script s → RunLeads script s t → CallFails script s t

    -- taking the part failed, and led from s to t: the text at its path was not read, or the call of the script there failed
    pub data PartFails : List ℕ → S → S → Type 0 where
      not_read : {part path : List ℕ} {s : S} → IsEval part path → PartFails part s s
      failed_call : {part path text : List ℕ} {s t : S} → IsEval part path → At path text → CallFails text s t → PartFails part s t

    -- taking these parts, after parts with this sum, led from s to t, part by part, up to the first that failed
    pub data PartsFail : List (List ℕ) → ℤ → S → S → Type 0 where
      at_this : {p : List ℕ} {ps : List (List ℕ)} {sum : ℤ} {s t : S} → PartFails p s t → PartsFail (p ∷ ps) sum s t
      after_number : {p : List ℕ} {ps : List (List ℕ)} {sum n : ℤ} {g : ℕ} {s m t : S} → PartMeans At p (Ok n) g → Fits (sum +ℤ n) → PartLeads p s m → PartsFail ps (sum +ℤ n) m t → PartsFail (p ∷ ps) sum s t

  -- the calls that a run of the script made, in turn, of which the last one failed, led from s to t
  abbrev pub RunFails : List ℕ → S → S → Type 0
  RunFails script s t = PartsFail (parts script) (pos 0) s t
