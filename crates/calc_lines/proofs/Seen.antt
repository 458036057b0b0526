-- A session's answers, seen through a function of its states.
use Rattle.std.proofs.Common.{ℕ, List, Option, Result, Ok, Err}
use Rattle.calc_lines.specs.Answers.{Answered, no_line, empty_line, answered, refused}
use Rattle.calc_lines.specs.Runs.{AnswersPrefix, Ran}
use Rattle.calc_lines.specs.Started.{RanAs}
use Rattle.calc_lines.specs.declared.fault.RunFault.{RunFault}
use Rattle.calc_lines.specs.declared.fault.RunFault.TheVariants.{Read, Write, Memory, NotText}

module _ {S T : Type 0} (f : S → T) (answers : S → List ℕ → List ℕ → S → Type 0) (refuses : S → List ℕ → S → Type 0) (answers' : T → List ℕ → List ℕ → T → Type 0) (refuses' : T → List ℕ → T → Type 0)
    (one : (s : S) (line text : List ℕ) (t : S) → answers s line text t → answers' (f s) line text (f t)) (none : (s : S) (line : List ℕ) (t : S) → refuses s line t → refuses' (f s) line (f t)) where
  Answered_seen : (s : S) (lines : List (List ℕ)) (output : List ℕ) (t : S) → Answered answers refuses s lines output t → Answered answers' refuses' (f s) lines output (f t)
  Answered_seen s lines output t no_line = no_line
  Answered_seen s lines output t (empty_line h) = empty_line (Answered_seen _ _ _ _ h)
  Answered_seen s lines output t (answered text more some utf8 a h) = answered text more some utf8 (one _ _ _ _ a) (Answered_seen _ _ _ _ h)
  Answered_seen s lines output t (refused more some utf8 a h) = refused more some utf8 (none _ _ _ a) (Answered_seen _ _ _ _ h)

  prefix_seen : (input rest before after : Option (List ℕ)) (s t : S) → AnswersPrefix answers refuses input rest before after s t → AnswersPrefix answers' refuses' input rest before after (f s) (f t)
  prefix_seen input rest before after s t h = (h.0, h.1, h.2, Answered_seen _ _ _ _ h.3, h.4)

  pub Ran_seen : (input left before after : Option (List ℕ)) (s t : S) (r : Result (Unit {0}) RunFault) → Ran answers refuses input left before after s t r → Ran answers' refuses' input left before after (f s) (f t) r
  Ran_seen input left before after s t (Ok x) h = (h.0, prefix_seen _ _ _ _ _ _ h.1, h.2)
  Ran_seen input left before after s t (Err Read) h = (h.0, prefix_seen _ _ _ _ _ _ h.1, h.2)
  Ran_seen input left before after s t (Err Memory) h = (h.0, prefix_seen _ _ _ _ _ _ h.1, h.2)
  Ran_seen input left before after s t (Err NotText) h = (h.0, h.1, prefix_seen _ _ _ _ _ _ h.2, h.3, h.4)
  Ran_seen input left before after s t (Err Write) h = (h.0, h.1, f h.2, h.3, h.4, prefix_seen _ _ _ _ _ _ h.5, h.6, Answered_seen _ _ _ _ h.7, h.8)

  pub RanAs_seen : (name : List ℕ) (input left before after silent said : Option (List ℕ)) (s t : S) (status : ℕ) → RanAs answers refuses name input left before after silent said s t status → RanAs answers' refuses' name input left before after silent said (f s) (f t) status
  RanAs_seen name input left before after silent said s t status h = (h.0, Ran_seen input left before after s t h.0 h.1, h.2, h.3)
