-- The reply to a call of a script, and how the call and the scripts that its run calls move a cache's entries.
use Rattle.std.specs.Prelude.{◌≡◌, ◌≢◌, ◌⊎◌, ⊤, ℕ, List, IsTrue, bytes_eq}
use Rattle.comemo.specs.Answers.{Agrees}
use Rattle.comemo.specs.Meaning.{Run}
use Rattle.comemo.specs.Cache.{Stands, HasNone, Touches}
use Rattle.comemo.specs.Called.{IsReply, CameByHit}
use Rattle.comemo.specs.Finish.{Ends}
use Rattle.comemo.specs.declared.pending.How.{How}
use Rattle.comemo.specs.declared.pending.How.TheVariants as how
use Rattle.comemo.specs.declared.pending.Reply.{Reply}
use Rattle.calc_core.specs.ScriptCalls.{Moves, RunLeads}
use Rattle.calc_core.specs.declared.scripts.outcome.Outcome.{Outcome}
use Rattle.calc_core.specs.declared.files.Files.{Files}
use Rattle.calc_core.specs.Files.{JoinedCall, JoinedAnswer, answers_of, with_key}
use Rattle.calc_core.specs.Joined.{same_answer, same_key, with_files}
use Rattle.calc_core.specs.Evaluations.{At, ComesTo, Outcomes, evaluating}

module _ (files : Files) (script : List ℕ) where
  -- an entry of es under the script agrees with the files, its outcome is the script's, and it was touched
  pub record HitLed (es es' : Outcomes) : Type 0 where
    pub found : Run (List ℕ × ⊤) JoinedCall JoinedAnswer Outcome
    pub comes_to : ComesTo (answers_of files) script found.output
    pub came : CameByHit evaluating (with_files script files) es found es'

  -- the entries are unchanged; or one of es under the script agrees with the files, and was touched
  abbrev pub OnlyTouches : Outcomes → Outcomes → Type 0
  OnlyTouches es es' = (es' ≡ es) ⊎ Touches evaluating es (with_files script files) es'

  -- no entry of es under the script agrees with the files
  abbrev pub Missed : Outcomes → Type 0
  Missed es = HasNone evaluating es (with_files script files)

  -- a run of the script, which is to be stored, ended with the script's outcome, by reads that agree with the files and suffice
  -- for the outcome; it took the entries from es to es' in one of the ways in which a run ends
  pub record RunEnded (es es' : Outcomes) : Type 0 where
    pub ran : Run (List ℕ × ⊤) JoinedCall JoinedAnswer Outcome
    pub has_key : IsTrue (same_key bytes_eq (script, tt) ran.key)
    pub comes_to : ComesTo (answers_of files) script ran.output
    pub agrees : Agrees same_answer (with_key (answers_of files)) ran.pairs
    pub stands : Stands evaluating ran
    pub reply : How
    pub enabled : reply ≢ how.Disabled
    pub early : reply ≢ how.Late
    pub ends : Ends evaluating es ran reply es'

-- what a call of a script does to the entries, at these files; a failing one, such as a hit that is too deep, only touches
abbrev pub moves : Files → Moves Outcomes
moves files = record { hit = HitLed files; missed = Missed files; ended = RunEnded files; refused = OnlyTouches files }

-- the reply to a call of a script: from an entry of es that agrees with the files; or none did, the scripts that the run
-- called, one after the other, led from es to mid, and the run ended at mid, after which the entries are es'. As a reply of a
-- function that names its calls, it rests on exactly the reads of the script
pub record EvalReply (files : Files) (script : List ℕ) (es : Outcomes) (sent : List (JoinedCall × JoinedAnswer) → List JoinedCall → Type 0) (reply : Reply Outcome) (es' : Outcomes) : Type 0 where
  pub mid : Outcomes
  pub calls : reply.how ≢ how.Hit → RunLeads (At (answers_of files)) (moves files) script es mid
  pub is_reply : IsReply evaluating (with_files script files) es mid sent reply es'
