-- How calls of scripts lead from entries to entries, without losing any.
use Rattle.std.proofs.Common.{◌≡◌, true, false, ℕ, List, ℤ, refl, subst, inl, inr}
use Rattle.std.specs.Bool.{⊤}
use Rattle.comemo.specs.Begin.{PendingRun, IsRun}
use Rattle.comemo.specs.Meaning.{Run, run}
use Rattle.comemo.specs.Called.{Grows}
use Rattle.comemo.specs.Finish.{Ends}
use Rattle.comemo.specs.declared.pending.Reply.{Reply}
use Rattle.comemo.proofs.Growing.{grows_not, grows_by_touch, grows_on, grows_by_ends}
use Rattle.calc_core.specs.ScriptCalls.{CallLeads, is_hit, is_run, PartLeads, no_call, one_call, PartsLead, at_end, at_number, at_overflow, at_fault, CallFails, is_refused, is_broken, has_no_end, PartFails, not_read, failed_call, PartsFail, at_this, after_number}
use Rattle.calc_core.specs.declared.scripts.outcome.Outcome.{Outcome}
use Rattle.calc_core.specs.declared.files.Files.{Files}
use Rattle.calc_core.specs.Files.{JoinedCall, JoinedAnswer, answers_of}
use Rattle.calc_core.specs.Joined.{with_files}
use Rattle.calc_core.specs.Evaluations.{At, Comes, Outcomes, evaluating}
use Rattle.calc_core.specs.EvaluationCalls.{Missed, RunEnded, moves, EvalReply}
use Rattle.calc_core.proofs.Evaluations.{same_script, script_given}

-- calls of scripts lose no entry
module _ (files : Files) where
  abbrev at : List ℕ → List ℕ → Type 0
  at = At (answers_of files)

  mutual
    pub call_grows : {script : List ℕ} {es es' : Outcomes} → CallLeads at (moves files) script es es' → Grows es es'
    call_grows (is_hit {s = es} {t = es'} hit) = grows_by_touch evaluating (with_files _ files) es es' hit.came.touched
    call_grows (is_run {s = es} {m = mid} {t = es'} missed run ended) =
        grows_on es mid es' (parts_grow run) (grows_by_ends evaluating mid ended.ran ended.reply es' ended.ends)

    pub part_grows : {part : List ℕ} {es es' : Outcomes} → PartLeads at (moves files) part es es' → Grows es es'
    part_grows (no_call {s = es} none) = grows_not es es refl
    part_grows (one_call is text call) = call_grows call

    pub parts_grow : {parts : List (List ℕ)} {sum : ℤ} {es es' : Outcomes} → PartsLead at (moves files) parts sum es es' → Grows es es'
    parts_grow (at_end {s = es}) = grows_not es es refl
    parts_grow (at_number {s = es} {m = mid} {t = es'} means fits part rest) = grows_on es mid es' (part_grows part) (parts_grow rest)
    parts_grow (at_overflow means over part) = part_grows part
    parts_grow (at_fault means part) = part_grows part

  mutual
    pub failed_call_grows : {script : List ℕ} {es es' : Outcomes} → CallFails at (moves files) script es es' → Grows es es'
    failed_call_grows (is_refused {s = es} {t = es'} (inl same)) = grows_not es es' same
    failed_call_grows (is_refused {s = es} {t = es'} (inr touched)) = grows_by_touch evaluating (with_files _ files) es es' touched
    failed_call_grows (is_broken missed run) = failed_parts_grow run
    failed_call_grows (has_no_end missed run) = parts_grow run

    pub failed_part_grows : {part : List ℕ} {es es' : Outcomes} → PartFails at (moves files) part es es' → Grows es es'
    failed_part_grows (not_read {s = es} is) = grows_not es es refl
    failed_part_grows (failed_call is text call) = failed_call_grows call

    pub failed_parts_grow : {parts : List (List ℕ)} {sum : ℤ} {es es' : Outcomes} → PartsFail at (moves files) parts sum es es' → Grows es es'
    failed_parts_grow (at_this part) = failed_part_grows part
    failed_parts_grow (after_number {s = es} {m = mid} {t = es'} means fits part rest) = grows_on es mid es' (part_grows part) (failed_parts_grow rest)

-- a run that began missed
pub missed_by_run : (files : Files) {script : List ℕ} {es : Outcomes} {begun : PendingRun (List ℕ × ⊤) JoinedCall JoinedAnswer} → IsRun evaluating es (with_files script files) begun → Missed files script es
missed_by_run files run = run.none refl

-- a reply led on, by its hit or by its run
pub led_by_reply : (files : Files) {script : List ℕ} {es es' : Outcomes} {sent : List (JoinedCall × JoinedAnswer) → List JoinedCall → Type 0} {reply : Reply Outcome} → EvalReply files script es sent reply es' → CallLeads (At (answers_of files)) (moves files) script es es'
led_by_reply files {script = script} {es = es} {es' = es'} {reply = reply} is =
    let replied = is.is_reply in
    let ran : Run (List ℕ × ⊤) JoinedCall JoinedAnswer Outcome = run (script, tt) replied.pairs reply.output replied.writes in
    elim replied.came [
      | inl hit ↦ is_hit (record { found = ran; comes_to = script_given files replied; came = hit.1 })
      | inr came ↦
          let missed : Missed files script es = came.none refl in
          let ended : RunEnded files script is.mid es' = record {
            ran = record ran { key = came.own };
            has_key = came.has_key;
            comes_to = script_given files replied;
            agrees = replied.agrees;
            stands = λ m r a.
                let stands = replied.stands m r a in
                (stands.0, subst (λ script. Comes m script reply.output) (same_script script came.own.0 came.has_key) stands.1);
            reply = reply.how;
            enabled = λ same. let off : true ≡ false = came.disabled.0 same in cc;
            early = came.early;
            ends = came.ends;
          } in
          is_run missed (is.calls (λ same. subst (λ h. Ends evaluating is.mid (record ran { key = came.own }) h es') same came.ends)) ended
    ]
