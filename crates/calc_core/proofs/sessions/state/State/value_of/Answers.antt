use Rattle.std.proofs.Common.{refl, rules}
use Rattle.calc_core.proofs.EvaluationCalls.{call_grows, failed_call_grows}
use Rattle.calc_core.proofs.Recalling.{recalls_reply, recalls_too_deep, recalls_memory, knows_on, knows_reply}
use Rattle.calc_core.proofs.Meanings.{means_map}
use Rattle.calc_core.specs.Files.{Reads, text_at, answers_of}
use Rattle.calc_core.specs.Evaluations.{At}
use Rattle.calc_core.specs.Sessions.{value, too_deep, no_memory}
use Rattle.calc_core.proofs.Evaluations.{reads}
use Rattle.calc_core.proofs.sessions.state.State.value_of.Goals as goal

pub returns-in-Ok-clause-answer : goal.returns-in-Ok-clause-answer
returns-in-Ok-clause-answer c =
    let files = c.args.self.now.files in
    let (comes_to, low) = rw c.view-view.ensures at c.in-Ok.ensures.outcome in
    value (means_map (At (answers_of files)) (Reads (text_at files)) (reads files) comes_to) low (λ path. refl)

pub returns-in-Err-TooDeep-clause-answer : goal.returns-in-Err-TooDeep-clause-answer
returns-in-Err-TooDeep-clause-answer c =
    let exactly = rw c.view-view.ensures at (rw c.in-Err-TooDeep.field-0-is at c.in-Err-TooDeep.ensures.too_deep) in
    too_deep ((exactly (λ e. absurd (let never : ⊥ = cc in never))).0 refl) (λ path. refl)

pub returns-in-Err-Memory-clause-answer : goal.returns-in-Err-Memory-clause-answer
returns-in-Err-Memory-clause-answer c = no_memory (λ path. refl)

pub returns-in-Ok-clause-recalls : goal.returns-in-Ok-clause-recalls
returns-in-Ok-clause-recalls c = λ past knows.
    let files = c.args.self.now.files in
    let es = c.args.self.now.evaluated in
    let script = c.args.script.now in
    let replied = rw c.view-view.ensures at c.in-Ok.ensures.reply in
    let (comes_to, low) = rw c.view-view.ensures at c.in-Ok.ensures.outcome in
    let grows = call_grows files (rw c.view-view.ensures at c.in-Ok.ensures.led) in
    (recalls_reply files past es c.reveal_runs.ensures knows script replied comes_to c.eq.result c.is_kept.result (λ e. search (rules, e, c.eq.ensures)), knows_reply files past es _ grows knows script replied comes_to low c.eq.result c.is_kept.result c.is_kept.ensures)

pub returns-in-Err-TooDeep-clause-recalls : goal.returns-in-Err-TooDeep-clause-recalls
returns-in-Err-TooDeep-clause-recalls c = λ past knows.
    let files = c.args.self.now.files in
    let es = c.args.self.now.evaluated in
    let script = c.args.script.now in
    let exactly = rw c.view-view.ensures at (rw c.in-Err-TooDeep.field-0-is at c.in-Err-TooDeep.ensures.too_deep) in
    let grows = failed_call_grows files (rw c.view-view.ensures at c.in-Err-TooDeep.ensures.failed) in
    (recalls_too_deep files past es c.reveal_runs.ensures knows script ((exactly (λ e. absurd (let never : ⊥ = cc in never))).0 refl), knows_on past es _ grows knows)

pub returns-in-Err-Memory-clause-recalls : goal.returns-in-Err-Memory-clause-recalls
returns-in-Err-Memory-clause-recalls c = λ past knows.
    let files = c.args.self.now.files in
    let grows = failed_call_grows files (rw c.view-view.ensures at c.in-Err-Memory.ensures.failed) in
    (recalls_memory past _ _, knows_on past c.args.self.now.evaluated _ grows knows)
