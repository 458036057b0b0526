-- What a session remembers is found again.
use Rattle.std.proofs.Common.{◌≡◌, ◌∙◌, ◌≤◌, Bool, true, false, List, [], ◌∷◌, ℕ, string_bytes, bytes_eq, IsTrue, refl, sym, ap, subst, inl, inr, get_or}
use Rattle.std.proofs.lemmas.Bool.{cases_Bool}
use Rattle.std.proofs.lemmas.List.Elements.{All-cons}
use Rattle.std.specs.List.{All, Any}
use Rattle.std.specs.Bool.{⊤}
use Rattle.comemo.specs.Answers.{Respects, Agrees}
use Rattle.comemo.specs.Sequence.{held}
use Rattle.comemo.specs.Tree.{Stored}
use Rattle.comemo.specs.Cache.{Kept}
use Rattle.comemo.specs.Meaning.{IsNamedRun}
use Rattle.comemo.specs.Called.{Grows}
use Rattle.comemo.specs.Multi.{second_answer}
use Rattle.comemo.specs.declared.pending.How.{How}
use Rattle.comemo.specs.declared.pending.How.TheVariants as how
use Rattle.comemo.specs.declared.pending.Reply.{Reply}
use Rattle.comemo_track.specs.declared.multi.MultiCall.TheVariants as call
use Rattle.comemo.proofs.Under.{Any-weaker, All-from_under}
use Rattle.comemo.proofs.Keeping.{any_grows, IsInCache, kept_after}
use Rattle.comemo.proofs.Named.{run_from_named}
use Rattle.comemo.proofs.KeyedViews.{view_calls, view_answers, keyed_calls, keyed_answers, respects_with_key}
use Rattle.calc_core.specs.declared.commands.answer.Answer.TheVariants as answer
use Rattle.calc_core.specs.Asked.{Asks}
use Rattle.calc_core.specs.Meaning.{Means, IsTooDeep}
use Rattle.calc_core.specs.declared.scripts.outcome.Outcome.{Outcome}
use Rattle.calc_core.proofs.Meanings.{means_map, one_meaning}
use Rattle.calc_core.proofs.ScriptAsking.{asks_map, means_still}
use Rattle.calc_core.specs.declared.files.Files.{Files}
use Rattle.calc_core.specs.declared.files.FileCall.{FileCall}
use Rattle.calc_core.specs.declared.files.FileCall.TheVariants.{Read}
use Rattle.calc_core.specs.Files.{JoinedCall, JoinedAnswer, Texts, Reads, text_at, answers_of, with_key}
use Rattle.calc_core.specs.Joined.{same_call, same_answer, same_key}
use Rattle.calc_core.proofs.JoinedCalls.{tests}
use Rattle.calc_core.proofs.WhatReadsTell.{files_respect}
use Rattle.calc_core.specs.Evaluations.{In, At, ComesTo, ScriptAsks, EvalAsks, Outcomes, evaluating}
use Rattle.calc_core.specs.EvaluationCalls.{EvalReply}
use Rattle.calc_core.proofs.Evaluations.{reads, text_is, same_script, script_alike}
use Rattle.calc_core.proofs.EvaluationAsking.{keys, same_reads, asks_respect}
use Rattle.calc_core.specs.Sessions.{in_cache, height_limit}
use Rattle.calc_core.specs.Remembered.{Past, remembered_of, RecallsOf, answering, IsKept, Knows}

-- files answer their texts
answering_is : (files : Files) → answers_of files ≡ answering (text_at files)
answering_is files = λ i c. each c i
  where
    each : (c : FileCall) → answers_of files c ≡ answering (text_at files) c
    each (Read own) = refl

answering_respects : (texts : Texts) → Respects (view_calls same_call) (view_answers same_answer) (answering texts)
answering_respects texts (Read a) (Read b) h = subst (λ p. IsTrue (same_answer (second_answer (texts (string_bytes a))) (second_answer (texts p)))) (same_reads a b h) ((keyed_answers tests).refl (second_answer (texts (string_bytes a))))

-- answers that are the same to all calls that are held agree too
agrees_still : (m n : JoinedCall → JoinedAnswer) (ps : List (JoinedCall × JoinedAnswer)) → ((c : JoinedCall) → IsTrue (held same_call ps c) → n c ≡ m c) → Agrees same_answer m ps → Agrees same_answer n ps
agrees_still m n [] same a = tt
agrees_still m n (p ∷ ps) same a = (
  subst (λ x. IsTrue (same_answer x p.1)) (sym (same p.0 (rw ((keyed_calls tests).refl p.0) refl))) a.0,
  agrees_still m n ps (λ c h. same c (elim (cases_Bool (same_call c p.0)) [ inl e ↦ rw e refl | inr e ↦ rw e h ])) a.1,
)

in_reads : (texts : Texts) (path text : List ℕ) → In (with_key (answering texts)) path text → Reads texts path text
in_reads texts path text (own, named, gives) = subst (λ p. texts p ≡ text) named (text_is gives)

module _ (past : Past) (texts : Texts) (stay : (path : List ℕ) → Asks (Reads past.texts) past.script path → texts path ≡ past.texts path) where
  still : (c : JoinedCall) → ScriptAsks past.script (with_key (answering past.texts)) c → with_key (answering texts) c ≡ with_key (answering past.texts) c
  still (call.A u) h = absurd h
  still (call.B (Read own)) h = ap (λ x. second_answer x) (stay (string_bytes own) (asks_map (In (with_key (answering past.texts))) (Reads past.texts) (in_reads past.texts) h))

  entry_still : (e : Stored (List ℕ × ⊤) JoinedCall JoinedAnswer (Kept Outcome JoinedCall)) → IsNamedRun evaluating e.key e.path → e.key.0 ≡ past.script → Agrees same_answer (with_key (answering past.texts)) e.path → Agrees same_answer (with_key (answering texts)) e.path
  entry_still e run named agrees =
      let m = with_key (answering past.texts) in
      let own = run_from_named (keyed_calls tests) (keyed_answers tests) keys EvalAsks asks_respect e.key e.path run in
      agrees_still m (with_key (answering texts)) e.path (λ c h. still c (subst (λ x. ScriptAsks x m c) named ((own.complete m (respects_with_key tests (answering past.texts) (answering_respects past.texts)) agrees c).1 h))) agrees

  module _ (es : Outcomes) (settled : All (λ e. IsNamedRun evaluating e.key e.path) es) (kept : IsKept es past) where
    entry_due : Any (λ e. (e.key.0 ≡ past.script) × Agrees same_answer (with_key (answering texts)) e.path) es
    entry_due =
        let (i, e, low, at, holds) = kept.there in
        (i, e, low, at, (holds.0, entry_still e (subst (λ x. IsNamedRun evaluating x.key x.path) at (settled i e low)) holds.0 holds.1))

    -- it means the same still
    pub means_due : Means (Reads texts) past.script past.value kept.height
    means_due = means_still (Reads past.texts) (Reads texts) kept.means (λ path text a at. stay path a ∙ at)

module _ (files : Files) (past : Past) (stay : (path : List ℕ) → Asks (Reads past.texts) past.script path → text_at files path ≡ past.texts path) (es : Outcomes) (settled : All (λ e. IsNamedRun evaluating e.key e.path) es) (kept : IsKept es past) {sent : List (JoinedCall × JoinedAnswer) → List JoinedCall → Type 0} {reply : Reply Outcome} {es' : Outcomes} (replied : EvalReply files past.script es sent reply es') where
  -- a reply is a hit
  pub hit_due : reply.how ≡ how.Hit
  hit_due = elim replied.is_reply.came [
    | inl hit ↦ hit.0
    | inr ran ↦
        let (i, e, low, at, holds) = entry_due past (text_at files) stay es settled kept in
        let none = All-from_under (same_key bytes_eq) es (past.script, tt) (λ x. ¬ Agrees same_answer (with_key (answers_of files)) x.path) (ran.none refl) in
        let own = subst (λ x. IsTrue (same_key bytes_eq x.key (past.script, tt)) → ¬ Agrees same_answer (with_key (answers_of files)) x.path) at (none i e low) in
        absurd (own (script_alike e.key.0 past.script holds.0) (subst (λ f. Agrees same_answer (with_key f) e.path) (sym (answering_is files)) holds.1))
  ]

  -- with the value that is remembered
  pub value_due : ComesTo (answers_of files) past.script reply.output → reply.output.value ≡ past.value
  value_due comes =
      (one_meaning (Reads (text_at files)) (λ path text other a b. sym a ∙ b) (means_map (At (answers_of files)) (Reads (text_at files)) (reads files) comes) (means_due past (text_at files) stay es settled kept)).0

module _ (files : Files) (past : List Past) (es : Outcomes) (settled : All (λ e. IsNamedRun evaluating e.key e.path) es) (knows : Knows past es) (script : List ℕ) where
  pub recalls_reply : {sent : List (JoinedCall × JoinedAnswer) → List JoinedCall → Type 0} {reply : Reply Outcome} {es' : Outcomes} → EvalReply files script es sent reply es' → ComesTo (answers_of files) script reply.output → (hit kept : Bool) → (reply.how ≡ how.Hit → hit ≡ true) → RecallsOf past (text_at files) script (answer.Value hit kept reply.output.value)
  recalls_reply {sent = sent} {reply = reply} {es' = es'} replied comes hit kept is_hit = λ k d l same stay.
      let p = get_or past k d in
      let stays = subst (λ s. (path : List ℕ) → Asks (Reads p.texts) s path → text_at files path ≡ p.texts path) (sym same) stay in
      let own = subst (λ s. EvalReply files s es sent reply es') (sym same) replied in
      (is_hit (hit_due files p stays es settled (knows k d l) own), value_due files p stays es settled (knows k d l) own (subst (λ s. ComesTo (answers_of files) s reply.output) (sym same) comes))

  pub recalls_too_deep : IsTooDeep (Reads (text_at files)) script height_limit → RecallsOf past (text_at files) script answer.TooDeep
  recalls_too_deep deep = λ k d l same stay.
      let p = get_or past k d in
      let stays = subst (λ s. (path : List ℕ) → Asks (Reads p.texts) s path → text_at files path ≡ p.texts path) (sym same) stay in
      let kept = knows k d l in
      deep p.value kept.height (subst (λ s. Means (Reads (text_at files)) s p.value kept.height) same (means_due p (text_at files) stays es settled kept)) kept.low

pub recalls_memory : (past : List Past) (texts : Texts) (script : List ℕ) → RecallsOf past texts script answer.Memory
recalls_memory past texts script = λ k d l same stay. tt

-- what is remembered stays so where no entry is lost
pub knows_on : (past : List Past) (es es' : Outcomes) → Grows es es' → Knows past es → Knows past es'
knows_on past es es' grows knows = λ k d l.
    let p = get_or past k d in
    let kept = knows k d l in
    record {
      height = kept.height;
      means = kept.means;
      low = kept.low;
      there = any_grows (λ key path. (key.0 ≡ p.script) × Agrees same_answer (with_key (answering p.texts)) path) es es' grows kept.there;
    }

is_in_cache : (h : How) → in_cache h ≡ true → IsInCache h
is_in_cache how.Hit e = tt
is_in_cache how.Stored e = tt
is_in_cache how.AlreadyExists e = tt
is_in_cache how.MissingCall e = let z : false ≡ true = e in cc
is_in_cache how.NotStored e = let z : false ≡ true = e in cc
is_in_cache how.Disabled e = let z : false ≡ true = e in cc
is_in_cache how.Late e = let z : false ≡ true = e in cc

-- after a reply, so does what was, and a value that is kept is remembered
pub knows_reply : (files : Files) (past : List Past) (es es' : Outcomes) → Grows es es' → Knows past es → (script : List ℕ) {sent : List (JoinedCall × JoinedAnswer) → List JoinedCall → Type 0} {reply : Reply Outcome} → EvalReply files script es sent reply es' → ComesTo (answers_of files) script reply.output → reply.output.height ≤ height_limit → (hit kept : Bool) → kept ≡ in_cache reply.how → Knows (remembered_of past (text_at files) script (answer.Value hit kept reply.output.value)) es'
knows_reply files past es es' grows knows script replied comes low hit false e = knows_on past es es' grows knows
knows_reply files past es es' grows knows script {reply = reply} replied comes low hit true e =
    let texts = text_at files in
    let S : Stored (List ℕ × ⊤) JoinedCall JoinedAnswer (Kept Outcome JoinedCall) → Type 0 = λ x. IsTrue (same_key bytes_eq x.key (script, tt)) × Agrees same_answer (with_key (answers_of files)) x.path in
    let P : Stored (List ℕ × ⊤) JoinedCall JoinedAnswer (Kept Outcome JoinedCall) → Type 0 = λ x. (x.key.0 ≡ script) × Agrees same_answer (with_key (answering texts)) x.path in
    let there = kept_after evaluating (keyed_calls tests) (keyed_answers tests) keys (files_respect files) replied.is_reply (is_in_cache reply.how (sym e)) in
    All-cons (IsKept es') (record { script = script; texts = texts; value = reply.output.value }) past (record {
      height = reply.output.height;
      means = means_map (At (answers_of files)) (Reads texts) (reads files) comes;
      low = low;
      there = Any-weaker S P (λ x h. (same_script x.key.0 script h.0, subst (λ f. Agrees same_answer (with_key f) x.path) (answering_is files) h.1)) es' there;
    }) (knows_on past es es' grows knows)
