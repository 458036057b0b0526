-- What a run of a script reads: its recording is what the script reads.
use Rattle.std.proofs.Common.{◌≡◌, ◌⊎◌, ◌∙◌, true, false, ℕ, ℤ, pos, List, [], ◌∷◌, Ok, Err, IsTrue, String, string_bytes, sym, ap, subst, inl, inr, rules}
use Rattle.std.specs.Bool.{⊤}
use Rattle.std.specs.Prelude.{bytes_eq}
use Rattle.std.specs.Global.{Global}
use Rattle.std.specs.Cmp.{IsEquivalence}
use Rattle.comemo.specs.Answers.{Respects, Agrees}
use Rattle.comemo.specs.Runs.{AsksRespect, IsRun}
use Rattle.comemo.specs.Settling.{Settles, nothing_left}
use Rattle.comemo.specs.Function.{Learns}
use Rattle.comemo.specs.Mapped.{Through}
use Rattle.comemo.specs.Multi.{second_call, second_answer}
use Rattle.comemo.specs.Sending.{Asks, TookAs}
use Rattle.comemo.specs.Recording.{Recording, Took}
use Rattle.comemo.specs.Begin.{PendingRun, came_to, IsRun as Begins}
use Rattle.comemo.specs.Cache.{Stands}
use Rattle.comemo.specs.Called.{IsReply}
use Rattle.comemo.specs.Finish.{Finished}
use Rattle.comemo.specs.Meaning.{IsNamedRun}
use Rattle.comemo.specs.declared.pending.Reply.{Reply}
use Rattle.comemo_track.specs.declared.multi.MultiCall.TheVariants as call
use Rattle.comemo_track.specs.declared.multi.MultiAnswer.TheVariants as answer
use Rattle.comemo.proofs.Calls.{recorded, reply_by_run}
use Rattle.comemo.proofs.Named.{run_named, run_from_named}
use Rattle.comemo.proofs.Settling.{settles_not, settles_on, settles_absorbed, run_of_one, run_from_settles, run_alike}
use Rattle.comemo.proofs.KeyedViews.{keyed_calls, keyed_answers}
use Rattle.calc_core.specs.Asked.{Asks as ScriptAsksFor, asks, AsksIn, asks_here, PartAsks, asks_itself, asks_inside}
use Rattle.calc_core.specs.Parts.{parts, IsEval, IsNoEval}
use Rattle.calc_core.specs.Taken.{Taken}
use Rattle.calc_core.specs.Totals.{IsAdded}
use Rattle.calc_core.specs.declared.scripts.outcome.CalcFault.{CalcFault}
use Rattle.calc_core.specs.declared.scripts.outcome.Outcome.{Outcome}
use Rattle.calc_core.proofs.Meanings.{same_path}
use Rattle.calc_core.proofs.Totals.{Leaves}
use Rattle.calc_core.proofs.ScriptAsking.{asks_none, asked_of_rest, asked_of_last}
use Rattle.calc_core.specs.declared.files.Files.{Files}
use Rattle.calc_core.specs.declared.files.FileCall.TheVariants.{Read}
use Rattle.calc_core.specs.Files.{JoinedCall, JoinedAnswer, with_key, answers_of}
use Rattle.calc_core.specs.Joined.{FilesFit, same_call, same_answer, same_key, touches, with_files}
use Rattle.calc_core.proofs.FileCalls.{same_shared}
use Rattle.calc_core.proofs.JoinedCalls.{tests, was_early}
use Rattle.calc_core.proofs.WhatReadsTell.{files_respect, asked, read}
use Rattle.calc_core.specs.ScriptCalls.{RunLeads}
use Rattle.calc_core.specs.EvaluationCalls.{moves, EvalReply}
use Rattle.calc_core.proofs.Evaluations.{same_script}
use Rattle.calc_core.specs.Evaluations.{In, At, PartComes, OnRead, ScriptAsks, APartAsks, LeftAsk, EvalAsks, Outcomes, evaluating}

-- equal reads are of one path
pub same_reads : (a b : String Global) → IsTrue (same_call (second_call (Read a)) (second_call (Read b))) → string_bytes a ≡ string_bytes b
same_reads a b h = search rules

reads_same : (a b : String Global) → string_bytes a ≡ string_bytes b → IsTrue (same_call (second_call (Read a)) (second_call (Read b)))
reads_same a b h = search rules

-- what holds of a read holds of an equal one
read_alike : (P : List ℕ → Type 0) (c d : JoinedCall) → IsTrue (same_call c d) → OnRead P c → OnRead P d
read_alike P (call.A u) d e h = absurd h
read_alike P (call.B (Read a)) (call.A u) e h = let z : false ≡ true = e in cc
read_alike P (call.B (Read a)) (call.B (Read b)) e h = subst P (same_reads a b e) h

read_more : (P Q : List ℕ → Type 0) → ((path : List ℕ) → P path → Q path) → (c : JoinedCall) → OnRead P c → OnRead Q c
read_more P Q f (call.A u) h = absurd h
read_more P Q f (call.B (Read a)) h = f (string_bytes a) h

-- of one of two
read_either : (P Q R : List ℕ → Type 0) → ((path : List ℕ) → P path → Q path ⊎ R path) → (c : JoinedCall) → OnRead P c → OnRead Q c ⊎ OnRead R c
read_either P Q R f (call.A u) h = absurd h
read_either P Q R f (call.B (Read a)) h = elim (f (string_bytes a) h) [ inl q ↦ inl q | inr r ↦ inr r ]

-- an answer that is equal to a text's is it
answer_is : (a : JoinedAnswer) (text : List ℕ) → IsTrue (same_answer a (second_answer text)) → a ≡ second_answer text
answer_is (answer.A u) text h = let z : false ≡ true = h in cc
answer_is (answer.B t) text h = ap (λ x. second_answer x) (same_shared t text h)

-- the asked calls of `evaluate` tell no equal keys and no equal calls apart
pub asks_respect : AsksRespect (same_key bytes_eq) same_call EvalAsks
asks_respect k j m c d e f h = subst (λ script. ScriptAsks script m d) (same_script k.0 j.0 e) (read_alike (ScriptAsksFor (In m) k.0) c d f h)

-- one text stands at each path
pub one_text : (m : JoinedCall → JoinedAnswer) → Respects same_call same_answer m → (path text other : List ℕ) → In m path text → In m path other → text ≡ other
one_text m respects path text other (a, na, ga) (b, nb, gb) =
    let alike = respects (second_call (Read a)) (second_call (Read b)) (reads_same a b (na ∙ sym nb)) in
    let told : IsTrue (same_answer (second_answer text) (second_answer other)) = subst (λ x. IsTrue (same_answer x (second_answer other))) ga (subst (λ x. IsTrue (same_answer (m (second_call (Read a))) x)) gb alike) in
    same_shared text other told

module _ (files : Files) where
  now_respects : Respects same_call same_answer (with_key (answers_of files))
  now_respects = files_respect files

  module _ {s t : Recording JoinedCall JoinedAnswer} {own : String Global} {text : List ℕ} (read : Asks bytes_eq (answers_of files) (Read own) text (Through second_call second_answer (Took same_call touches s t))) (fits : FilesFit files s) where
    -- what was read is recorded
    settles_read : Settles same_call same_answer (λ m c. IsTrue (same_call (second_call (Read own)) c)) nothing_left s.pairs t.pairs
    settles_read =
        let a = asked files read in
        subst (λ ps. Settles same_call same_answer (λ m c. IsTrue (same_call (second_call (Read own)) c)) nothing_left s.pairs ps) (sym a.sent.pairs)
        (settles_absorbed (keyed_calls tests) (keyed_answers tests) (with_key (answers_of files)) now_respects (λ m c. IsTrue (same_call (second_call (Read own)) c)) s.pairs ((second_call (Read own), a.noted) ∷ []) fits.agrees (a.alike, tt) (run_of_one (keyed_calls tests) (keyed_answers tests) (second_call (Read own)) a.noted))

    -- the text that was read, and then what its script asked, is what a part asks that calls it
    pub settles_part : {part path : List ℕ} {u : Recording JoinedCall JoinedAnswer} {es mid es' : Outcomes} {reply : Reply Outcome} → FilesFit files t
        → ((m : JoinedCall → JoinedAnswer) → Respects same_call same_answer m → Agrees same_answer m t.pairs → m (second_call (Read own)) ≡ second_answer text)
        → (replied : IsReply evaluating (with_files text files) es mid (Took same_call touches t u) reply es') → IsRun same_call same_answer (ScriptAsks text) replied.pairs
        → IsEval part path → string_bytes own ≡ path → Settles same_call same_answer (APartAsks part) nothing_left s.pairs u.pairs
    settles_part {part = part} {path = path} {u = u} fits_t told replied complete is named =
        let calls = keyed_calls tests in
        let answers = keyed_answers tests in
        let m0 = with_key (answers_of files) in
        let given = replied.gives.given in
        let given_run = run_alike calls answers (ScriptAsks text) (λ m c d e h. read_alike (ScriptAsksFor (In m) text) c d e h) replied.pairs given replied.gives.alike complete in
        let given_agrees = (replied.gives.agreeing m0 now_respects).1 replied.agrees in
        let inner : Settles same_call same_answer (ScriptAsks text) nothing_left t.pairs u.pairs =
        subst (λ ps. Settles same_call same_answer (ScriptAsks text) nothing_left t.pairs ps) (sym replied.gives.are_sent.pairs) (settles_absorbed calls answers m0 now_respects (ScriptAsks text) t.pairs given fits_t.agrees given_agrees given_run) in
        let none : Settles same_call same_answer (APartAsks part) (APartAsks part) s.pairs s.pairs = settles_not calls answers (APartAsks part) (APartAsks part) s.pairs (λ m r k c h. h) in
        let first : Settles same_call same_answer (APartAsks part) (ScriptAsks text) s.pairs t.pairs =
        settles_on calls answers (APartAsks part) (APartAsks part) (λ m c. IsTrue (same_call (second_call (Read own)) c)) (ScriptAsks text) s.pairs s.pairs t.pairs none settles_read
        (λ m r k c e. read_alike (PartAsks (In m) part) (second_call (Read own)) c e (asks_itself (subst (λ p. IsEval part p) (sym named) is)))
        (λ m r k c h. of_part m r (told m r k) is named c h) in
        settles_on calls answers (APartAsks part) (ScriptAsks text) (ScriptAsks text) nothing_left s.pairs t.pairs u.pairs first inner
        (λ m r k c h. read_more (ScriptAsksFor (In m) text) (PartAsks (In m) part) (λ q a. asks_inside is (own, named, told m r k) a) c h)
        (λ m r k c h. inl h)
      where
        of_path : (m : JoinedCall → JoinedAnswer) → Respects same_call same_answer m → m (second_call (Read own)) ≡ second_answer text → {part path : List ℕ} → IsEval part path → string_bytes own ≡ path → (q : List ℕ) → PartAsks (In m) part q → (path ≡ q) ⊎ ScriptAsksFor (In m) text q
        of_path m r told is named q (asks_itself is') = inl (same_path is is')
        of_path m r told is named q (asks_inside {called = called} {text = other} is' at a) =
            let same : other ≡ text = one_text m r called other text at (own, named ∙ same_path is is', told) in
            inr (subst (λ x. ScriptAsksFor (In m) x q) same a)

        of_part : (m : JoinedCall → JoinedAnswer) → Respects same_call same_answer m → m (second_call (Read own)) ≡ second_answer text → {part path : List ℕ} → IsEval part path → string_bytes own ≡ path → (c : JoinedCall) → APartAsks part m c → IsTrue (same_call (second_call (Read own)) c) ⊎ ScriptAsks text m c
        of_part m r told is named (call.A u) h = absurd h
        of_part m r told is named (call.B (Read a)) h =
            elim (of_path m r told is named (string_bytes a) h) [ inl e ↦ inl (reads_same own a (named ∙ e)) | inr x ↦ inr x ]

-- a part that calls no script asks nothing
no_part_asks : {part : List ℕ} (m : JoinedCall → JoinedAnswer) → IsNoEval part → (q : List ℕ) → PartAsks (In m) part q → ⊥
no_part_asks m none q (asks_itself {path = path} is) = none path is
no_part_asks m none q (asks_inside {called = called} is at a) = none called is

pub settles_none : {part : List ℕ} (ps : List (JoinedCall × JoinedAnswer)) → IsNoEval part → Settles same_call same_answer (APartAsks part) nothing_left ps ps
settles_none {part = part} ps none = settles_not (keyed_calls tests) (keyed_answers tests) (APartAsks part) nothing_left ps (λ m r k c h. never m c h)
  where
    never : (m : JoinedCall → JoinedAnswer) (c : JoinedCall) → APartAsks part m c → ⊥
    never m (call.A u) h = h
    never m (call.B (Read a)) h = no_part_asks m none (string_bytes a) h

left_all : (m : JoinedCall → JoinedAnswer) (script : List ℕ) (ps : List (List ℕ)) (taken : Taken) → ps ≡ parts script → taken ≡ record { sum = pos 0; height = 0 } → (q : List ℕ) → ScriptAsksFor (In m) script q → AsksIn (In m) ps taken.sum q
left_all m script ps taken all none q (asks a) = subst (λ (x : Taken). AsksIn (In m) ps x.sum q) (sym none) (subst (λ xs. AsksIn (In m) xs (pos 0) q) (sym all) a)

-- before the first part all is left to be asked
pub settles_start : (script : List ℕ) (ps : List (List ℕ)) (taken : Taken) (pairs : List (JoinedCall × JoinedAnswer)) → ps ≡ parts script → taken ≡ record { sum = pos 0; height = 0 } → Settles same_call same_answer (ScriptAsks script) (LeftAsk ps taken.sum) pairs pairs
settles_start script ps taken pairs all none =
    settles_not (keyed_calls tests) (keyed_answers tests) (ScriptAsks script) (LeftAsk ps taken.sum) pairs (λ m r k c h. read_more (ScriptAsksFor (In m) script) (AsksIn (In m) ps taken.sum) (left_all m script ps taken all none) c h)

-- what is learnt of all answers that agree with a recording that is complete and not late
told_of : {s t : Recording JoinedCall JoinedAnswer} {P : (JoinedCall → JoinedAnswer) → Type 0} → t.complete ≡ true → t.late ≡ false → Learns same_call same_answer s t P → (m : JoinedCall → JoinedAnswer) → Respects same_call same_answer m → Agrees same_answer m t.pairs → P m
told_of complete early learns m r k = learns.told m (record { complete = complete; early = early; respects = r; agrees = k })

module _ {script part : List ℕ} {qs ps : List (List ℕ)} {s t u : Recording JoinedCall JoinedAnswer} (old new : Taken) {outcome : Outcome} (complete_t : t.complete ≡ true) (early_t : t.late ≡ false) (complete_u : u.complete ≡ true) (early_u : u.late ≡ false)
    (so_far : Settles same_call same_answer (ScriptAsks script) (LeftAsk qs old.sum) s.pairs t.pairs) (leaves : Learns same_call same_answer s t (λ m. Leaves (In m) script qs old)) (cut : qs ≡ part ∷ ps)
    (means : Learns same_call same_answer t u (λ m. PartComes m part outcome)) (of_part : Settles same_call same_answer (APartAsks part) nothing_left t.pairs u.pairs) where
  reaches : (m : JoinedCall → JoinedAnswer) → Respects same_call same_answer m → Agrees same_answer m t.pairs → (c : JoinedCall) → APartAsks part m c → ScriptAsks script m c
  reaches m r k c h =
      let l = subst (λ xs. Leaves (In m) script xs old) cut (told_of complete_t early_t leaves m r k) in
      read_more (PartAsks (In m) part) (ScriptAsksFor (In m) script) (λ q a. asks (l.reaches (asks_here a))) c h

  -- after one more part
  pub settles_rest : IsAdded old.sum outcome.value new.sum (Ok tt) → Settles same_call same_answer (ScriptAsks script) (LeftAsk ps new.sum) s.pairs u.pairs
  settles_rest added =
      settles_on (keyed_calls tests) (keyed_answers tests) (ScriptAsks script) (LeftAsk qs old.sum) (APartAsks part) (LeftAsk ps new.sum) s.pairs t.pairs u.pairs so_far of_part reaches
      (λ m r k c h. read_either (AsksIn (In m) qs old.sum) (PartAsks (In m) part) (AsksIn (In m) ps new.sum) (λ q a. asked_of_rest (In m) (one_text m r) outcome.value old.sum new.sum (told_of complete_u early_u means m r k) added (subst (λ xs. AsksIn (In m) xs old.sum q) cut a)) c h)

  -- at the part at which a script ends
  pub settles_last : (fault : CalcFault) → IsAdded old.sum outcome.value new.sum (Err fault) → Settles same_call same_answer (ScriptAsks script) nothing_left s.pairs u.pairs
  settles_last fault added =
      settles_on (keyed_calls tests) (keyed_answers tests) (ScriptAsks script) (LeftAsk qs old.sum) (APartAsks part) nothing_left s.pairs t.pairs u.pairs so_far of_part reaches
      (λ m r k c h. inl (read_more (AsksIn (In m) qs old.sum) (PartAsks (In m) part) (λ q a. asked_of_last (In m) (one_text m r) outcome.value old.sum new.sum fault (told_of complete_u early_u means m r k) added (subst (λ xs. AsksIn (In m) xs old.sum q) cut a)) c h))

-- where no part is left, nothing is
pub settles_end : {script : List ℕ} {qs : List (List ℕ)} {sum : ℤ} (ps ts : List (JoinedCall × JoinedAnswer)) → Settles same_call same_answer (ScriptAsks script) (LeftAsk qs sum) ps ts → qs ≡ [] → Settles same_call same_answer (ScriptAsks script) nothing_left ps ts
settles_end {script = script} {qs = qs} {sum = sum} ps ts h none = record {
  added = h.added;
  parts = h.parts;
  in_turn = h.in_turn;
  complete = λ m r k c a. elim (h.complete m r k c a) [ inl there ↦ inl there | inr left ↦ absurd (never m c left) ];
}
  where
    never : (m : JoinedCall → JoinedAnswer) (c : JoinedCall) → LeftAsk qs sum m c → ⊥
    never m (call.A u) h = h
    never m (call.B (Read a)) h = asks_none (subst (λ xs. AsksIn (In m) xs sum (string_bytes a)) none h)

-- what a run of the script recorded is a run of what it asks for
pub script_run : {script : List ℕ} (ps ts : List (JoinedCall × JoinedAnswer)) → ps ≡ [] → Settles same_call same_answer (ScriptAsks script) nothing_left ps ts → IsRun same_call same_answer (ScriptAsks script) ts
script_run {script = script} ps ts none settles =
    run_from_settles (keyed_calls tests) (keyed_answers tests) (ScriptAsks script) (λ m c d e h. read_alike (ScriptAsksFor (In m) script) c d e h) ts (subst (λ xs. Settles same_call same_answer (ScriptAsks script) nothing_left xs ts) none settles)

pub keys : IsEquivalence (same_key bytes_eq)
keys = search rules

-- so it may be stored under the key of the run
pub script_settled : {script : List ℕ} (own : List ℕ × ⊤) (ps : List (JoinedCall × JoinedAnswer)) → IsTrue (same_key bytes_eq (script, tt) own) → IsRun same_call same_answer (ScriptAsks script) ps → IsNamedRun evaluating own ps
script_settled {script = script} own ps has complete =
    run_named (keyed_calls tests) (keyed_answers tests) keys EvalAsks asks_respect own ps (subst (λ x. IsRun same_call same_answer (ScriptAsks x) ps) (same_script script own.0 has) complete)

-- what a reply rests on is what the script asks for
pub settled_reply : (files : Files) {script : List ℕ} {es mid es' : Outcomes} {sent : List (JoinedCall × JoinedAnswer) → List JoinedCall → Type 0} {reply : Reply Outcome} → (replied : IsReply evaluating (with_files script files) es mid sent reply es') → IsRun same_call same_answer (ScriptAsks script) replied.pairs
settled_reply files {script = script} replied =
    run_from_named (keyed_calls tests) (keyed_answers tests) keys EvalAsks asks_respect (script, tt) replied.pairs replied.settled

-- the reply to a run, which rests on what it recorded
pub replied_run : (files : Files) {script : List ℕ} {es mid es' : Outcomes} {begun : PendingRun (List ℕ × ⊤) JoinedCall JoinedAnswer} {t : Recording JoinedCall JoinedAnswer} {S : Type 0} (took : S → S → List (JoinedCall × JoinedAnswer) → List JoinedCall → Type 0) (lates : S → S → Type 0) {i j : S} {output : Outcome} {reply : Reply Outcome} → Begins evaluating es (with_files script files) begun → RunLeads (At (answers_of files)) (moves files) script es mid
    → t.late ≡ false → Agrees same_answer (with_key (answers_of files)) t.pairs → Stands evaluating (came_to (recorded begun t) output) → Finished evaluating mid (recorded begun t) (TookAs took lates t.late i j) output reply es' → EvalReply files script es (took i j) reply es'
replied_run files {mid = mid} {t = t} took lates is calls early agrees stands done = record {
  mid = mid;
  calls = λ _. calls;
  is_reply = reply_by_run took lates {t = t} is early agrees stands done;
}

-- what a read tells of all answers that fit
module _ (files : Files) {s t : Recording JoinedCall JoinedAnswer} {own : String Global} {text : List ℕ} (read_asks : Asks bytes_eq (answers_of files) (Read own) text (Through second_call second_answer (Took same_call touches s t))) where
  pub learns_text : FilesFit files s → Learns same_call same_answer s t (λ m. m (second_call (Read own)) ≡ second_answer text)
  learns_text fits = record {
    before = λ m f. record { complete = sym (asked files read_asks).sent.complete ∙ f.complete; early = was_early ((second_call (Read own), (asked files read_asks).noted) ∷ []) [] (asked files read_asks).sent f.early; respects = f.respects; agrees = (read files read_asks fits.agrees).before m f.respects f.agrees };
    told = λ m f. answer_is (m (second_call (Read own))) text ((read files read_asks fits.agrees).told m f.respects f.agrees);
  }

  pub told_text : FilesFit files s → t.complete ≡ true → t.late ≡ false → (m : JoinedCall → JoinedAnswer) → Respects same_call same_answer m → Agrees same_answer m t.pairs → m (second_call (Read own)) ≡ second_answer text
  told_text fits complete early = told_of complete early (learns_text fits)
