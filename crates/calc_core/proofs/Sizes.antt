-- The size that a run finds is right for all answers that agree with its recording.
use Rattle.std.proofs.Common.{◌≡◌, ◌∙◌, ℕ, true, false, List, [], ◌∷◌, Result, Ok, Err, IfOk, OnErr, refl, subst, inr, String, string_bytes, length, sym, ap}
use Rattle.std.specs.Prelude.{bytes_eq}
use Rattle.std.specs.Bool.{⊤}
use Rattle.std.specs.Global.{Global}
use Rattle.comemo.specs.Answers.{Respects, Agrees}
use Rattle.comemo.specs.Sequence.{absorbed}
use Rattle.comemo.specs.Begin.{PendingRun, IsHit, IsRun}
use Rattle.comemo.specs.Cache.{Stands, Touches}
use Rattle.comemo.specs.Meaning.{run as came}
use Rattle.comemo.specs.Finish.{Ends, Finished}
use Rattle.comemo.specs.Mapped.{Through}
use Rattle.comemo.specs.Multi.{second_call, second_answer}
use Rattle.comemo.specs.Recording.{Recording, Took}
use Rattle.comemo.specs.Sending.{Asks, TookAs}
use Rattle.comemo.specs.declared.pending.How.TheVariants as how
use Rattle.comemo.specs.declared.pending.Reply.{Reply}
use Rattle.comemo.proofs.Calls.{recorded, reply_by_hit, stands_at_call}
use Rattle.comemo.proofs.Endings.{gives_early}
use Rattle.comemo.proofs.KeyedViews.{keyed_calls, keyed_answers}
use Rattle.comemo.specs.MultiLaws.{second_respects}
use Rattle.calc_core.specs.declared.files.Files.{Files}
use Rattle.calc_core.specs.declared.files.FileCall.TheVariants.{Read}
use Rattle.calc_core.specs.Files.{JoinedCall, JoinedAnswer, text_at, answers_of}
use Rattle.calc_core.specs.Joined.{same_call, same_answer, touches, with_files}
use Rattle.calc_core.specs.Joined.{FilesFit}
use Rattle.calc_core.specs.Size.{IsSizeOf, ReadsAlone, SizeReply, Sizes, sizing}
use Rattle.calc_core.proofs.WhatReadsTell.{files_fit_none, fits_read, learns_read, writes_read, text_read}
use Rattle.calc_core.proofs.FileCalls.{same_shared, same_text, key_bytes}
use Rattle.calc_core.proofs.JoinedCalls.{tests}

module _ (files : Files) {own : String Global} {text : List ℕ} {s t : Recording JoinedCall JoinedAnswer} (asks : Asks bytes_eq (answers_of files) (Read own) text (Through second_call second_answer (Took same_call touches s t))) (complete : s.complete ≡ true) (early : s.late ≡ false) (none : s.pairs ≡ []) where
  -- the files fit what a run has recorded that read one text
  pub size_fits : FilesFit files t
  size_fits = fits_read files asks (files_fit_none files s complete early none)

  -- the length of that text is the size wherever the recording agrees
  pub size_stands : s.writes ≡ [] → (key : String Global × ⊤) → string_bytes own ≡ string_bytes key.0 → {output : ℕ} → output ≡ length text → t.complete ≡ true → t.late ≡ false → (m : JoinedCall → JoinedAnswer) → Respects same_call same_answer m → Agrees same_answer m t.pairs → IsSizeOf key m output t.writes
  size_stands unwritten key named long ended in_time m respects agrees = (
    writes_read files asks ∙ unwritten,
    λ n second.
        let told = (learns_read files asks (files_fit_none files s complete early none)).told m (record { complete = ended; early = in_time; respects = respects; agrees = agrees }) n second in
        let alike = second_respects same_call same_answer m n respects second (Read own) (Read key.0) (same_text own key.0 named) in
        long ∙ ap length (sym told ∙ same_shared (n (Read own)) (n (Read key.0)) alike),
  )

  -- the recording is that read
  pub read_alone : {path : List ℕ} → string_bytes own ≡ path → ReadsAlone path t.pairs
  read_alone named = (own, asks.noted, named, asks.sent.pairs ∙ ap (λ ps. absorbed same_call ps ((second_call (Read own), second_answer asks.noted) ∷ [])) none)

  -- its text is the one at the path
  pub size_read : {path : List ℕ} → string_bytes own ≡ path → length text ≡ length (text_at files path)
  size_read named = ap length (sym (text_read files asks) ∙ ap (text_at files) named)

-- a hit is replied so
pub size_by_hit : (files : Files) {path : List ℕ} {es es' : Sizes} {key : String Global} {done : List JoinedCall → Type 0} {sent : List (JoinedCall × JoinedAnswer) → List JoinedCall → Type 0} {output : ℕ} → string_bytes key ≡ path → IsHit sizing es (with_files key files) done sent output → Touches sizing es (with_files key files) es' → SizeReply files path es sent (record { output = output; how = how.Hit }) es'
size_by_hit files {es = es} {es' = es'} {key = key} names hit touched = record {
  key = key;
  names = names;
  is_reply = reply_by_hit (keyed_calls tests) (keyed_answers tests) es es' hit touched;
  asks = λ not. absurd (not refl);
}

-- a run that read one text and was finished with its length is replied so
pub size_by_run : (files : Files) {path : List ℕ} {es es' : Sizes} {key own : String Global} {text : List ℕ} {begun : PendingRun (String Global × ⊤) JoinedCall JoinedAnswer} {s t : Recording JoinedCall JoinedAnswer} {S : Type 0} (took : S → S → List (JoinedCall × JoinedAnswer) → List JoinedCall → Type 0) (lates : S → S → Type 0) {i j : S} {output : ℕ} {reply : Reply ℕ}
    → string_bytes key ≡ path → IsRun sizing es (with_files key files) begun → s ≡ begun.recording → string_bytes own ≡ path → Asks bytes_eq (answers_of files) (Read own) text (Through second_call second_answer (Took same_call touches s t)) → output ≡ length text
    → Finished sizing es (recorded begun t) (TookAs took lates t.late i j) output reply es' → SizeReply files path es (took i j) reply es'
size_by_run files {es = es} {es' = es'} {key = key} {begun = begun} {t = t} took lates {output = output} {reply = reply} names run is named asks long finished =
    let complete = subst (λ r. r.complete ≡ true) (sym is) run.complete in
    let early = subst (λ r. r.late ≡ false) (sym is) run.early in
    let none = subst (λ r. r.pairs ≡ []) (sym is) run.pairs in
    let unwritten = subst (λ r. r.writes ≡ []) (sym is) run.writes in
    let fits = size_fits files asks complete early none in
    let stands = size_stands files asks complete early none unwritten begun.key (named ∙ sym names ∙ key_bytes key begun.key.0 run.has_key) long fits.complete fits.early in
    record {
      key = key;
      names = names;
      is_reply = record {
        pairs = t.pairs;
        writes = t.writes;
        agrees = fits.agrees;
        stands = subst (λ o. Stands sizing (came (key, tt) t.pairs o t.writes)) (sym finished.same) (stands_at_call run t.pairs output t.writes stands);
        settled = tt;
        gives = gives_early took lates t.late fits.early finished.gives;
        came = inr (record {
          none = run.none;
          own = begun.key;
          has_key = run.has_key;
          ends = subst (λ o. Ends sizing es (came begun.key t.pairs o t.writes) reply.how es') (sym finished.same) finished.ends;
          disabled = (λ d. sym run.is_enabled ∙ (finished.disabled.0 d).0, λ d. finished.disabled.1 (run.is_enabled ∙ d, fits.early));
          early = λ l. let no : false ≡ true = sym fits.early ∙ finished.late.0 l in cc;
        });
      };
      asks = λ _. read_alone files asks complete early none named;
    }

pub mapped : {A E : Type 0} {P Q : A → Type 0} → ((a : A) → P a → Q a) → (r : Result A E) → IfOk r P → IfOk r Q
mapped f (Ok a) p = f a p
mapped f (Err e) p = tt

pub mapped_err : {A E P Q : Type 0} → (P → Q) → (r : Result A E) → OnErr r P → OnErr r Q
mapped_err f (Ok a) p = tt
mapped_err f (Err e) p = f p
