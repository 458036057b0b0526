-- What a recording states about a read of the files, and what an interrupted sink got.
use Rattle.std.proofs.Common.{◌≡◌, Bool, true, false, IsTrue, List, [], ◌∷◌, Result, Ok, Err, OnErr, ◌∙◌, ℕ, String, refl, sym, subst, append-nil}
use Rattle.std.specs.Prelude.{bytes_eq}
use Rattle.std.specs.Global.{Global}
use Rattle.comemo.specs.Answers.{Respects, Agrees}
use Rattle.comemo.specs.Function.{Learns}
use Rattle.comemo.specs.Finish.{BrokeOff}
use Rattle.comemo.specs.Mapped.{Through}
use Rattle.comemo.specs.Multi.{second_call, second_answer}
use Rattle.comemo.specs.Recording.{Recording, Took}
use Rattle.comemo.specs.Sending.{Asks, BreaksOff}
use Rattle.comemo.proofs.KeyedViews.{keyed_calls, keyed_answers, respects_with_key}
use Rattle.comemo.proofs.Through.{asked_through}
use Rattle.comemo.proofs.Telling.{ToldAnswer, told_answer}
use Rattle.calc_core.specs.declared.files.Files.{Files}
use Rattle.calc_core.specs.declared.files.FileCall.TheVariants.{Read}
use Rattle.calc_core.specs.Files.{JoinedCall, JoinedAnswer, OnFiles, with_key, answers_of}
use Rattle.calc_core.specs.Joined.{FilesFit, same_call, same_answer, touches}
use Rattle.calc_core.proofs.FileCalls.{same_shared, answers_alike}
use Rattle.calc_core.proofs.JoinedCalls.{tests, still_early, was_early}

-- what a key joined with files answers tells no equal calls apart
pub files_respect : (files : Files) → Respects same_call same_answer (with_key (answers_of files))
files_respect files = respects_with_key tests (answers_of files) (answers_alike files)

-- files fit what has no pair
pub files_fit_none : (files : Files) (s : Recording JoinedCall JoinedAnswer) → s.complete ≡ true → s.late ≡ false → s.pairs ≡ [] → FilesFit files s
files_fit_none files s complete early none = record {
  complete = complete;
  early = early;
  respects = files_respect files;
  agrees = subst (λ ps. Agrees same_answer (with_key (answers_of files)) ps) (sym none) tt;
}

-- what a read of the files gave a recording
module _ (files : Files) {s t : Recording JoinedCall JoinedAnswer} {own : String Global} {text : List ℕ} (asks : Asks bytes_eq (answers_of files) (Read own) text (Through second_call second_answer (Took same_call touches s t))) where
  pub asked : Asks same_answer (with_key (answers_of files)) (second_call (Read own)) (second_answer text) (Took same_call touches s t)
  asked = asked_through same_answer second_call second_answer (answers_of files) (with_key (answers_of files)) (Read own) text refl (λ x y. refl) asks

  pub read : Agrees same_answer (with_key (answers_of files)) s.pairs → ToldAnswer same_call same_answer (with_key (answers_of files)) s.pairs (second_call (Read own)) (second_answer text) t.pairs
  read agrees = told_answer (keyed_calls tests) (keyed_answers tests) (with_key (answers_of files)) (files_respect files) s t (second_call (Read own)) (second_answer text) agrees asked

  -- the files fit a recording of what was read of them
  pub fits_read : FilesFit files s → FilesFit files t
  fits_read fits = record { complete = asked.sent.complete ∙ fits.complete; early = still_early ((second_call (Read own), asked.noted) ∷ []) [] asked.sent fits.early; respects = fits.respects; agrees = (read fits.agrees).agrees }

  -- what was read is what is answered to the read
  pub learns_read : FilesFit files s → Learns same_call same_answer s t (OnFiles (λ n. n (Read own) ≡ text))
  learns_read fits = record {
    before = λ m f. record { complete = sym asked.sent.complete ∙ f.complete; early = was_early ((second_call (Read own), asked.noted) ∷ []) [] asked.sent f.early; respects = f.respects; agrees = (read fits.agrees).before m f.respects f.agrees };
    told = λ m f part second. same_shared (part (Read own)) text (subst (λ a. IsTrue (same_answer a (second_answer text))) (second (Read own)) ((read fits.agrees).told m f.respects f.agrees));
  }

  pub writes_read : t.writes ≡ s.writes
  writes_read = asked.sent.writes ∙ append-nil s.writes

  pub text_read : answers_of files (Read own) ≡ text
  text_read = same_shared (answers_of files (Read own)) text asks.gives

pub on_err : {A E P : Type 0} (r : Result A E) → P → OnErr r P
on_err (Ok x) p = tt
on_err (Err e) p = p

-- a sink that took pairs which the answers agree with, and no write, and then was spoiled, was broken off after them
pub broke_after : {S C R : Type 0} {took : S → S → List (C × R) → List C → Type 0} {spoils : S → S → Type 0} (same : R → R → Bool) (m : C → R) (s mid t : S) (pairs : List (C × R)) (writes : List C) → Agrees same m pairs → writes ≡ [] → took s mid pairs writes → spoils mid t → BrokeOff same m (BreaksOff took spoils s t)
broke_after {took = took} same m s mid t pairs writes agrees none taken spoiled = record {
  pairs = pairs;
  agrees = agrees;
  is_broken = record { prefix = pairs; rest = []; parts = sym (append-nil pairs); mid = mid; taken = subst (λ ws. took s mid pairs ws) none taken; spoiled = spoiled };
}

-- one that was spoiled as it was took nothing
pub broke_at_once : {S C R : Type 0} {took : S → S → List (C × R) → List C → Type 0} {spoils : S → S → Type 0} → ((s : S) → took s s [] []) → (same : R → R → Bool) (m : C → R) (s t : S) → spoils s t → BrokeOff same m (BreaksOff took spoils s t)
broke_at_once starts same m s t spoiled = broke_after same m s s t [] [] tt refl (starts s) spoiled
