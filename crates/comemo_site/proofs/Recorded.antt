-- What a recording has after a call within it, with which answers that stays, and the warnings among writes.
use Rattle.std.specs.Prelude.{⊤}
use Rattle.std.proofs.Common.{◌≡◌, ◌∙◌, Bool, true, false, ℕ, ◌+◌, ◌<◌, List, [], ◌∷◌, ◌++◌, length, take, get_or, map, IsTrue, Result, Ok, Err, IfOk, refl, sym, ap, subst}
use Rattle.std.proofs.lemmas.List.{take_more}
use Rattle.comemo.specs.Answers.{Respects, Agrees}
use Rattle.comemo.specs.Function.{Fits}
use Rattle.comemo.specs.FunctionMut.{Lent, Began, Goes, TellsWrites}
use Rattle.comemo.specs.Multi.{second_call, seconds}
use Rattle.comemo.specs.MultiLaws.{seconds-append}
use Rattle.comemo.specs.Writing.{Done}
use Rattle.comemo.specs.declared.MultiAnswer.{MultiAnswer}
use Rattle.comemo.specs.declared.MultiCall.{MultiCall}
use Rattle.comemo.specs.declared.pending.Fault.{Fault}
use Rattle.comemo_site.specs.Publishing.{Outlives, SameAt, answers_of}
use Rattle.comemo_site.specs.Pages.{IsPrinted}
use Rattle.comemo_site.specs.declared.log.Warning.{Warning}
use Rattle.comemo_site.specs.declared.site.SiteAnswer.{SiteAnswer}
use Rattle.comemo_site.specs.declared.site.SiteCall.{SiteCall}

-- a call within a recording of its own, which was empty and complete and isn't late afterwards: the reads agree with the
-- previous value, and what was established holds of all answers that agree with them, and of the recorded writes
pub recorded_now : {V C R X : Type 0} {eq : C → C → Bool} {same : R → R → Bool} {wrote : V → C → V → Type 0} {w : C → Bool} {touches : C → C → Bool} {answers : V → C → R} → {s t : Lent V C R} {P : X → (C → R) → List C → Type 0} (r : Result X Fault) → s.recording.now.complete ≡ true → s.recording.now.writes ≡ [] → s.recording.now.pairs ≡ [] → TellsWrites (Goes (Done wrote w touches same answers) eq touches same answers) (Fits eq same) s t r P → (t.recording.now.complete ≡ true → t.recording.now.late ≡ false) → IfOk r (λ x. Agrees same (answers s.value.now) t.recording.now.pairs × ((m : C → R) → Respects eq same m → Agrees same m t.recording.now.pairs → P x m t.recording.now.writes))
recorded_now {same = same} {wrote} {w} {touches} {answers} {s} {t} {P} (Ok x) complete none nothing a early =
    let is = a.complete ∙ complete in
    let first : Began (Done wrote w touches same answers) same answers s.value.now s = record { done = subst (λ W. Done wrote w touches same answers s.value.now s.value.now W) (sym none) refl; agrees = λ l. subst (λ ps. Agrees same (answers s.value.now) ps) (sym nothing) tt } in
    let began = a.goes.began is s.value.now first in (
      began.agrees (early is),
      λ m respects agrees.
          let told = a.told m (record { complete = is; early = early is; respects = respects; agrees = agrees }) in
          subst (λ W. P x m W) (sym (told.1 ∙ ap (λ U. U ++ told.0) none)) told.2,
    )
recorded_now (Err f) complete none nothing a early = tt

-- answers that are the same at the reads agree with these too
agrees_same : (same : MultiAnswer SiteAnswer ⊤ → MultiAnswer SiteAnswer ⊤ → Bool) (m n : SiteCall → SiteAnswer) (reads : List (MultiCall SiteCall Warning × MultiAnswer SiteAnswer ⊤)) → SameAt m n reads → Agrees same (answers_of m) reads → Agrees same (answers_of n) reads
agrees_same same m n [] alike h = tt
agrees_same same m n (read ∷ reads) alike h =
    (subst (λ answer. IsTrue (same answer read.1)) (sym alike.0) h.0, agrees_same same m n reads alike.1 h.1)

-- what such a call of a page printed outlives the changes at all but its reads
pub recorded_page : {V : Type 0} {eq : MultiCall SiteCall Warning → MultiCall SiteCall Warning → Bool} {same : MultiAnswer SiteAnswer ⊤ → MultiAnswer SiteAnswer ⊤ → Bool} {wrote : V → MultiCall SiteCall Warning → V → Type 0} {w : MultiCall SiteCall Warning → Bool} {touches : MultiCall SiteCall Warning → MultiCall SiteCall Warning → Bool} {answers : V → MultiCall SiteCall Warning → MultiAnswer SiteAnswer ⊤} → ((n : SiteCall → SiteAnswer) → Respects eq same (answers_of n)) → {s t : Lent V (MultiCall SiteCall Warning) (MultiAnswer SiteAnswer ⊤)} (html : (SiteCall → SiteAnswer) → List ℕ) (warnings : (SiteCall → SiteAnswer) → List Warning) (site : SiteCall → SiteAnswer) → answers s.value.now ≡ answers_of site → (x : List ℕ) → s.recording.now.complete ≡ true → s.recording.now.writes ≡ [] → s.recording.now.pairs ≡ [] → TellsWrites (Goes (Done wrote w touches same answers) eq touches same answers) (Fits eq same) s t (Ok x) (IsPrinted html warnings) → (t.recording.now.complete ≡ true → t.recording.now.late ≡ false) → Outlives t.recording.now.pairs site (λ n. (x ≡ html n) × (t.recording.now.writes ≡ map second_call (warnings n)))
recorded_page {same = same} respects {s} {t} html warnings site is x complete none nothing a early =
    let all = recorded_now (Ok x) complete none nothing a early in
    let now : Agrees same (answers_of site) t.recording.now.pairs = subst (λ m. Agrees same m t.recording.now.pairs) is all.0 in (
      let printed = all.1 (answers_of site) (respects site) now in (printed.1 site (λ call. refl), printed.0 site (λ call. refl)),
      λ n alike.
          let still : Agrees same (answers_of n) t.recording.now.pairs = agrees_same same site n t.recording.now.pairs alike now in
          let printed = all.1 (answers_of n) (respects n) still in (printed.1 n (λ call. refl), printed.0 n (λ call. refl)),
    )

pub seconds_of : (X : Type 0) {Y : Type 0} (xs : List Y) → seconds {X = X} {Y = Y} (map second_call xs) ≡ xs
seconds_of X [] = refl
seconds_of X (x ∷ xs) = ap (λ l. x ∷ l) (seconds_of X xs)

module _ {X Y : Type 0} where
  -- the step of a loop that takes the calls of the second part
  pub seconds_more : (calls : List (MultiCall X Y)) (i : ℕ) (call : MultiCall X Y) → i < length calls → get_or calls i call ≡ call → seconds (take (i + 1) calls) ≡ seconds (take i calls) ++ seconds (call ∷ [])
  seconds_more calls i call lt is = ap seconds (take_more calls i call lt) ∙ seconds-append (take i calls) (get_or calls i call ∷ []) ∙ ap (λ c. seconds (take i calls) ++ seconds (c ∷ [])) is
