-- A page that an index of reads does not reach stays published, if its title does.
use Rattle.std.specs.Prelude.{◌≡◌, ℕ, Bool, true, false, List, IsTrue, refl}
use Rattle.std.proofs.Common.{sym, ap, subst}
use Rattle.std.specs.List.{list_any}
use Rattle.comemo.specs.Multi.{first_call, first_answer}
use Rattle.comemo.specs.Sequence.{held}
use Rattle.comemo.specs.declared.MultiCall.{MultiCall}
use Rattle.comemo.specs.declared.MultiCall.TheVariants.{A, B}
use Rattle.comemo_dependents.specs.Dependents.{KeepsAnswers}
use Rattle.comemo_dependents.specs.DependentLaws.{of_each}
use Rattle.comemo_site.specs.Publishing.{IsPublished, StaysPublished, answers_of}
use Rattle.comemo_site.specs.SiteLaws.{answer_refl, answer_same}
use Rattle.comemo_site.specs.contracts.site.SiteAnswerPartialEq.TheImpl as answer
use Rattle.comemo_site.specs.declared.log.Warning.{Warning}
use Rattle.comemo_site.specs.declared.publish.Published.{Published}
use Rattle.comemo_site.specs.declared.site.SiteAnswer.{SiteAnswer}
use Rattle.comemo_site.specs.declared.site.SiteCall.{SiteCall}
use Rattle.comemo_site.specs.declared.site.SiteCall.TheVariants.{TitleOf}

module _ (m n : SiteCall → SiteAnswer) where
  -- both sites answer the call alike
  abbrev is_same : MultiCall SiteCall Warning → Bool
  is_same (A call) = answer.ghosts.eq (m call) (n call)
  is_same (B warning) = true

  same_answer : (call : MultiCall SiteCall Warning) → is_same call ≡ true → answers_of n call ≡ answers_of m call
  same_answer (A call) h = ap first_answer (answer_same (m call) (n call) h)
  same_answer (B warning) h = refl

module _ (same_call : MultiCall SiteCall Warning → MultiCall SiteCall Warning → Bool) (itself : (call : MultiCall SiteCall Warning) → same_call call call ≡ true) where
  -- the site changed its answers to these calls alone; an index of the reads doesn't reach the page, and its title stayed
  pub stays_unreached : (m n : SiteCall → SiteAnswer) (changed : List (MultiCall SiteCall Warning)) → ((call : SiteCall) → list_any (same_call (first_call call)) changed ≡ false → n call ≡ m call) → (limit : ℕ) (name : List ℕ) (page : Published) → StaysPublished m limit name page → KeepsAnswers same_call changed (held same_call page.reads.pairs) → n (TitleOf name) ≡ m (TitleOf name) → IsPublished n limit name page
  stays_unreached m n changed differs limit name page stays unreached title =
      stays n title (of_each same_call itself (λ call. answers_of n call ≡ answers_of m call) page.reads.pairs (λ call h. same_answer m n call (unreached (is_same m n) kept call h)))
    where
      kept : (call : MultiCall SiteCall Warning) → list_any (same_call call) changed ≡ false → IsTrue (is_same m n call)
      kept (A call) h = subst (λ x. IsTrue (answer.ghosts.eq (m call) x)) (sym (differs call h)) (answer_refl (m call))
      kept (B warning) h = refl
