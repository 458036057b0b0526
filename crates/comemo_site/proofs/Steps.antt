-- Steps in turn that read a site, write a log and give a text.
use Rattle.std.specs.Prelude.{⊤}
use Rattle.std.proofs.Common.{◌∙◌, ℕ, Bool, List, ◌++◌, Ok, refl, sym, ap, append_assoc}
use Rattle.std.proofs.lemmas.List.{map-append}
use Rattle.comemo.specs.FunctionMut.{Lent, Goes, TellsWrites}
use Rattle.comemo.specs.Multi.{second_call}
use Rattle.comemo.specs.Recording.{Recording}
use Rattle.comemo.specs.declared.MultiCall.{MultiCall}
use Rattle.comemo.specs.declared.MultiAnswer.{MultiAnswer}
use Rattle.comemo.proofs.RecordersMut.{goes_both}
use Rattle.comemo_site.specs.Pages.{IsPrinted, OnSite}
use Rattle.comemo_site.specs.declared.log.Warning.{Warning}
use Rattle.comemo_site.specs.declared.site.SiteCall.{SiteCall}
use Rattle.comemo_site.specs.declared.site.SiteAnswer.{SiteAnswer}

-- the text and the writes are right, where both are for each site
pub printed : {right written : (SiteCall → SiteAnswer) → Type 0} (m : MultiCall SiteCall Warning → MultiAnswer SiteAnswer ⊤) → OnSite m (λ site. right site × written site) → OnSite m written × OnSite m right
printed m both = (λ site p. (both site p).1, λ site p. (both site p).0)

module _ {V : Type 0} {did : V → V → List (MultiCall SiteCall Warning) → Type 0} {eq touches : MultiCall SiteCall Warning → MultiCall SiteCall Warning → Bool} {same : MultiAnswer SiteAnswer ⊤ → MultiAnswer SiteAnswer ⊤ → Bool} {answers : V → MultiCall SiteCall Warning → MultiAnswer SiteAnswer ⊤} {fits : Recording (MultiCall SiteCall Warning) (MultiAnswer SiteAnswer ⊤) → (MultiCall SiteCall Warning → MultiAnswer SiteAnswer ⊤) → Type 0} {s t u : Lent V (MultiCall SiteCall Warning) (MultiAnswer SiteAnswer ⊤)} where
  -- the texts of two steps are joined, and so are their warnings
  pub printed_both : {x y : List ℕ} {a b : (SiteCall → SiteAnswer) → List ℕ} (U W : (SiteCall → SiteAnswer) → List Warning) → TellsWrites (Goes did eq touches same answers) fits s t (Ok x) (IsPrinted a U) → TellsWrites (Goes did eq touches same answers) fits t u (Ok y) (IsPrinted b W) → TellsWrites (Goes did eq touches same answers) fits s u (Ok (x ++ y)) (IsPrinted (λ site. a site ++ b site) (λ site. U site ++ W site))
  printed_both U W one two = record {
    goes = goes_both one.goes two.goes;
    before = λ m f. one.before m (two.before m f);
    told = λ m f.
        let k = one.told m (two.before m f) in
        let l = two.told m f in (
          k.0 ++ l.0,
          l.1 ∙ (ap (λ ws. ws ++ l.0) k.1 ∙ append_assoc s.recording.now.writes k.0 l.0),
          (
            λ site p. rw (k.2.0 site p, l.2.0 site p) (sym (map-append second_call (U site) (W site))),
            λ site p. rw (k.2.1 site p, l.2.1 site p) refl,
          ),
        );
    complete = two.complete ∙ one.complete;
    fault = tt;
  }
