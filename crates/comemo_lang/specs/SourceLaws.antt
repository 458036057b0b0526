-- Equal questions for sources, and equal sources, are the same. A reader needn't trust it.
use Rattle.std.specs.Prelude.{◌≡◌}
use Rattle.std.proofs.Common.{IsTrue, rules}
use Rattle.std.specs.Cmp.Lexicographic.{same_text, nat_list_eq_equiv}
use Rattle.comemo.specs.Answers.{Respects}
use Rattle.comemo.proofs.Texts.{respects_same}
use Rattle.comemo_lang.specs.declared.project.Source.{Source}
use Rattle.comemo_lang.specs.declared.project.SourceOf.{SourceOf}
use Rattle.comemo_lang.specs.contracts.project.SourcePartialEq.TheImpl as source
use Rattle.comemo_lang.specs.contracts.project.SourceOfPartialEq.TheImpl as call

pub source_refl : (x : Source) → IsTrue (source.ghosts.eq x x)
source_refl x = search (rules, nat_list_eq_equiv)

pub source_same : (x y : Source) → IsTrue (source.ghosts.eq x y) → y ≡ x
source_same x y h = search (rules, same_text)

-- so any answers treat equal questions alike
pub sources_alike : (m : SourceOf → Source) → Respects call.ghosts.eq source.ghosts.eq m
sources_alike m = respects_same call.ghosts.eq source.ghosts.eq (λ x y h. search (rules, same_text)) source_refl m
