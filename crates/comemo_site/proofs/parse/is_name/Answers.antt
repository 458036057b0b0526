use Rattle.std.proofs.Common.{◌∙◌, ap, not, ◌&&◌, rules, tests}
use Rattle.std.specs.Char.{is_whitespace}
use Rattle.std.specs.List.{list_any}
use Rattle.std.specs.Str.{chars}
use Rattle.std.proofs.lemmas.Iterator.{YieldsList-from_chars}
use Rattle.std.proofs.lemmas.Iterator.Search.{any_from_yields_List}
use Rattle.comemo_site.proofs.parse.is_name.Goals as goal

pub returns-then-not-is_empty : goal.returns-then-not-is_empty
returns-then-not-is_empty c =
    let text = c.args.text.now in
    let blank = any_from_yields_List is_whitespace _ _ c.any.result c.any.ensures.ran (YieldsList-from_chars text c.utf8.text (cc)) (λ x b q k. search (rules, tests)) in
    ap not blank ∙ ap (λ empty. not empty && not (list_any is_whitespace (chars text))) c.if-not-is_empty.ensures
