use Rattle.std.proofs.Common.{◌∙◌, ap, sym, ◌||◌, ◌==◌, bytes_eq, codes, lit<, rules, tests}
use Rattle.std.specs.List.{list_any, slice_split}
use Rattle.std.proofs.lemmas.Iterator.Search.{any_from_yields_List}
use Rattle.std.proofs.lemmas.Iterator.Splits.{YieldsList-from_str_split}
use Rattle.comemo_site.specs.Addresses.{begins}
use Rattle.comemo_site.proofs.address.leads_out.Goals as goal

pub returns-else-starts_with : goal.returns-else-starts_with
returns-else-starts_with c =
    let name = c.args.name.now in
    let up = any_from_yields_List (λ part. bytes_eq part (codes "..")) _ _ c.any.result c.any.ensures.ran (YieldsList-from_str_split 47 name (lit< tt) c.split.ensures.text c.split.ensures.has_more c.split.ensures.pattern) (λ x b q k. search (rules, tests)) in
    up ∙ ap (λ is_absolute. is_absolute || list_any (λ part. bytes_eq part (codes "..")) (slice_split (λ byte. byte == 47) name)) (sym c.if-starts_with.false ∙ c.starts_with.ensures.value ∙ ap (begins (codes "/")) c.as_bytes.ensures.value)
