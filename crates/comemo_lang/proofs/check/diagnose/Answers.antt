use Rattle.std.proofs.Common.{◌≡◌, ◌∙◌, ◌++◌, ap}
use Rattle.std.specs.Prelude.{bytes_eq}
use Rattle.std.specs.HashSet.{contains}
use Rattle.std.specs.List.{flat_map}
use Rattle.comemo_lang.specs.Checking.{diagnosed, known, missing, unknown_in}
use Rattle.comemo_lang.proofs.check.diagnose.Goals as goal

pub returns : goal.returns
returns c =
    let declarations = c.args.declarations.now in
    let imports = c.args.imports.now in
    let same : contains bytes_eq c.in_ok-known.known ≡ known declarations imports = λ i name. c.in_ok-known.ensures name i in
    let first = c.in_ok-push_missing.ensures ∙ ap (λ items. items ++ flat_map missing imports) c.new-diagnostics.ensures.items in
    let all : c.push_unknown.new.diagnostics.items ≡ diagnosed declarations imports =
    c.in_ok-push_unknown.ensures ∙ ap (λ is_known. c.push_missing.new.diagnostics.items ++ flat_map (unknown_in is_known) declarations) same
    ∙ ap (λ items. items ++ flat_map (unknown_in (known declarations imports)) declarations) first in
    rw all at c.new.ensures
