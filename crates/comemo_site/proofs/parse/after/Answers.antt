use Rattle.std.proofs.Common.{◌∙◌, sym, ap, subst, false, true, drop}
use Rattle.std.specs.Str.{IsCharBoundary, trim_start}
use Rattle.std.proofs.lemmas.Str.Pattern.{starts_text}
use Rattle.comemo_site.proofs.parse.after.Goals as goal

pub returns-in_err-words : goal.returns-in_err-words
returns-in_err-words c = rw c.from_residual.ensures (sym (starts_text false c.args.mark.now c.args.line.now c.in_err-words.ensures.cases))

pub returns : goal.returns
returns c =
    let mark = c.args.mark.now in
    let line = c.args.line.now in
    let cut = c.in_ok-words.ensures.cases in (
      sym (starts_text true mark line (cut.0, cut.1, subst (IsCharBoundary line) (sym cut.1.0) cut.1.2)),
      c.trim_start.ensures.trim ∙ ap trim_start (cut.2 ∙ ap (λ n. drop n line) cut.1.0),
    )
