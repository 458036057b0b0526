use Rattle.std.proofs.Common.{rules, arith, ◌≡◌, ℕ, ◌-◌, ◌<◌, List, ◌++◌, length, take, drop, sym, ap, ◌∙◌, subst, append_assoc, take-append-drop, length-append, Option, MatchResult}
use Rattle.std.proofs.lemmas.List.{take_rest}
use Rattle.std.proofs.Math.Seq.{take-append_seam}
use Rattle.std.specs.Io.KnownBytes.{Appends}
use Rattle.std.proofs.KnownBytes.{Appends-trans, Appends-kept}
use Rattle.calc_lines.specs.Written.{WritesBeginning}
use Rattle.calc_lines.proofs.Steps.{failed_as}
use Rattle.calc_lines.proofs.output.put.Goals as goal

-- what was written goes on by the first n of the rest
moves_prefix : (all done rest : List ℕ) (n : ℕ) → all ≡ done ++ rest → all ≡ (done ++ take n rest) ++ take (length rest - n) (drop n rest)
moves_prefix all done rest n e =
    e ∙ ap (λ l. done ++ l) (sym (take-append-drop n rest)) ∙ sym (append_assoc done (take n rest) (drop n rest)) ∙ ap (λ l. (done ++ take n rest) ++ l) (sym (take_rest rest n))

-- what was written is a beginning, and not all
beginning : (before after : Option (List ℕ)) (all done rest : List ℕ) → all ≡ done ++ rest → 0 < length rest → Appends before after done → WritesBeginning before after all
beginning before after all done rest e some h =
    (length done, omega (arith, ap length e, length-append done rest), subst (Appends before after) (sym (ap (take (length done)) e ∙ take-append_seam done rest)) h)

pub returns-in_err-count-clause-written : goal.returns-in_err-count-clause-written
returns-in_err-count-clause-written g c =
    let (done, split, appended) = c.loop-rest.invariant in
    let some : 0 < length c.loop-rest.rest.now = search rules in
    subst (λ r. MatchResult r (λ _. Appends (g.W.Write.contents c.args.writer.now) (g.W.Write.contents c.write_some.new.writer) c.args.bytes.now)
    (λ _. WritesBeginning (g.W.Write.contents c.args.writer.now) (g.W.Write.contents c.write_some.new.writer) c.args.bytes.now))
    (sym (failed_as c.from_residual.result _ c.from_residual.ensures.1))
    (beginning _ _ _ done _ split some (Appends-kept _ _ _ done appended c.in_err-count.ensures.bytes))

pub loop-rest-preserved : goal.loop-rest-preserved
loop-rest-preserved g c =
    let (done, split, appended) = c.loop-rest.invariant in
    let rest = c.loop-rest.rest.now in
    let n = c.in_ok-count.count in
    (done ++ take n rest, moves_prefix _ done rest n split, Appends-trans _ _ _ _ _ appended c.in_ok-count.ensures.bytes)
