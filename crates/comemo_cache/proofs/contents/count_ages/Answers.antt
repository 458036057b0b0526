use Rattle.std.proofs.Common.{arith, rules, ◌∙◌, ap, min, ◌≡◌, ◌≤◌, count_by}
use Rattle.std.proofs.lemmas.List.Sums.{count_by-le-length}
use Rattle.comemo_cache.proofs.Tallying.{counted, room, first_left, is_at}
use Rattle.comemo_cache.proofs.contents.count_ages.Goals as goal

pub overflow_add-ages : goal.overflow_add-ages
overflow_add-ages g c =
    let age : c.min.result ≡ min c.in-Some.kept.now.age 7 = c.min.ensures ∙ ap (λ k. min k.age 7) c.kept.view_is in
    let seven : c.min.result ≤ 7 = omega (arith, age) in
    let e = first_left c.loop-kept.ages c.min.result c.min.result (count_by (is_at c.min.result) c.args.runs) c.in-Some.kept.now c.loop-kept.kept-iterator c.next.new.self c.in-Some.ensures.steps age (c.loop-kept.invariant.3 c.min.result (omega (arith, seven))) in
    omega (arith, room c.loop-kept.ages c.min.result (count_by (is_at c.min.result) c.next.new.self) (count_by (is_at c.min.result) c.args.runs) e, count_by-le-length (is_at c.min.result) c.args.runs, c.requires)

pub loop-kept-preserved : goal.loop-kept-preserved
loop-kept-preserved g c =
    let age : c.min.result ≡ min c.in-Some.kept.now.age 7 = c.min.ensures ∙ ap (λ k. min k.age 7) c.kept.view_is in
    let seven : c.min.result ≤ 7 = omega (arith, age) in (
      search rules,
      search rules,
      search rules,
      λ place l. counted c.loop-kept.ages c.min.result place (count_by (is_at place) c.next.new.self) (count_by (is_at place) c.args.runs) c.loop-kept.invariant.2 seven (first_left c.loop-kept.ages c.min.result place (count_by (is_at place) c.args.runs) c.in-Some.kept.now c.loop-kept.kept-iterator c.next.new.self c.in-Some.ensures.steps age (c.loop-kept.invariant.3 place l)),
    )
