use Rattle.std.proofs.Common.{◌≡◌, ◌%◌, ◌^◌, arith, refl, sym, subst}
use Rattle.std.proofs.lemmas.Bool.{eqb-true}
use Rattle.comemo_theorems.specs.Fibonacci.{fib}
use Rattle.comemo_theorems.proofs.Before.{fib_from_before}
use Rattle.comemo_theorems.proofs.Nested.{all_agree, both_happened, hit_happened, ended_happened}
use Rattle.comemo_theorems.proofs.fibonacci.+counting.Goals as goal

pub from_before-returns-in_err-other-clause-history : goal.from_before-returns-in_err-other-clause-history
from_before-returns-in_err-other-clause-history t c =
    let a = c.numbered.ensures.history in
    let b = c.numbered-2.ensures.history in
    both_happened _ _ _ _ (a.0, a.1, a.2) (b.0, b.1, b.2)

pub from_before-returns-clause-number : goal.from_before-returns-clause-number
from_before-returns-clause-number t c =
    let step = fib_from_before c.args.place (omega (arith, c.if-place-lt2.false)) in
    omega (arith, step, c.in_ok-one.ensures.number, c.in_ok-other.ensures.number)

pub from_before-returns-clause-history : goal.from_before-returns-clause-history
from_before-returns-clause-history t c =
    let a = c.numbered.ensures.history in
    let b = c.numbered-2.ensures.history in
    both_happened _ _ _ _ (a.0, a.1, a.2) (b.0, b.1, b.2)

pub numbered-returns-in-Ok-Hit-clause-history : goal.numbered-returns-in-Ok-Hit-clause-history
numbered-returns-in-Ok-Hit-clause-history t c =
    let hit = rw (c.in-Ok-Hit.is, c.in-Ok-Hit.field-0-is) at c.begin.ensures.hit in
    hit_happened _ _ _ _ _ refl hit.0 hit.1

pub numbered-returns-in-Ok-Run-clause-history : goal.numbered-returns-in-Ok-Run-clause-history
numbered-returns-in-Ok-Run-clause-history t c =
    let run = rw (c.in-Ok-Run.is, c.in-Ok-Run.field-0-is) at c.begin.ensures.run in
    ended_happened _ _ _ _ _ _ _ _ _ _ _ _ run.0 run.3 c.from_before-ran.ensures.history c.end.ensures.finished c.end.ensures.err (λ output is.
    let number : output ≡ fib c.args.place % 2 ^ 64 = rw is at c.from_before-ran.ensures.number in
    let own : c.in-Ok-Run.pending.key ≡ c.args.place = sym (eqb-true c.args.place c.in-Ok-Run.pending.key run.0.has_key) in
    record {
      alike = λ x y h. refl;
      has_key = run.0.has_key;
      agrees = all_agree _ (λ x y. refl) _ c.from_before-ran.new.recording.pairs;
      stands = λ m r a. (tt, subst (λ n. output ≡ fib n % 2 ^ 64) (sym own) number);
    })
