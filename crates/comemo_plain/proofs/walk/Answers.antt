use Rattle.std.proofs.Common.{rules, ◌≡◌, ◌∙◌, ◌<◌, length, get_or, sym, ap, inl, arith}
use Rattle.comemo_base.specs.Tree.{Stored}
use Rattle.comemo_base.proofs.Under.{under-none, none-from_nothing}
use Rattle.comemo_base.proofs.Paths.{get_or_same}
use Rattle.comemo_base.proofs.Steps.{deeper, Exists-at, Misses-at, left_more, distinct_more, Walked-more, not_Exists, not_Misses, stem, apart, outside-nothing}
use Rattle.comemo_plain.proofs.walk.Goals as goal

pub walk-init : goal.walk-init
walk-init g c = record {
  bound = c.in-Some.ensures.some.0;
  walked = λ d. rw c.new-path.ensures.items (record { under = c.in-Some.ensures.some.1 d; deep = omega arith; prefix = tt; among = tt });
  left = rw c.new-path.ensures.items (sym (outside-nothing g.C.PartialEq.eq c.args.sequence.now.pairs));
  distinct = rw c.new-path.ensures.items c.reveal_distinct_calls.ensures.distinct;
}

pub returns-in_default-clause-ok : goal.returns-in_default-clause-ok
returns-in_default-clause-ok g c =
    let nothing = under-none g.K.PartialEq.eq c.args.entries.now c.args.key.now c.in_default.ensures.none in
    (none-from_nothing _ nothing, none-from_nothing _ nothing)

pub returns-in_default-clause-stem : goal.returns-in_default-clause-stem
returns-in_default-clause-stem g c =
    inl (under-none g.K.PartialEq.eq c.args.entries.now c.args.key.now c.in_default.ensures.none, c.new-path.ensures.items)

pub returns-in_default-clause-left : goal.returns-in_default-clause-left
returns-in_default-clause-left g c = rw c.new-path.ensures.items (sym (outside-nothing g.C.PartialEq.eq c.args.sequence.now.pairs))

pub returns-then-depth-stored-clause-ok : goal.returns-then-depth-stored-clause-ok
returns-then-depth-stored-clause-ok g c = tt

pub returns-then-depth-stored-clause-stem : goal.returns-then-depth-stored-clause-stem
returns-then-depth-stored-clause-stem g c = tt

pub returns-then-depth-stored-clause-apart : goal.returns-then-depth-stored-clause-apart
returns-then-depth-stored-clause-apart g c = tt

pub returns-then-depth-stored-clause-reason : goal.returns-then-depth-stored-clause-reason
returns-then-depth-stored-clause-reason g c =
    let i = c.walk.invariant in
    let e = c.index-entries-at.result in
    let own : c.as_slice-stored.result.now ≡ e.path = c.as_slice-stored.ensures.value ∙ ap (λ (x : Stored _ _ _ _). x.path) c.entry.view_is in
    let len : c.len-depth.result ≡ length c.walk.path.items = omega (arith, c.len-depth.ensures, c.walk.path.ok.0) in
    Exists-at g.met.C.Eq.laws g.met.R.Eq.laws g.met.K.Eq.laws c.args.entries.now c.requires.tree c.args.key.now c.args.sequence.now.pairs c.walk.at c.len-depth.result e c.walk.path.items c.as_slice-stored.result.now i.bound c.index-entries-at.is i.walked own len c.if-depth-stored.true

pub returns-in_default-extract-clause-reason : goal.returns-in_default-extract-clause-reason
returns-in_default-extract-clause-reason g c =
    let i = c.walk.invariant in
    let e = c.index-entries-at.result in
    let ps = c.as_slice-stored.result.now in
    let own : ps ≡ e.path = c.as_slice-stored.ensures.value ∙ ap (λ (x : Stored _ _ _ _). x.path) c.entry.view_is in
    let len : c.len-depth.result ≡ length c.walk.path.items = omega (arith, c.len-depth.ensures, c.walk.path.ok.0) in
    let deep : c.len-depth.result < length ps = search rules in
    let p = get_or ps c.len-depth.result c.index-stored-depth.result in
    Misses-at g.met.C.Eq.laws g.met.R.Eq.laws g.met.K.Eq.laws c.args.entries.now c.requires.tree c.args.key.now c.args.sequence.now.pairs c.walk.at c.len-depth.result e c.walk.path.items ps i.bound c.index-entries-at.is i.walked own len deep p (get_or_same ps c.len-depth.result c.index-stored-depth.result p deep) c.walk.sequence.pairs i.left (sym c.in_default-extract.is ∙ c.extract.ensures.answer)

pub walk-preserved : goal.walk-preserved
walk-preserved g c =
    let i = c.walk.invariant in
    let e = c.index-entries-at.result in
    let es = c.args.entries.now in
    let s = c.args.sequence.now.pairs in
    let n = c.len-depth.result in
    let asked = c.walk.path.items in
    let ps = c.as_slice-stored.result.now in
    let own : ps ≡ e.path = c.as_slice-stored.ensures.value ∙ ap (λ (x : Stored _ _ _ _). x.path) c.entry.view_is in
    let len : n ≡ length asked = omega (arith, c.len-depth.ensures, c.walk.path.ok.0) in
    let deep : n < length ps = deeper g.met.C.Eq.laws g.met.R.Eq.laws g.met.K.Eq.laws es c.requires.tree c.args.key.now s c.walk.at n e asked ps i.bound c.index-entries-at.is i.walked own len c.if-depth-stored.false in
    let p = get_or ps n c.index-stored-depth.result in
    let is : p ≡ get_or ps n p = get_or_same ps n c.index-stored-depth.result p deep in
    let some = c.in-Some-extract.ensures.answer in
    let alike = c.requires.clones_equal _ _ c.in_ok-copy.ensures.cases in
    record {
      bound = c.in-Some-next.ensures.some.0;
      walked = λ d. rw c.in_ok-push.ensures.items (Walked-more g.met.C.Eq.laws g.met.R.Eq.laws g.met.K.Eq.laws es c.requires.tree c.args.key.now s c.walk.at n e asked ps i.bound c.index-entries-at.is i.walked own len deep p is c.walk.sequence.pairs i.left c.in-Some-extract.answer c.in_ok-copy.copy some alike c.in-Some-next.next c.in-Some-next.ensures.some.0 c.in-Some-next.ensures.some.1 d);
      left = rw c.in_ok-push.ensures.items (c.extract.ensures.pairs ∙ left_more g.met.C.Eq.laws g.met.R.Eq.laws g.met.K.Eq.laws es c.requires.tree c.args.key.now s c.walk.at n e asked ps i.bound c.index-entries-at.is i.walked own len deep p is c.walk.sequence.pairs i.left c.in-Some-extract.answer c.in_ok-copy.copy some alike c.reveal_distinct_calls.ensures.distinct);
      distinct = rw (c.in_ok-push.ensures.items, c.extract.ensures.pairs) (distinct_more g.met.C.Eq.laws g.met.R.Eq.laws g.met.K.Eq.laws es c.requires.tree c.args.key.now s c.walk.at n e asked ps i.bound c.index-entries-at.is i.walked own len deep p is c.walk.sequence.pairs i.left c.in-Some-extract.answer c.in_ok-copy.copy some alike i.distinct);
    }

pub returns-in-None-clause-ok : goal.returns-in-None-clause-ok
returns-in-None-clause-ok g c =
    let i = c.walk.invariant in
    let e = c.index-entries-at.result in
    let es = c.args.entries.now in
    let s = c.args.sequence.now.pairs in
    let n = c.len-depth.result in
    let asked = c.walk.path.items in
    let ps = c.as_slice-stored.result.now in
    let own : ps ≡ e.path = c.as_slice-stored.ensures.value ∙ ap (λ (x : Stored _ _ _ _). x.path) c.entry.view_is in
    let len : n ≡ length asked = omega (arith, c.len-depth.ensures, c.walk.path.ok.0) in
    let deep : n < length ps = deeper g.met.C.Eq.laws g.met.R.Eq.laws g.met.K.Eq.laws es c.requires.tree c.args.key.now s c.walk.at n e asked ps i.bound c.index-entries-at.is i.walked own len c.if-depth-stored.false in
    let p = get_or ps n c.index-stored-depth.result in
    let is : p ≡ get_or ps n p = get_or_same ps n c.index-stored-depth.result p deep in
    let some = c.in-Some-extract.ensures.answer in
    let alike = c.requires.clones_equal _ _ c.in_ok-copy.ensures.cases in
    (not_Exists g.met.C.Eq.laws g.met.R.Eq.laws g.met.K.Eq.laws es c.requires.tree c.args.key.now s c.walk.at n e asked ps i.bound c.index-entries-at.is i.walked own len deep p is c.walk.sequence.pairs i.left c.in-Some-extract.answer c.in_ok-copy.copy some alike c.in-None.ensures.none, not_Misses g.met.C.Eq.laws g.met.R.Eq.laws g.met.K.Eq.laws es c.requires.tree c.args.key.now s c.walk.at n e asked ps i.bound c.index-entries-at.is i.walked own len deep p is c.walk.sequence.pairs i.left c.in-Some-extract.answer c.in_ok-copy.copy some alike c.in-None.ensures.none)

pub returns-in-None-clause-stem : goal.returns-in-None-clause-stem
returns-in-None-clause-stem g c =
    let i = c.walk.invariant in
    let e = c.index-entries-at.result in
    let es = c.args.entries.now in
    let s = c.args.sequence.now.pairs in
    let n = c.len-depth.result in
    let asked = c.walk.path.items in
    let ps = c.as_slice-stored.result.now in
    let own : ps ≡ e.path = c.as_slice-stored.ensures.value ∙ ap (λ (x : Stored _ _ _ _). x.path) c.entry.view_is in
    let len : n ≡ length asked = omega (arith, c.len-depth.ensures, c.walk.path.ok.0) in
    let deep : n < length ps = deeper g.met.C.Eq.laws g.met.R.Eq.laws g.met.K.Eq.laws es c.requires.tree c.args.key.now s c.walk.at n e asked ps i.bound c.index-entries-at.is i.walked own len c.if-depth-stored.false in
    let p = get_or ps n c.index-stored-depth.result in
    let is : p ≡ get_or ps n p = get_or_same ps n c.index-stored-depth.result p deep in
    let some = c.in-Some-extract.ensures.answer in
    let alike = c.requires.clones_equal _ _ c.in_ok-copy.ensures.cases in
    rw c.in_ok-push.ensures.items (stem g.met.C.Eq.laws g.met.R.Eq.laws g.met.K.Eq.laws es c.requires.tree c.args.key.now s c.walk.at n e asked ps i.bound c.index-entries-at.is i.walked own len deep p is c.walk.sequence.pairs i.left c.in-Some-extract.answer c.in_ok-copy.copy some alike c.in-None.ensures.none)

pub returns-in-None-clause-left : goal.returns-in-None-clause-left
returns-in-None-clause-left g c =
    let i = c.walk.invariant in
    let e = c.index-entries-at.result in
    let es = c.args.entries.now in
    let s = c.args.sequence.now.pairs in
    let n = c.len-depth.result in
    let asked = c.walk.path.items in
    let ps = c.as_slice-stored.result.now in
    let own : ps ≡ e.path = c.as_slice-stored.ensures.value ∙ ap (λ (x : Stored _ _ _ _). x.path) c.entry.view_is in
    let len : n ≡ length asked = omega (arith, c.len-depth.ensures, c.walk.path.ok.0) in
    let deep : n < length ps = deeper g.met.C.Eq.laws g.met.R.Eq.laws g.met.K.Eq.laws es c.requires.tree c.args.key.now s c.walk.at n e asked ps i.bound c.index-entries-at.is i.walked own len c.if-depth-stored.false in
    let p = get_or ps n c.index-stored-depth.result in
    let is : p ≡ get_or ps n p = get_or_same ps n c.index-stored-depth.result p deep in
    let some = c.in-Some-extract.ensures.answer in
    let alike = c.requires.clones_equal _ _ c.in_ok-copy.ensures.cases in
    rw c.in_ok-push.ensures.items (c.extract.ensures.pairs ∙ left_more g.met.C.Eq.laws g.met.R.Eq.laws g.met.K.Eq.laws es c.requires.tree c.args.key.now s c.walk.at n e asked ps i.bound c.index-entries-at.is i.walked own len deep p is c.walk.sequence.pairs i.left c.in-Some-extract.answer c.in_ok-copy.copy some alike c.reveal_distinct_calls.ensures.distinct)

pub returns-in-None-clause-distinct : goal.returns-in-None-clause-distinct
returns-in-None-clause-distinct g c =
    let i = c.walk.invariant in
    let e = c.index-entries-at.result in
    let es = c.args.entries.now in
    let s = c.args.sequence.now.pairs in
    let n = c.len-depth.result in
    let asked = c.walk.path.items in
    let ps = c.as_slice-stored.result.now in
    let own : ps ≡ e.path = c.as_slice-stored.ensures.value ∙ ap (λ (x : Stored _ _ _ _). x.path) c.entry.view_is in
    let len : n ≡ length asked = omega (arith, c.len-depth.ensures, c.walk.path.ok.0) in
    let deep : n < length ps = deeper g.met.C.Eq.laws g.met.R.Eq.laws g.met.K.Eq.laws es c.requires.tree c.args.key.now s c.walk.at n e asked ps i.bound c.index-entries-at.is i.walked own len c.if-depth-stored.false in
    let p = get_or ps n c.index-stored-depth.result in
    let is : p ≡ get_or ps n p = get_or_same ps n c.index-stored-depth.result p deep in
    let some = c.in-Some-extract.ensures.answer in
    let alike = c.requires.clones_equal _ _ c.in_ok-copy.ensures.cases in
    rw (c.in_ok-push.ensures.items, c.extract.ensures.pairs) (distinct_more g.met.C.Eq.laws g.met.R.Eq.laws g.met.K.Eq.laws es c.requires.tree c.args.key.now s c.walk.at n e asked ps i.bound c.index-entries-at.is i.walked own len deep p is c.walk.sequence.pairs i.left c.in-Some-extract.answer c.in_ok-copy.copy some alike i.distinct)

pub returns-in-None-clause-apart : goal.returns-in-None-clause-apart
returns-in-None-clause-apart g c =
    let i = c.walk.invariant in
    let e = c.index-entries-at.result in
    let es = c.args.entries.now in
    let s = c.args.sequence.now.pairs in
    let n = c.len-depth.result in
    let asked = c.walk.path.items in
    let ps = c.as_slice-stored.result.now in
    let own : ps ≡ e.path = c.as_slice-stored.ensures.value ∙ ap (λ (x : Stored _ _ _ _). x.path) c.entry.view_is in
    let len : n ≡ length asked = omega (arith, c.len-depth.ensures, c.walk.path.ok.0) in
    let deep : n < length ps = deeper g.met.C.Eq.laws g.met.R.Eq.laws g.met.K.Eq.laws es c.requires.tree c.args.key.now s c.walk.at n e asked ps i.bound c.index-entries-at.is i.walked own len c.if-depth-stored.false in
    let p = get_or ps n c.index-stored-depth.result in
    let is : p ≡ get_or ps n p = get_or_same ps n c.index-stored-depth.result p deep in
    let some = c.in-Some-extract.ensures.answer in
    let alike = c.requires.clones_equal _ _ c.in_ok-copy.ensures.cases in
    rw c.in_ok-push.ensures.items (apart g.met.C.Eq.laws g.met.R.Eq.laws g.met.K.Eq.laws es c.requires.tree c.args.key.now s c.walk.at n e asked ps i.bound c.index-entries-at.is i.walked own len deep p is c.walk.sequence.pairs i.left c.in-Some-extract.answer c.in_ok-copy.copy some alike c.in-None.ensures.none)
