use Rattle.std.proofs.Common.{rules, ◌≡◌, ◌∙◌, Bor, sym, refl, true, false, IsTrue}
use Rattle.std.proofs.lemmas.List.Elements.{All-push}
use Rattle.std.proofs.lemmas.Map.Iter.{hash_map_turn, iter_turn, iter_end}
use Rattle.std.specs.Map.Iter.{deref_pair}
use Rattle.comemo_tree.specs.Nodes.{contents}
use Rattle.comemo_tree.specs.Reach.{AsksUnder, marked}
use Rattle.comemo_tree.specs.declared.tree.Start.{Start}
use Rattle.comemo_tree.proofs.Pruned.{IsRooted-from_forest}
use Rattle.comemo_tree.proofs.Reaching.{HasParents-from_rooted, AreOf-itself, asks_marked, pushed_more, skipped_more, all_pushed}
use Rattle.comemo_tree.proofs.reach.keys_reached.Goals as goal

pub mark_firsts-requires : goal.mark_firsts-requires
mark_firsts-requires g c = HasParents-from_rooted c.args.inner.now (IsRooted-from_forest c.requires c.args.leaves.now (AreOf-itself c.args.leaves.now))

pub keys-preserved-in-Continue-branch-2 : goal.keys-preserved-in-Continue-branch-2
keys-preserved-in-Continue-branch-2 g c =
    let marks = c.in_ok-marks.marks.items in
    let gives = c.into_iter-key-iterator.ensures.into_iter_gives in
    let item : Bor g.row.K.Denot × Bor Start = (c.in-Some.key, c.in-Some.start) in
    let mark : marked marks c.in-Some.start.now.first ≡ true = search rules in
    let turn = hash_map_turn deref_pair c.keys.yielded c.into_iter-key-iterator.result c.keys.key-iterator c.next.new.self c.next.result item c.keys.yielded_by c.in-Some.is c.next.ensures.steps g.met.K.Eq.laws c.args.starts.now gives.0 gives.4 in
    let place = iter_turn deref_pair c.args.starts.now.entries c.keys.yielded c.into_iter-key-iterator.result c.keys.key-iterator c.next.new.self c.next.result gives.0 c.keys.yielded_by item c.in-Some.is c.next.ensures.steps in
    rw c.in_ok-push.ensures.items (record {
      only = All-push (λ (k : Bor g.row.K.Denot). AsksUnder g.C.PartialEq.eq c.args.calls.now g.K.PartialEq.eq (contents c.args.inner.now c.args.leaves.now) k.now) c.keys.keys.items c.in-Some.key c.keys.invariant.only (asks_marked g.met.C.Eq.laws g.met.R.Eq.laws g.met.K.Eq.laws c.requires c.args.calls.now marks c.in_ok-marks.ensures c.in-Some.key.now c.in-Some.start.now turn.1 mark);
      all = pushed_more (λ (e : g.row.K.Denot × Start). IsTrue (marked marks e.1.first)) (λ (k : Bor g.row.K.Denot) (e : g.row.K.Denot × Start). k.now ≡ e.0) c.args.starts.now.entries c.keys.yielded item c.keys.keys.items c.in-Some.key (c.in-Some.key.now, c.in-Some.start.now) c.keys.invariant.all place.1 refl;
    })

pub keys-preserved : goal.keys-preserved
keys-preserved g c =
    let marks = c.in_ok-marks.marks.items in
    let gives = c.into_iter-key-iterator.ensures.into_iter_gives in
    let item : Bor g.row.K.Denot × Bor Start = (c.in-Some.key, c.in-Some.start) in
    let mark : marked marks c.in-Some.start.now.first ≡ false = search rules in
    let place = iter_turn deref_pair c.args.starts.now.entries c.keys.yielded c.into_iter-key-iterator.result c.keys.key-iterator c.next.new.self c.next.result gives.0 c.keys.yielded_by item c.in-Some.is c.next.ensures.steps in
    record {
      only = c.keys.invariant.only;
      all = skipped_more (λ (e : g.row.K.Denot × Start). IsTrue (marked marks e.1.first)) (λ (k : Bor g.row.K.Denot) (e : g.row.K.Denot × Start). k.now ≡ e.0) c.args.starts.now.entries c.keys.yielded item c.keys.keys.items (c.in-Some.key.now, c.in-Some.start.now) c.keys.invariant.all place.1 (λ h. (let two : true ≡ false = sym h ∙ mark in cc));
    }

pub returns-clause-all : goal.returns-clause-all
returns-clause-all g c =
    let gives = c.into_iter-key-iterator.ensures.into_iter_gives in
    let end = iter_end deref_pair c.args.starts.now.entries c.keys.yielded c.into_iter-key-iterator.result c.keys.key-iterator c.next.new.self c.next.result gives.0 c.keys.yielded_by c.in-None.is c.next.ensures.steps in
    all_pushed g.met.C.Eq.laws g.met.R.Eq.laws g.met.K.Eq.laws c.requires c.args.calls.now (λ (k : Bor g.row.K.Denot). k.now) c.in_ok-marks.marks.items _ c.keys.keys.items c.in_ok-marks.ensures end.1 c.keys.invariant.all
