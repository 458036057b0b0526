use Rattle.std.proofs.Common.{◌≡◌, ◌∙◌, ◌∷◌, []}
use Rattle.std.proofs.lemmas.List.Sorted.{IsPermutation-append_comm}
use Rattle.comemo_base.specs.Tree.{stored}
use Rattle.comemo_base.proofs.Steps.{IsTree-push}
use Rattle.comemo_plain.proofs.PlainTree.insert.Goals as goal

pub invariant_of-self-2 : goal.invariant_of-self-2
invariant_of-self-2 g c =
    let apart = rw c.as_slice.ensures.value at c.in_ok-path.ensures.apart in
    rw c.in_ok-push.ensures.items (IsTree-push g.met.K.Eq.laws c.self.inside.entries.items (stored c.args.key c.in_ok-path.path.items c.args.value) c.self.invariant c.in_ok-path.ensures.distinct apart)

pub returns-clause-ok : goal.returns-clause-ok
returns-clause-ok g c =
    let own : c.as_slice.result.now ≡ c.args.self.now = c.as_slice.ensures.value ∙ c.self.view_is in
    rw own at c.in_ok-path.ensures.ok

pub returns-clause-stored : goal.returns-clause-stored
returns-clause-stored g c =
    let own : c.as_slice.result.now ≡ c.args.self.now = c.as_slice.ensures.value ∙ c.self.view_is in
    record {
      own = c.args.key;
      is_key = g.met.K.Eq.laws.refl c.args.key;
      path = c.in_ok-path.path.items;
      is_new = rw own at c.in_ok-path.ensures.path;
      entries = rw (c.in_ok-push.ensures.items, ← c.self.view_is) (IsPermutation-append_comm (stored c.args.key c.in_ok-path.path.items c.args.value ∷ []) c.self.inside.entries.items);
    }
