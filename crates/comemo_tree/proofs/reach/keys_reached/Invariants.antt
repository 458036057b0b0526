use Rattle.std.proofs.Common.{◌≡◌, ◌<◌, ℕ, Some, IsTrue, length}
use Rattle.std.specs.List.{All, Any, slice_get}
use Rattle.comemo_tree.specs.Nodes.{contents}
use Rattle.comemo_tree.specs.Reach.{AsksUnder, marked}
use Rattle.comemo_tree.proofs.reach.keys_reached.Given as goal

abbrev pub invariant-keys : goal.invariant-keys
invariant-keys g l = record {
  only : All (λ k. AsksUnder g.C.PartialEq.eq l.calls g.K.PartialEq.eq (contents l.inner l.leaves) k.now) l.keys.items;
  all : (i : ℕ) (e : _ × _) → i < length l.yielded → slice_get l.starts.entries i ≡ Some e → IsTrue (marked l.marks.items e.1.first) → Any (λ k. k.now ≡ e.0) l.keys.items;
}
