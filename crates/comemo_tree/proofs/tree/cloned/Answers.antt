use Rattle.std.proofs.Common.{Bor, ◌≡◌, refl}
use Rattle.comemo_tree.proofs.Trail.{AllZip-push}
use Rattle.comemo_tree.proofs.tree.cloned.Goals as goal

pub pairs-preserved : goal.pairs-preserved
pairs-preserved g c = rw c.in_ok-push.ensures.items (AllZip-push (λ (p : Bor _ × _) (q : _ × _). g.C.Clone.is_clone p.0.now q.0 × (p.1 ≡ q.1)) c.pairs.yielded c.pairs.path.items (c.in-Some.call, c.in-Some.answer) (c.in_ok-clone.field-0, c.in-Some.answer) c.pairs.invariant (c.in_ok-clone.ensures.cases, refl))
