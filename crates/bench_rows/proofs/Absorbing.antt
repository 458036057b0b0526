-- What holds for all pairs holds for absorbed ones.
use Rattle.std.proofs.Common.{Bool, true, false, cond, List, [], ◌∷◌, ◌++◌, suc, arith}
use Rattle.std.specs.List.{All}
use Rattle.std.proofs.lemmas.List.Elements.{All-nil, All-push}
use Rattle.comemo.specs.Sequence.{absorbed, held}

module _ {C R : Type 0} (eq : C → C → Bool) (P : C × R → Type 0) where
  one_more : (b : Bool) (ps : List (C × R)) (q : C × R) → All P ps → P q → All P (cond b ps (ps ++ q ∷ []))
  one_more true ps q a is = a
  one_more false ps q a is = All-push P ps q a is

  more_absorbed : (ps qs : List (C × R)) → All P ps → All P qs → All P (absorbed eq ps qs)
  more_absorbed ps [] a b = a
  more_absorbed ps (q ∷ qs) a b = more_absorbed (cond (held eq ps q.0) ps (ps ++ q ∷ [])) qs (one_more (held eq ps q.0) ps q a (b 0 q (omega arith))) (λ k d l. b (suc k) d (omega arith))

  pub all_absorbed : (qs : List (C × R)) → All P qs → All P (absorbed eq [] qs)
  all_absorbed qs b = more_absorbed [] qs (All-nil P) b
