-- A look-up with the answers of a map whose clone ran out of memory.
use Rattle.std.proofs.Common.{Bool, List, [], ◌∷◌, Some, Result, Ok, Err, OnErr}
use Rattle.std.specs.List.{Any}
use Rattle.std.specs.Cmp.{IsEquivalence}
use Rattle.std.specs.Fn.{Mut}
use Rattle.std.specs.declared.alloc.AllocError.{AllocError}
use denote.Ref.{Bor}
use Rattle.comemo_base.specs.Answers.{Agrees, Respects}
use Rattle.comemo_base.specs.Tree.{Stored, IsSamePath}
use Rattle.comemo_base.specs.Lookup.{AnswersAs, LooksUp}
use Rattle.comemo_base.proofs.Paths.{Agrees-asked, FindsAgreeingPath-from_asked}

module _ {C R : Type 0} {eq : C → C → Bool} {same : R → R → Bool} (calls : IsEquivalence eq) (answers : IsEquivalence same) where
  pub IsSamePath-itself : (ps : List (C × R)) → IsSamePath eq same ps ps
  IsSamePath-itself [] = tt
  IsSamePath-itself (p ∷ ps) = (calls.refl p.0, answers.refl p.1, IsSamePath-itself ps)

  -- a look-up that was answered from the map and found a value found a path that agrees with the map
  Agrees-from_found : {O K T : Type 0} (g : Mut O (Bor C × Unit {0}) (Result R AllocError)) (us : List (Stored K C R T)) (m : C → R) (f f' : O) (v : T) → Respects eq same m → AnswersAs g same m f → LooksUp g eq same us f f' (Some v) → Any (λ e. Agrees same m e.path) us
  Agrees-from_found g us m f f' v respects at h =
      let found = FindsAgreeingPath-from_asked calls answers m respects us h.asked h.asked v (Agrees-asked g same m f f' h.asked at h.answered) h.finds (IsSamePath-itself h.asked) in
      (found.0, found.1, found.2, found.3, found.4.0)

  -- so if `find` fails although its oracle didn't, there is such a path
  pub Agrees-from_find_err : {O K T B : Type 0} (g : Mut O (Bor C × Unit {0}) (Result R AllocError)) (us : List (Stored K C R T)) (m : C → R) (f f' : O) (r : Result B AllocError) → Respects eq same m → AnswersAs g same m f → OnErr r ((v : T) × LooksUp g eq same us f f' (Some v)) → OnErr r (Any (λ e. Agrees same m e.path) us)
  Agrees-from_find_err g us m f f' (Ok b) respects at h = tt
  Agrees-from_find_err g us m f f' (Err e) respects at h = Agrees-from_found g us m f f' h.0 respects at h.1
