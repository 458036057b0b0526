-- Why a call of a memoized function is a hit or a run.
use Rattle.std.specs.Prelude.{◌≡◌, List, [], ◌∷◌, ◌++◌}
use Rattle.std.specs.List.{All, Any}
use Rattle.comemo_base.specs.Answers.{Agrees}
use Rattle.comemo_base.specs.Tree.{IsPrefix}
use Rattle.comemo_base.specs.Lookup.{under, IsNext}
use Rattle.comemo_cache.specs.Meaning.{Meaning, Invocation}
use Rattle.comemo_cache.specs.Cache.{Entries, HasNone}
use Rattle.comemo_cache.specs.declared.explain.Explanation.{Explanation}
use Rattle.comemo_cache.specs.declared.explain.Explanation.TheVariants.{Hit, NeverKept, Changed}

module _ {K C R O : Type 0} (M : Meaning K C R O) (es : Entries K C R O) (call : Invocation K C R) where
  -- No entry agrees. Some path under the key has the pairs that were asked, answered as they are now, and then the next call; and no
  -- path goes on with the answer that this has now.
  pub record Diverges (asked : List (C × R)) (next : C) (answer : R) : Type 0 where
    pub none : HasNone M es call
    pub answered : Agrees M.same_answer call.answers (asked ++ (next, answer) ∷ [])
    pub along : Any (λ e. IsNext M.same_call M.same_answer asked next e.path) (under M.same_key es call.key)
    pub nowhere : All (λ e. ¬ IsPrefix M.same_call M.same_answer (asked ++ (next, answer) ∷ []) e.path) (under M.same_key es call.key)

  -- what is said of the call holds
  abbrev pub Explains : Explanation C R → Type 0
  Explains Hit = Any (λ e. Agrees M.same_answer call.answers e.path) (under M.same_key es call.key)
  Explains NeverKept = under M.same_key es call.key ≡ []
  Explains (Changed asked next answer) = Diverges asked.items next answer
