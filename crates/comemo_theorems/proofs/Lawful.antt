-- What the proofs use of a function's meaning.
use Rattle.std.proofs.Common.{List, IsTrue}
use Rattle.std.specs.Cmp.{IsEquivalence}
use Rattle.comemo_base.specs.Answers.{Respects}
use Rattle.comemo_cache.specs.Meaning.{Meaning, SameWrites}
use Rattle.comemo_cache.specs.Cache.{FunctionLaws}

-- its equalities are equivalences, and it treats equal keys, equal writes, and an output and its clone alike
pub record IsLawful {K C R O : Type 0} (M : Meaning K C R O) : Type 0 where
  pub calls : IsEquivalence M.same_call
  pub answers : IsEquivalence M.same_answer
  pub keys : IsEquivalence M.same_key
  pub by_key : (j k : K) (m : C → R) (output : O) (writes : List C) → Respects M.same_call M.same_answer m → IsTrue (M.same_key j k) → M.right j m output writes → M.right k m output writes
  pub by_output : (key : K) (m : C → R) (a b : O) (writes : List C) → Respects M.same_call M.same_answer m → M.is_clone a b → M.right key m a writes → M.right key m b writes
  pub by_writes : (key : K) (m : C → R) (output : O) (V W : List C) → Respects M.same_call M.same_answer m → SameWrites M.same_call V W → M.right key m output V → M.right key m output W

pub lawful : {K C R O : Type 0} (M : Meaning K C R O) {key_clone : K → K → Type 0} → IsEquivalence M.same_call → IsEquivalence M.same_answer → IsEquivalence M.same_key → FunctionLaws M.same_call M.same_answer M.same_key key_clone M.is_clone M.right → IsLawful M
lawful M calls answers keys laws = record { calls = calls; answers = answers; keys = keys; by_key = laws.keys; by_output = laws.outputs; by_writes = laws.writes }
