-- A hit, from what was found under a key that equals the call's.
use Rattle.std.proofs.Common.{◌≡◌, ◌++◌, ◌∷◌, ℕ, true, List, IsTrue, Option, Some, None, IfNone, inr, refl, subst}
use Rattle.std.specs.List.{All}
use Rattle.std.specs.Cmp.{IsEquivalence}
use Rattle.comemo_base.specs.Answers.{Respects, Agrees}
use Rattle.comemo_cache.specs.Meaning.{Meaning, run, invocation}
use Rattle.comemo_cache.specs.Cache.{Entries, FunctionLaws, Stands, Has, IsPeeked}
use Rattle.comemo_cache.proofs.Entries.{Has-alike, Agrees-found}
use Rattle.comemo_cache.proofs.Holding.{has_so}
use Rattle.comemo_cache.proofs.Named.{named_moved}
use Rattle.comemo.specs.Begin.{IsHit, IsBrokenOff, IsStopped}

-- what follows if nothing was found
pub none_mapped : {X P Q : Type 0} (r : Option X) → (P → Q) → IfNone r P → IfNone r Q
none_mapped (Some x) f p = tt
none_mapped None f p = f p

module _ {K C R O : Type 0} (M : Meaning K C R O) (calls : IsEquivalence M.same_call) (answers : IsEquivalence M.same_answer) (keys : IsEquivalence M.same_key) {key_clone : K → K → Type 0} (laws : FunctionLaws M.same_call M.same_answer M.same_key key_clone M.is_clone M.right) (own key : K) (alike : IsTrue (M.same_key own key)) (m : C → R) (respects : Respects M.same_call M.same_answer m) (es : Entries K C R O) {output : O} {writes : List C} {age : ℕ} (found : IsPeeked M es (invocation own m true) output writes age) where
  own_has : Has M es (invocation own m true) (run own found.pairs output writes)
  own_has = has_so M (invocation own m true) (run own found.pairs output writes) age es found.kept

  has : Has M es (invocation key m true) (run key found.pairs output writes)
  has = Has-alike M keys es own key alike m true true (run own found.pairs output writes) own_has

  agrees : Agrees M.same_answer m found.pairs
  agrees = Agrees-found M calls answers m respects (run own found.pairs output writes) _ own_has

  stands : Stands M (run key found.pairs output writes)
  stands = λ n r a. laws.keys own key n output writes r alike (found.stands n r a)

  pub hit_of : {done : List C → Type 0} {sent : List (C × R) → List C → Type 0} → done writes → sent found.pairs writes → IsHit M es (invocation key m true) done sent output
  hit_of are_done are_sent = record {
    pairs = found.pairs;
    writes = writes;
    is_enabled = refl;
    kept = has;
    agrees = agrees;
    stands = stands;
    reads = found.reads;
    written = found.written;
    settled = named_moved calls answers keys M.naming own key found.pairs alike found.settled;
    are_done = are_done;
    are_sent = are_sent;
    right = stands m respects agrees;
  }

  pub broken_of : {broken : List (C × R) → Type 0} → broken found.pairs → IsBrokenOff M es (invocation key m true) broken
  broken_of is = record { pairs = found.pairs; found = inr (output, writes, has); agrees = agrees; is_broken = is }

  pub stopped_of : (prefix : List C) (next : C) (rest : List C) → writes ≡ prefix ++ next ∷ rest → M.is_write next ≡ true → {done : List C → Type 0} {spoiled : List (C × R) → List C → Type 0} → done prefix → spoiled found.pairs prefix → IsStopped M es (invocation key m true) done spoiled
  stopped_of prefix next rest is refused are_done is_spoiled = record {
    pairs = found.pairs;
    output = output;
    prefix = prefix;
    next = next;
    rest = rest;
    is_refused = refused;
    is_enabled = refl;
    kept = subst (λ ws. Has M es (invocation key m true) (run key found.pairs output ws)) is has;
    agrees = agrees;
    stands = subst (λ ws. Stands M (run key found.pairs output ws)) is stands;
    reads = found.reads;
    written = subst (λ ws. All (λ c. M.is_write c ≡ true) ws) is found.written;
    are_done = are_done;
    is_spoiled = is_spoiled;
  }
