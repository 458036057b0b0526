-- What a peek returns.
use Rattle.std.proofs.Common.{ℕ, suc, [], ◌∷◌, false, Option, Some, None, arith, ◌≡◌, Bool, List, IsTrue, ◌∙◌, sym, ap, subst}
use Rattle.std.specs.List.{All, Any}
use Rattle.std.specs.Cmp.{IsEquivalence}
use Rattle.comemo_base.specs.Answers.{Agrees}
use Rattle.comemo_base.specs.Lookup.{under}
use Rattle.comemo_base.proofs.Under.{Any-under, Any-from_under}
use Rattle.comemo_cache.specs.Meaning.{Meaning, Run, run, invocation, SameWrites}
use Rattle.comemo_cache.specs.Cache.{Kept, Entries, FunctionLaws, IsLegal, IsPeeked, IsEntryOf, HasAged, HasNone}
use Rattle.comemo_cache.specs.Held.{Held}
use Rattle.comemo_base.specs.Tree.{Stored}
use Rattle.comemo_base.proofs.Paths.{turned, joined, IsSamePath-turned}
use Rattle.comemo_cache.proofs.Entries.{IsSamePath-itself, Stands-found, reads_same}
use Rattle.comemo_cache.proofs.Writings.{written_same}
use Rattle.comemo_cache.proofs.Named.{named_moved}

module _ {K C R O : Type 0} (M : Meaning K C R O) (calls : IsEquivalence M.same_call) (answers : IsEquivalence M.same_answer) (keys : IsEquivalence M.same_key) (kind : (x y : C) → IsTrue (M.same_call x y) → M.is_write x ≡ M.is_write y) {key_clone : K → K → Type 0} (laws : FunctionLaws M.same_call M.same_answer M.same_key key_clone M.is_clone M.right) where
  -- of a legal entry that agrees, clones of its output and its writes
  pub peeked : (es : Entries K C R O) → All (IsLegal M) es → (key : K) (m : C → R) (b : Bool) (v w : Kept O C) → v ≡ w → Any (λ e. Agrees M.same_answer m e.path × (e.value ≡ w)) (under M.same_key es key) → (output : O) → M.is_clone v.output output → (writes : List C) → SameWrites M.same_call v.writes writes → IsPeeked M es (invocation key m b) output writes v.age
  peeked es all key m b v w is found output clone writes copies =
      let h = Any-from_under M.same_key es key _ found in
      let e = h.1 in
      let value : v ≡ e.value = is ∙ sym h.4.1.1 in
      let legal : IsLegal M e = subst (λ x. IsLegal M x) h.3 (all h.0 e h.2) in
      let itself = IsSamePath-itself calls answers e.path in
      let own : M.is_clone e.value.output output = subst (λ (x : Kept O C). M.is_clone x.output output) value clone in
      let same : SameWrites M.same_call e.value.writes writes = subst (λ (x : Kept O C). SameWrites M.same_call x.writes writes) value copies in
      record {
        pairs = e.path;
        kept = Any-under M.same_key es key (λ x. IsEntryOf M m (run key e.path output writes) x × (x.value.age ≡ v.age)) (h.0, e, h.2, h.3, (h.4.0, ((h.4.1.0, itself, own, same), sym (ap (λ (x : Kept O C). x.age) value))));
        stands = Stands-found M calls answers laws.keys laws.outputs laws.writes e key e.path output writes legal h.4.0 itself own same;
        reads = legal.reads;
        written = written_same M.same_call M.is_write kind e.value.writes writes same legal.written;
        settled = named_moved calls answers keys M.naming e.key key e.path h.4.0 legal.settled;
      }

-- reads that agree with answers agree with any that answer reads alike
Agrees-moved : {C R : Type 0} {same : R → R → Bool} → IsEquivalence same → (w : C → Bool) (m n : C → R) → ((c : C) → w c ≡ false → IsTrue (same (m c) (n c))) → (ps : List (C × R)) → All (λ p. w p.0 ≡ false) ps → Agrees same m ps → Agrees same n ps
Agrees-moved answers w m n moves [] reads a = tt
Agrees-moved answers w m n moves (p ∷ ps) reads a = (joined answers (n p.0) (m p.0) p.1 (turned answers (m p.0) (n p.0) (moves p.0 (reads 0 p (omega arith)))) a.0, Agrees-moved answers w m n moves ps (λ k d l. reads (suc k) d (omega arith)) a.1)

module _ {K C R O : Type 0} (M : Meaning K C R O) (calls : IsEquivalence M.same_call) (answers : IsEquivalence M.same_answer) (kind : (x y : C) → IsTrue (M.same_call x y) → M.is_write x ≡ M.is_write y) (m n : C → R) (moves : (c : C) → M.is_write c ≡ false → IsTrue (M.same_answer (m c) (n c))) (key : K) (b : Bool) where
  -- an entry of a run of reads agrees with any answers that answer reads alike
  entry_moved : (ran : Run K C R O) → All (λ p. M.is_write p.0 ≡ false) ran.pairs → (e : Stored K C R (Kept O C)) → IsEntryOf M m ran e → IsEntryOf M n ran e
  entry_moved ran reads e is =
      let own = reads_same M.same_call M.same_answer M.is_write kind e.path ran.pairs (IsSamePath-turned calls answers ran.pairs e.path is.1) reads in
      (Agrees-moved answers M.is_write m n moves e.path own is.0, is.1, is.2, is.3)

  pub HasAged-moved : (ran : Run K C R O) → All (λ p. M.is_write p.0 ≡ false) ran.pairs → (es : Entries K C R O) (age : ℕ) → HasAged M es (invocation key m b) ran age → HasAged M es (invocation key n b) ran age
  HasAged-moved ran reads es age found = (found.0, found.1, found.2, found.3, (entry_moved ran reads found.1 found.4.0, found.4.1))

  -- where an entry was peeked, and then none found by other answers that answer reads alike, nothing is told of the entries, so that it
  -- may be said of none
  pub none_left : (output : O) (writes : List C) (age : ℕ) (o : Option (Entries K C R O)) → Held o (λ es. IsPeeked M es (invocation key m b) output writes age) → Held o (λ es. HasNone M es (invocation key n b)) → Held o (λ es. HasNone M es (invocation key m b))
  none_left output writes age (Some es) p none =
      let k = p.kept in
      absurd (none k.0 k.1 k.2 (subst (λ e. Agrees M.same_answer n e.path) (sym k.3) (entry_moved (run key p.pairs output writes) p.reads k.1 k.4.0).0))
  none_left output writes age None p none = ([], λ k d l. absurd (omega arith))
