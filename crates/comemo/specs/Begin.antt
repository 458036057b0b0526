-- How a call of a memoized function begins.
use Rattle.std.specs.Prelude.{◌≡◌, ◌⊎◌, Bool, true, false, List, [], ◌∷◌, ◌++◌, IsTrue, refl}
use Rattle.std.specs.List.{All}
use Rattle.std.specs.Coded.{Coded, code_by, coded×, coded_bool}
use Rattle.comemo_base.specs.Answers.{Respects, Agrees}
use Rattle.comemo_track.specs.Recording.{Recording, recording_code}
use Rattle.comemo_cache.specs.Meaning.{Meaning, Invocation, Run, run, IsNamedRun}
use Rattle.comemo_cache.specs.Cache.{Entries, Stands, HasNone, Has}

-- some writes lead from one value to another, by this relation of what writes do
abbrev pub Reaches : {V C : Type 0} → (V → V → List C → Type 0) → V → V → Type 0
Reaches {V} {C} did i j = (writes : List C) × did i j writes

-- a run that began: its key, whether it is to be stored, and its recording
pub record PendingRun (K C R : Type 0) : Type 0 where
  pub key : K
  pub enabled : Bool
  pub recording : Recording C R

abbrev pub run_code : {K C R : Type 0} → Coded K → Coded C → Coded R → Coded (PendingRun K C R)
run_code {K} {C} {R} k c r =
    code_by (K × (Bool × Recording C R)) (coded× k (coded× coded_bool (recording_code c r))) (λ s. (s.key, (s.enabled, s.recording))) (λ p. record { key = p.0; enabled = p.1.0; recording = p.1.1 }) (λ _. refl)

-- the result of a run that ends with this output
abbrev pub came_to : {K C R O : Type 0} → PendingRun K C R → O → Run K C R O
came_to s output = run s.key s.recording.pairs output s.recording.writes

module _ {K C R O : Type 0} (M : Meaning K C R O) (es : Entries K C R O) (call : Invocation K C R) where
  -- a run is to be done under this key, which equals the call's; if the call is enabled, no entry has the key and
  -- agrees
  pub record HasToRun (own : K) : Type 0 where
    pub has_key : IsTrue (M.same_key call.key own)
    pub right : (n : C → R) (output : O) (writes : List C) → Respects M.same_call M.same_answer n → M.right own n output writes → M.right call.key n output writes
    pub named : (pairs : List (C × R)) → IsNamedRun M own pairs → IsNamedRun M call.key pairs
    pub none : call.enabled ≡ true → HasNone M es call

  -- a run begins with a key that equals the call's and an empty recording that is complete and not late; if it is
  -- enabled, no entry has the key and agrees
  pub record IsRun (begun : PendingRun K C R) : Type 0 where
    pub has_key : IsTrue (M.same_key call.key begun.key)
    pub right : (n : C → R) (output : O) (writes : List C) → Respects M.same_call M.same_answer n → M.right begun.key n output writes → M.right call.key n output writes
    pub named : (pairs : List (C × R)) → IsNamedRun M begun.key pairs → IsNamedRun M call.key pairs
    pub is_enabled : begun.enabled ≡ call.enabled
    pub pairs : begun.recording.pairs ≡ []
    pub writes : begun.recording.writes ≡ []
    pub complete : begun.recording.complete ≡ true
    pub early : begun.recording.late ≡ false
    pub none : call.enabled ≡ true → HasNone M es call

  -- a hit: an entry has the key and agrees with the answers; its path, which has only reads, and then its writes, in
  -- order, went to the sink, and the writes were done on the input; the output is right for all answers that agree with
  -- the path, so also for the call's; if the asked calls are named, the path is a run of them
  pub record IsHit (done : List C → Type 0) (sent : List (C × R) → List C → Type 0) (output : O) : Type 0 where
    pub pairs : List (C × R)
    pub writes : List C
    pub is_enabled : call.enabled ≡ true
    pub kept : Has M es call (run call.key pairs output writes)
    pub agrees : Agrees M.same_answer call.answers pairs
    pub stands : Stands M (run call.key pairs output writes)
    pub reads : All (λ p. M.is_write p.0 ≡ false) pairs
    pub written : All (λ c. M.is_write c ≡ true) writes
    pub settled : IsNamedRun M call.key pairs
    pub are_done : done writes
    pub are_sent : sent pairs writes
    pub right : M.right call.key call.answers output writes

  -- a call that did not begin: its sink, broken off, took a prefix of these pairs, which are none or the path of an
  -- entry that has the key and agrees with the answers
  pub record IsBrokenOff (broken : List (C × R) → Type 0) : Type 0 where
    pub pairs : List (C × R)
    pub found : (pairs ≡ []) ⊎ ((output : O) × (writes : List C) × Has M es call (run call.key pairs output writes))
    pub agrees : Agrees M.same_answer call.answers pairs
    pub is_broken : broken pairs

  -- a hit that stopped at a refused write: an entry has the key and agrees with the answers; its path went to the sink,
  -- and the writes before the refused one were done on the input and went to the sink, which then became incomplete; a
  -- function whose calls are reads has no write that could be refused
  pub record IsStopped (done : List C → Type 0) (spoiled : List (C × R) → List C → Type 0) : Type 0 where
    pub pairs : List (C × R)
    pub output : O
    pub prefix : List C
    pub next : C
    pub rest : List C
    pub is_refused : M.is_write next ≡ true
    pub is_enabled : call.enabled ≡ true
    pub kept : Has M es call (run call.key pairs output (prefix ++ next ∷ rest))
    pub agrees : Agrees M.same_answer call.answers pairs
    pub stands : Stands M (run call.key pairs output (prefix ++ next ∷ rest))
    pub reads : All (λ p. M.is_write p.0 ≡ false) pairs
    pub written : All (λ c. M.is_write c ≡ true) (prefix ++ next ∷ rest)
    pub are_done : done prefix
    pub is_spoiled : spoiled pairs prefix
