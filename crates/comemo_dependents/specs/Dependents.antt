-- Which keys rest on which calls: for each call, the keys that were noted with reads that ask it. Keys and calls are told apart
-- by tests, and equal ones need not be identical.
use Rattle.std.specs.Prelude.{◌≡◌, Bool, false, if◌then◌else◌, List, IsTrue, Option, None, Some}
use Rattle.std.specs.List.{list_any}
use Rattle.std.specs.Map.{lookup}

-- the key is in the list, if there is one
abbrev pub is_listed : {K : Type 0} → (K → K → Bool) → Option (List K) → K → Bool
is_listed eq None key = false
is_listed eq (Some keys) key = list_any (eq key) keys

module _ {K C : Type 0} (same_key : K → K → Bool) (same_call : C → C → Bool) where
  -- the key rests on the call
  abbrev pub rests_on : List (C × List K) → K → C → Bool
  rests_on index key call = is_listed same_key (lookup (same_call call) index) key

  -- the key rests on one of these calls
  abbrev pub rests_on_one : List (C × List K) → K → List C → Bool
  rests_on_one index key calls = list_any (rests_on index key) calls

  -- the key rests on no call any more, and each other key on what it did
  abbrev pub Forgets : K → List (C × List K) → List (C × List K) → Type 0
  Forgets key old new = (other : K) (call : C) → rests_on new other call ≡ (if same_key other key then false else rests_on old other call)

-- If all calls but these keep their answers, so do all calls of which the test holds.
abbrev pub KeepsAnswers : {C : Type 0} → (C → C → Bool) → List C → (C → Bool) → Type 0
KeepsAnswers {C} same_call changed rests = (keeps : C → Bool) → ((call : C) → list_any (same_call call) changed ≡ false → IsTrue (keeps call)) → (call : C) → IsTrue (rests call) → IsTrue (keeps call)
