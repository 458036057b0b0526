-- How an index holds its keys: a map from each call to a set of keys, and one from each key to its calls. No public contract uses
-- this.
use Rattle.std.specs.Prelude.{◌≡◌, Bool, true, false, List, map, Option, None, Some}
use Rattle.std.specs.Global.{Vec}
use Rattle.std.specs.List.{list_any}
use Rattle.std.specs.HashMap.{HashMap, get}
use Rattle.std.specs.HashSet.{HashSet, contains}

-- the keys of each call, as lists
abbrev pub index_of : {K C S T : Type 0} → HashMap C (HashSet K S) T → List (C × List K)
index_of {K} {C} {S} lists = map (λ (e : C × HashSet K S). (e.0, e.1.keys)) lists.entries

-- the key is in the set, if there is one
abbrev pub is_in : {K S : Type 0} → (K → K → Bool) → Option (HashSet K S) → K → Bool
is_in eq None key = false
is_in eq (Some keys) key = contains eq keys key

-- the call is one of these, if there are any
abbrev pub is_noted : {C : Type 0} → (C → C → Bool) → Option (Vec C) → C → Bool
is_noted eq None call = false
is_noted eq (Some calls) call = list_any (eq call) calls.items

module _ {K C S T : Type 0} (same_key : K → K → Bool) (same_call : C → C → Bool) where
  -- the key is in the set of the call
  abbrev pub lists_key : HashMap C (HashSet K S) T → C → K → Bool
  lists_key lists call key = is_in same_key (get same_call lists call) key

  -- where a key is in the set of a call, the call was noted of the key, so that the key can be taken out again
  pub record AreNoted {U : Type 0} (lists : HashMap C (HashSet K S) T) (calls : HashMap K (Vec C) U) : Type 0 where
    pub noted : (call : C) (key : K) → lists_key lists call key ≡ true → is_noted same_call (get same_key calls key) call ≡ true
