-- What a memoized function means, and how it is called, each as one value.
use Rattle.std.specs.Prelude.{◌≡◌, Bool, List, IsTrue}
use Rattle.std.specs.List.{AllZip}
use Rattle.comemo_base.specs.Runs.{IsRun}

-- the calls that a memoized function asks under a key and given answers: it names none, or these
pub data Naming (K C R : Type 0) : Type 1 where
  unnamed : Naming K C R
  names : (K → (C → R) → C → Type 0) → Naming K C R

-- an equal call is asked under an equal key
abbrev pub AsksAlike : {K C R : Type 0} → (K → K → Bool) → (C → C → Bool) → (K → (C → R) → C → Type 0) → K → (C → R) → C → Type 0
AsksAlike {K} {C} eqk eq asks key m call = (k : K) × (c : C) × IsTrue (eqk k key) × IsTrue (eq c call) × asks k m c

abbrev pub Names : {K C R : Type 0} → Naming K C R → Type 0
Names unnamed = ⊥
Names (names asks) = Unit {0}

abbrev pub IsRunOf : {K C R : Type 0} → (K → K → Bool) → (C → C → Bool) → (R → R → Bool) → Naming K C R → K → List (C × R) → Type 0
IsRunOf eqk eq same unnamed key pairs = Unit {0}
IsRunOf eqk eq same (names asks) key pairs = IsRun eq same (AsksAlike eqk eq asks key) pairs

-- when two calls, two answers and two keys are equal, which calls are writes, and when an output is a clone of another; which
-- outputs and writes are right at a key and answers; and which calls are asked, if they are named
pub record Meaning (K C R O : Type 0) : Type 1 where
  pub same_call : C → C → Bool
  pub same_answer : R → R → Bool
  pub same_key : K → K → Bool
  pub is_write : C → Bool
  pub is_clone : O → O → Type 0
  pub right : K → (C → R) → O → List C → Type 0
  pub naming : Naming K C R

-- the function names the calls that it asks
abbrev pub IsNamed : {K C R O : Type 0} → Meaning K C R O → Type 0
IsNamed M = Names M.naming

-- if it does, the pairs are what a run under the key asks, in some order: they are causal and complete
abbrev pub IsNamedRun : {K C R O : Type 0} → Meaning K C R O → K → List (C × R) → Type 0
IsNamedRun M key pairs = IsRunOf M.same_key M.same_call M.same_answer M.naming key pairs

-- the same, if an output's only clone is itself
abbrev pub exactly : {K C R O : Type 0} → Meaning K C R O → Meaning K C R O
exactly M = record M { is_clone = λ a b. b ≡ a }

-- the same writes, each up to equality
abbrev pub SameWrites : {C : Type 0} → (C → C → Bool) → List C → List C → Type 0
SameWrites eq V W = AllZip (λ a b. IsTrue (eq a b)) V W

-- the output and the writes are right, where these outputs and these writes are
abbrev pub IsRight : {K C R O : Type 0} → (K → (C → R) → O → Type 0) → (K → (C → R) → O → List C → Type 0) → K → (C → R) → O → List C → Type 0
IsRight means writes key m output W = writes key m output W × means key m output

-- a call of a memoized function: its key, its input's answers, and whether the cache is looked up and the run stored
pub record Invocation (K C R : Type 0) : Type 0 where
  pub key : K
  pub answers : C → R
  pub enabled : Bool

-- that record
abbrev pub invocation : {K C R : Type 0} → K → (C → R) → Bool → Invocation K C R
invocation k m b = record { key = k; answers = m; enabled = b }

-- a run: under a key, from the recorded reads with their answers, an output, and its writes
pub record Run (K C R O : Type 0) : Type 0 where
  pub key : K
  pub pairs : List (C × R)
  pub output : O
  pub writes : List C

-- that record
abbrev pub run : {K C R O : Type 0} → K → List (C × R) → O → List C → Run K C R O
run k ps o ws = record { key = k; pairs = ps; output = o; writes = ws }
