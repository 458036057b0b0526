-- What a session remembers of the scripts that it answered.
use Rattle.std.specs.Prelude.{true, false, ◌≡◌, ◌≤◌, ℕ, List, [], ◌∷◌, string_bytes}
use Rattle.std.specs.List.{All, Any}
use Rattle.comemo.specs.Answers.{Agrees}
use Rattle.calc_core.specs.Requests.{Request, write, eval, size, evict}
use Rattle.calc_core.specs.declared.commands.answer.Answer.{Answer}
use Rattle.calc_core.specs.declared.commands.answer.Answer.TheVariants as answer
use Rattle.calc_core.specs.Asked.{Asks}
use Rattle.calc_core.specs.Meaning.{Value, Means}
use Rattle.calc_core.specs.declared.files.FileCall.{FileCall}
use Rattle.calc_core.specs.declared.files.FileCall.TheVariants.{Read}
use Rattle.calc_core.specs.Files.{Texts, Reads, with_key}
use Rattle.calc_core.specs.Joined.{same_answer}
use Rattle.calc_core.specs.Evaluations.{Outcomes}
use Rattle.calc_core.specs.Sessions.{height_limit, Answers}

-- a script, the texts at which it was evaluated, and its value, which was cached
pub record Past : Type 0 where
  pub script : List ℕ
  pub texts : Texts
  pub value : Value

-- what is remembered after this answer to a script: its value, if it is cached
abbrev pub remembered_of : List Past → Texts → List ℕ → Answer → List Past
remembered_of past texts script (answer.Value hit true v) = record { script = script; texts = texts; value = v } ∷ past
remembered_of past texts script (answer.Value hit false v) = past
remembered_of past texts script (answer.Size hit bytes) = past
remembered_of past texts script answer.Written = past
remembered_of past texts script answer.Evicted = past
remembered_of past texts script answer.TooDeep = past
remembered_of past texts script answer.Memory = past

-- and after this answer to any request: an eviction forgets all
abbrev pub remembered : List Past → Texts → Request → Answer → List Past
remembered past texts (write path text) r = past
remembered past texts (eval script) r = remembered_of past texts script r
remembered past texts (size path) r = past
remembered past texts (evict max_age) r = []

-- a hit with this value, or out of memory
abbrev pub IsHitOf : Value → Answer → Type 0
IsHitOf v (answer.Value hit kept w) = (hit ≡ true) × (w ≡ v)
IsHitOf v (answer.Size hit bytes) = ⊥
IsHitOf v answer.Written = ⊥
IsHitOf v answer.Evicted = ⊥
IsHitOf v answer.TooDeep = ⊥
IsHitOf v answer.Memory = Unit {0}

-- a script whose value is remembered, and whose texts read are the same as then, is answered by a hit with that value, or is
-- out of memory
abbrev pub RecallsOf : List Past → Texts → List ℕ → Answer → Type 0
RecallsOf past texts script r =
    All (λ p. p.script ≡ script → ((path : List ℕ) → Asks (Reads p.texts) script path → texts path ≡ p.texts path) → IsHitOf p.value r) past

-- the same for a request of a script
abbrev pub Recalls : List Past → Texts → Request → Answer → Type 0
Recalls past texts (write path text) r = Unit {0}
Recalls past texts (eval script) r = RecallsOf past texts script r
Recalls past texts (size path) r = Unit {0}
Recalls past texts (evict max_age) r = Unit {0}

-- the answers to a list of requests, one after the other, and what is remembered after them
pub data AnswersEach : List Past → Texts → List Request → List Answer → Texts → List Past → Type 0 where
  none_asked : {past : List Past} {texts : Texts} → AnswersEach past texts [] [] texts past
  one_asked : {past left : List Past} {before mid after : Texts} {request : Request} {reply : Answer} {requests : List Request} {replies : List Answer} → Answers before request reply mid → Recalls past before request reply → AnswersEach (remembered past before request reply) mid requests replies after left → AnswersEach past before (request ∷ requests) (reply ∷ replies) after left

-- the answers of files with these texts
abbrev pub answering : Texts → FileCall → List ℕ
answering texts (Read path) = texts (string_bytes path)

-- what is remembered is cached: an entry under the script agrees with those texts, and the value is what the script means there
pub record IsKept (es : Outcomes) (p : Past) : Type 0 where
  pub height : ℕ
  pub means : Means (Reads p.texts) p.script p.value height
  pub low : height ≤ height_limit
  pub there : Any (λ e. (e.key.0 ≡ p.script) × Agrees same_answer (with_key (answering p.texts)) e.path) es

abbrev pub Knows : List Past → Outcomes → Type 0
Knows past es = All (IsKept es) past
