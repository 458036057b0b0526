-- A session's answers.
use Rattle.comemo.specs.declared.pending.How.{How}
use Rattle.comemo.specs.declared.pending.How.TheVariants as how
use Rattle.std.specs.Prelude.{Bool, true, false, ◌≡◌, ◌≤◌, ℕ, List, bytes_eq, length, if◌then◌else◌}
use Rattle.calc_core.specs.Requests.{Request, write, eval, size, evict, IsLineOf, IsNoCommand}
use Rattle.calc_core.specs.Printed.{printed, bad_command}
use Rattle.calc_core.specs.declared.commands.answer.Answer.{Answer}
use Rattle.calc_core.specs.declared.commands.answer.Answer.TheVariants as answer
use Rattle.calc_core.specs.Meaning.{Value, Means, IsTooDeep}
use Rattle.calc_core.specs.declared.sessions.state.State.{State}
use Rattle.calc_core.specs.Files.{Texts, text_at, Reads}

-- the texts of a session's files
abbrev pub texts_in : State → Texts
texts_in state = text_at state.files

abbrev pub Same : Texts → Texts → Type 0
Same before after = (path : List ℕ) → after path ≡ before path

-- the greatest height of a script that a session evaluates
abbrev pub height_limit : ℕ
height_limit = 128

-- whether a run is in the cache after a call that ended so
abbrev pub in_cache : How → Bool
in_cache how.Hit = true
in_cache how.Stored = true
in_cache how.AlreadyExists = true
in_cache how.MissingCall = false
in_cache how.NotStored = false
in_cache how.Disabled = false
in_cache how.Late = false

-- the answer to a request at the texts before it, and the texts after it
pub data Answers : Texts → Request → Answer → Texts → Type 0 where
  -- the text is at the path, and nothing else changed
  written : {before after : Texts} {path text : List ℕ} → ((q : List ℕ) → after q ≡ (if bytes_eq q path then text else before q)) → Answers before (write path text) answer.Written after
  -- the script has this value, and is no higher than the limit
  value : {before after : Texts} {script : List ℕ} {hit kept : Bool} {v : Value} {height : ℕ} → Means (Reads before) script v height → height ≤ height_limit → Same before after → Answers before (eval script) (answer.Value hit kept v) after
  -- the script is higher than the limit, or means nothing
  too_deep : {before after : Texts} {script : List ℕ} → IsTooDeep (Reads before) script height_limit → Same before after → Answers before (eval script) answer.TooDeep after
  -- the text at the path has this many bytes
  bytes_at : {before after : Texts} {path : List ℕ} {hit : Bool} {bytes : ℕ} → bytes ≡ length (before path) → Same before after → Answers before (size path) (answer.Size hit bytes) after
  -- the caches were evicted, and the texts are unchanged
  evicted : {before after : Texts} {max_age : ℕ} → Same before after → Answers before (evict max_age) answer.Evicted after
  -- out of memory, and nothing was done
  no_memory : {before after : Texts} {request : Request} → Same before after → Answers before request answer.Memory after

-- what a line prints at the texts before it, and the texts after it
pub data Prints : Texts → List ℕ → List ℕ → Texts → Type 0 where
  -- the answer to its command
  is_answered : {before after : Texts} {line : List ℕ} {request : Request} {reply : Answer} → IsLineOf line request → Answers before request reply after → Prints before line (printed reply) after
  -- it has no command
  is_bad : {before after : Texts} {line : List ℕ} → IsNoCommand line → Same before after → Prints before line bad_command after

-- a line whose answer was out of memory changed nothing
abbrev pub Refuses : Texts → List ℕ → Texts → Type 0
Refuses before line after = Same before after
