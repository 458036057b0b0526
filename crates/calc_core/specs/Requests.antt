-- The lines that are commands.
use Rattle.std.specs.Prelude.{◌≡◌, ◌≢◌, ◌⊎◌, ℕ, ◌<◌, ◌^◌, List, [], ◌∷◌, ◌++◌, length, All, codes, string_bytes}
use Rattle.std.specs.Str.Parse.{IsNumeral, digits_value}
use Rattle.calc_core.specs.declared.commands.command.Command.{Command}
use Rattle.calc_core.specs.declared.commands.command.Command.TheVariants.{Write, Eval, Size, Evict}
use Rattle.calc_core.specs.declared.commands.command.CommandRef.{CommandRef}
use Rattle.calc_core.specs.declared.commands.command.CommandRef.TheVariants as lent

-- what a line asks for, at paths and texts as bytes
pub data Request : Type 0 where
  write : (path text : List ℕ) → Request
  eval : (script : List ℕ) → Request
  size : (path : List ℕ) → Request
  evict : (max_age : ℕ) → Request

-- what a command asks for
abbrev pub request_of : Command → Request
request_of (Write path text) = write (string_bytes path) (string_bytes text)
request_of (Eval script) = eval (string_bytes script)
request_of (Size path) = size (string_bytes path)
request_of (Evict max_age) = evict max_age

-- what a command with borrowed texts asks for
abbrev pub asked_by : CommandRef → Request
asked_by (lent.Write path text) = write path.now text.now
asked_by (lent.Eval script) = eval script.now
asked_by (lent.Size path) = size path.now
asked_by (lent.Evict max_age) = evict max_age

-- a path that `write` can name: of at least one byte, and without a blank
abbrev pub IsWord : List ℕ → Type 0
IsWord path = (0 < length path) × All (λ byte. byte ≢ 32) path

-- the text is all after the blank that ends the path, and empty if there is none
abbrev pub IsWriteOf : List ℕ → List ℕ → List ℕ → Type 0
IsWriteOf line path text = (line ≡ codes "write " ++ path ++ 32 ∷ text) ⊎ ((line ≡ codes "write " ++ path) × (text ≡ []))

-- the text is at least one digit and nothing else, denotes n, and fits in a `usize`
abbrev pub IsNumber : List ℕ → ℕ → Type 0
IsNumber digits n = IsNumeral 10 digits × (digits_value 10 digits ≡ n) × (n < 2 ^ 64)

-- a line, without its end, asks for this
abbrev pub IsLineOf : List ℕ → Request → Type 0
IsLineOf line (write path text) = IsWord path × IsWriteOf line path text
IsLineOf line (eval script) = line ≡ codes "eval " ++ script
IsLineOf line (size path) = line ≡ codes "size " ++ path
IsLineOf line (evict max_age) = (digits : List ℕ) × (line ≡ codes "evict " ++ digits) × IsNumber digits max_age

-- a line asks for nothing
abbrev pub IsNoCommand : List ℕ → Type 0
IsNoCommand line = (request : Request) → ¬ IsLineOf line request
