-- The size of a file.
use Rattle.std.specs.Prelude.{◌≡◌, ◌≢◌, ⊤, ℕ, List, [], ◌∷◌, String, string_bytes, string_eq, length}
use Rattle.std.specs.Global.{Global}
use Rattle.comemo.specs.Cache.{Entries}
use Rattle.comemo.specs.Meaning.{Meaning, IsRight}
use Rattle.comemo.specs.Called.{IsReply}
use Rattle.comemo.specs.Multi.{second_call, second_answer}
use Rattle.comemo.specs.declared.pending.How.TheVariants as how
use Rattle.comemo.specs.declared.pending.Reply.{Reply}
use Rattle.calc_core.specs.declared.files.Files.{Files}
use Rattle.calc_core.specs.Files.{JoinedCall, JoinedAnswer, OnFiles}
use Rattle.calc_core.specs.Joined.{joined, with_files}
use Rattle.calc_core.specs.declared.files.FileCall.{FileCall}
use Rattle.calc_core.specs.declared.files.FileCall.TheVariants.{Read}

-- the length in bytes of the answer for the path
abbrev pub IsSize : String Global → (FileCall → List ℕ) → ℕ → Type 0
IsSize path m out = out ≡ length (m (Read path))

-- the meaning of the memoized function: no writes, and that length, at the files' answers only
abbrev pub IsSizeOf : String Global × ⊤ → (JoinedCall → JoinedAnswer) → ℕ → List JoinedCall → Type 0
IsSizeOf = IsRight (λ key answers out. OnFiles (λ m. IsSize key.0 m out) answers) (λ _ _ _ writes. writes ≡ [])

abbrev pub sizing : Meaning (String Global × ⊤) JoinedCall JoinedAnswer ℕ
sizing = joined string_eq IsSizeOf

-- the entries of a cache of sizes
abbrev pub Sizes : Type 0
Sizes = Entries (String Global × ⊤) JoinedCall JoinedAnswer ℕ

-- one read, of the file at the path
abbrev pub ReadsAlone : List ℕ → List (JoinedCall × JoinedAnswer) → Type 0
ReadsAlone path pairs =
    (own : String Global) × (text : List ℕ) × (string_bytes own ≡ path) × (pairs ≡ (second_call (Read own), second_answer text) ∷ [])

-- the reply to a call at a path: by an entry of es that agrees with the files; or none of them did, and a run read the file at
-- the path, and nothing else
pub record SizeReply (files : Files) (path : List ℕ) (es : Sizes) (sent : List (JoinedCall × JoinedAnswer) → List JoinedCall → Type 0) (reply : Reply ℕ) (es' : Sizes) : Type 0 where
  pub key : String Global
  pub names : string_bytes key ≡ path
  pub is_reply : IsReply sizing (with_files key files) es es sent reply es'
  pub asks : reply.how ≢ how.Hit → ReadsAlone path is_reply.pairs
