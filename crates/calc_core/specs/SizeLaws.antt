-- Equal paths have the same size, as the trait demands. A reader needn't trust this.
use Rattle.std.proofs.Common.{◌≡◌, ◌∙◌, IsTrue, ℕ, String, length, ap, rules}
use Rattle.std.specs.Prelude.{bytes_eq, string_eq}
use Rattle.std.specs.Bool.{⊤}
use Rattle.std.specs.Global.{Global}
use Rattle.comemo.specs.MultiLaws.{second_respects}
use Rattle.comemo.specs.Answers.{Respects}
use Rattle.calc_core.specs.Files.{JoinedCall, JoinedAnswer, OnFiles}
use Rattle.calc_core.specs.Joined.{same_call, same_answer, same_key}
use Rattle.calc_core.specs.Size.{IsSize}
use Rattle.calc_core.specs.declared.files.FileCall.TheVariants.{Read}

-- a key is a path and nothing more
pub size_alike : (j k : String Global × ⊤) (m : JoinedCall → JoinedAnswer) (out : ℕ) → Respects same_call same_answer m → IsTrue (same_key string_eq j k) → OnFiles (λ n. IsSize j.0 n out) m → OnFiles (λ n. IsSize k.0 n out) m
size_alike j k m out respects same is n second =
    let told : IsTrue (bytes_eq (n (Read j.0)) (n (Read k.0))) = second_respects same_call same_answer m n respects second (Read j.0) (Read k.0) (search (rules, same)) in
    let same : n (Read j.0) ≡ n (Read k.0) = search (rules, told) in
    is n second ∙ ap length same
