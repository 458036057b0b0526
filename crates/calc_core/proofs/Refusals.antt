-- A command that failed to allocate a text doesn't change the texts.
use Rattle.std.proofs.Common.{◌≢◌, Result, Ok, Err, OnErr, refl}
use Rattle.calc_core.specs.Requests.{Request}
use Rattle.calc_core.specs.declared.commands.answer.Answer.{Answer}
use Rattle.calc_core.specs.declared.commands.answer.Answer.TheVariants as answer
use Rattle.calc_core.specs.Files.{Texts}
use Rattle.calc_core.specs.Sessions.{Same, Answers, written, value, too_deep, bytes_at, evicted, no_memory}

pub texts_stay : {before after : Texts} {request : Request} {reply : Answer} → Answers before request reply after → reply ≢ answer.Written → Same before after
texts_stay (written changed) not = absurd (not refl)
texts_stay (value is low same) not = same
texts_stay (too_deep deep same) not = same
texts_stay (bytes_at bytes same) not = same
texts_stay (evicted same) not = same
texts_stay (no_memory same) not = same

pub kept_on_err : {T E : Type 0} {before after : Texts} {request : Request} {reply : Answer} (r : Result T E) → Answers before request reply after → OnErr r ((reply ≢ answer.Written) × (reply ≢ answer.Evicted)) → OnErr r (Same before after)
kept_on_err (Ok x) a n = tt
kept_on_err (Err x) a n = texts_stay a n.0
