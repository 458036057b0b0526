-- A list of requests and their answers, with one more.
use Rattle.std.proofs.Common.{◌≡◌, ◌∙◌, ◌<◌, ◌+◌, ℕ, List, [], ◌∷◌, ◌++◌, length, map, take, get_or, sym, ap, subst}
use Rattle.std.proofs.lemmas.List.{map-append, take_more}
use Rattle.std.proofs.lemmas.List.Elements.{All-nil}
use Rattle.calc_core.specs.Requests.{Request, write, eval, size, evict, request_of}
use Rattle.calc_core.specs.declared.commands.command.Command.{Command}
use Rattle.calc_core.specs.declared.commands.answer.Answer.{Answer}
use Rattle.calc_core.specs.declared.commands.answer.Answer.TheVariants as answer
use Rattle.calc_core.specs.Evaluations.{Outcomes}
use Rattle.calc_core.specs.Files.{Texts}
use Rattle.calc_core.specs.Sessions.{Answers}
use Rattle.calc_core.specs.Remembered.{Past, Recalls, remembered, AnswersEach, none_asked, one_asked, IsKept, Knows}
use Rattle.calc_core.proofs.Recalling.{recalls_memory}

pub one_more : {past left : List Past} {before mid after : Texts} {requests : List Request} {replies : List Answer} {request : Request} {reply : Answer} → AnswersEach past before requests replies mid left → Answers mid request reply after → Recalls left mid request reply → AnswersEach past before (requests ++ request ∷ []) (replies ++ reply ∷ []) after (remembered left mid request reply)
one_more none_asked a r = one_asked a r none_asked
one_more (one_asked first recalls rest) a r = one_asked first recalls (one_more rest a r)

pub next_command : {past left : List Past} {before mid after : Texts} (commands : List Command) (i : ℕ) (command : Command) {replies all : List Answer} {reply : Answer} → i < length commands → command ≡ get_or commands i command → all ≡ replies ++ reply ∷ [] → AnswersEach past before (map request_of (take i commands)) replies mid left → Answers mid (request_of command) reply after → Recalls left mid (request_of command) reply → AnswersEach past before (map request_of (take (i + 1) commands)) all after (remembered left mid (request_of command) reply)
next_command {past = past} {left = left} {before = before} {mid = mid} {after = after} commands i command {all = all} {reply = reply} low is complete h a r =
    let taken : map request_of (take (i + 1) commands) ≡ map request_of (take i commands) ++ request_of command ∷ [] = ap (map request_of) (take_more commands i command low) ∙ map-append request_of (take i commands) _ ∙ ap (λ x. map request_of (take i commands) ++ request_of x ∷ []) (sym is) in
    let kept = remembered left mid (request_of command) reply in
    subst (λ xs. AnswersEach past before xs all after kept) (sym taken) (subst (λ ys. AnswersEach past before (map request_of (take i commands) ++ request_of command ∷ []) ys after kept) (sym complete) (one_more h a r))

-- nothing is remembered yet
pub knows_nothing : (es : Outcomes) → Knows [] es
knows_nothing es = All-nil (IsKept es)

-- where there was no memory, what was remembered is
pub after_memory : (past : List Past) (texts : Texts) (request : Request) (es : Outcomes) → Knows past es → Recalls past texts request answer.Memory × Knows (remembered past texts request answer.Memory) es
after_memory past texts (write path text) es knows = (tt, knows)
after_memory past texts (eval script) es knows = (recalls_memory past texts script, knows)
after_memory past texts (size path) es knows = (tt, knows)
after_memory past texts (evict max_age) es knows = (tt, knows_nothing es)
