use Rattle.std.proofs.Common.{rules, IfSome, ◌++◌, ◌≡◌, ◌<◌, length, drop, false, ap, subst}
use Rattle.std.specs.Io.{StopsAt}
use Rattle.std.specs.Io.KnownBytes.{Consumes}
use Rattle.std.specs.Io.BufRead.{ends_with_byte, take_through}
use Rattle.calc_lines.proofs.Cut.{clear_of, line_taken, whole_line_taken}
use Rattle.calc_lines.proofs.input.next_line.Goals as goal
use Rattle.calc_lines.proofs.input.next_line.Goals.{in_default-via-in-Ok+in_default, in_default-via-in-Err+else-not-is_ended}

pub returns-in-Err-clause-begun : goal.returns-in-Err-clause-begun
returns-in-Err-clause-begun g c =
    let read = c.read_until.new.buf.items in
    let all = ap (λ old. drop (length old) read) c.clear.ensures.items in
    let none : ends_with_byte 10 read ≡ false = search rules in
    (read, clear_of read (subst (λ l. StopsAt l 10) all c.read_until.ensures.stops) none, subst (Consumes _ _) all c.read_until.ensures.none_lost)

pub returns-in_default-clause-line : goal.returns-in_default-clause-line
returns-in_default-clause-line g c = λ _.
    let read = c.read_until.new.buf.items in
    let all = ap (λ old. drop (length old) read) c.clear.ensures.items in
    elim c.in_default.branch [
      | in_default-via-in-Ok+in_default w ↦
          let some : 0 < length read = search rules in
          line_taken _ _ read _ some (subst (λ old. IfSome (g.R.Read.remaining c.args.reader.now) (λ bytes. read ≡ old ++ take_through 10 bytes)) c.clear.ensures.items w.in_default.ensures.bytes) w.in_default.ensures.rest c.drop_line_end.ensures
      | in_default-via-in-Err+else-not-is_ended w ↦
          whole_line_taken _ _ read _ (subst (Consumes _ _) all c.read_until.ensures.none_lost) (subst (λ l. StopsAt l 10) all c.read_until.ensures.stops) (search rules) c.drop_line_end.ensures
    ]
