use Rattle.std.proofs.Common.{arith}
use Rattle.comemo_sheet.proofs.Before.{fib_from_before}
use Rattle.comemo_sheet.proofs.fibonacci.+numbered.Goals as goal

pub finish-requires-clause-right : goal.finish-requires-clause-right
finish-requires-clause-right g t c = λ m f.
    omega (arith, fib_from_before c.args.place c.if-place-lt2.false, c.in_ok-other.ensures.told m f, c.in_ok-one.ensures.told m (c.in_ok-other.ensures.before m f))
