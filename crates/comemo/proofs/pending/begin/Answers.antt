use Rattle.std.proofs.Common.{refl}
use Rattle.comemo_cache.proofs.Holding.{held_map}
use Rattle.comemo.proofs.pending.begin.Goals as goal

pub returns-in-Ok-Run-clause-run : goal.returns-in-Ok-Run-clause-run
returns-in-Ok-Run-clause-run g c =
    let run = rw (c.in-Ok-Run.is, c.in-Ok-Run.field-0-is) at c.look_up.ensures.run in (
      held_map (g.H.Hold.entries c.args.cache.now) _ _ (λ es has. record {
        has_key = has.has_key;
        right = has.right;
        named = has.named;
        is_enabled = refl;
        pairs = c.new.ensures.pairs;
        writes = c.new.ensures.writes;
        complete = c.new.ensures.complete;
        early = c.new.ensures.late;
        none = has.none;
      }) run.0,
      run.1,
      run.2,
      run.3,
    )
