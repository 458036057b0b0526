use Rattle.std.proofs.Common.{rules}
use Rattle.comemo_cache.proofs.explain.fn.note_agreeing.get.Goals as goal

pub returns : goal.returns
returns g c =
    record {
      answer = search rules;
      noted = ((c.in_ok-clone.field-0, c.in_ok-clone-2.field-0), search rules, search rules, search rules);
      same = search rules;
      name = search rules;
      notes_name = search rules;
    }
