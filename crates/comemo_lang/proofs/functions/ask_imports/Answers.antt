use Rattle.std.proofs.Common.{◌∙◌, ap, rules}
use Rattle.std.specs.List.{flat_map}
use Rattle.std.proofs.lemmas.List.{take_all}
use Rattle.comemo.proofs.Recursions.{tells_then}
use Rattle.comemo_lang.specs.Checking.{imported}
use Rattle.comemo_lang.specs.Questions.{asked_exports}
use Rattle.comemo_lang.proofs.Lists.{flat_map_next}
use Rattle.comemo_lang.proofs.functions.ask_imports.Goals as goal

pub loop-declaration-preserved : goal.loop-declaration-preserved
loop-declaration-preserved c = tells_then c.loop-declaration.invariant c.in_ok-ask_import.ensures (λ m f before told.
    search (rules, before, told, flat_map_next (imported (asked_exports m)) c.args.declarations.now c.loop-declaration.declaration-index c.declaration-item.result))

pub returns : goal.returns
returns c =
    let k = c.loop-declaration.invariant in
    record {
      same_value = k.same_value;
      before = k.before;
      told = λ m f. k.told m f ∙ ap (flat_map (imported (asked_exports m))) (take_all c.loop-declaration.declaration-index c.args.declarations.now c.loop-declaration-test.false);
      complete = k.complete;
      fault = tt;
    }
