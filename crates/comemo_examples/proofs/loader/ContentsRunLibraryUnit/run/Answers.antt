use Rattle.std.proofs.Common.{rules}
use Rattle.comemo_examples.specs.LoadLaws.{same_bytes}
use Rattle.comemo_examples.specs.declared.loader.LibraryCall.TheVariants.{Load}
use Rattle.comemo_examples.proofs.loader.ContentsRunLibraryUnit.run.Goals as goal

pub returns-clause-right : goal.returns-clause-right
returns-clause-right g c = λ m f. search (rules, same_bytes, f.respects (Load c.in_ok-clone.field-0) (Load c.args.path.now), c.in_ok-bytes.ensures.tells.told m f)
