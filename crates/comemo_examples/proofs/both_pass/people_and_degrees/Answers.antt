use Rattle.std.proofs.Common.{◌∙◌, rules}
use Rattle.comemo_examples.proofs.both_pass.people_and_degrees.Goals as goal

pub returns : goal.returns
returns c =
    let people = c.in_ok-people.ensures.tells in
    let degrees = c.in_ok-degrees.ensures.tells in
    record {
      same_value = degrees.same_value ∙ people.same_value;
      before = λ m f. people.before m (degrees.before m f);
      told = λ m f. search (rules, degrees.told m f, people.told m (degrees.before m f));
      complete = degrees.complete ∙ people.complete;
      fault = tt;
    }
