use Rattle.std.proofs.Common.{◌∙◌, sym}
use Rattle.std.proofs.lemmas.List.{get_or_default}
use Rattle.comemo_site.proofs.publish.fn.fill.for_each_mut.Goals as goal

pub returns : goal.returns
returns g c = record {
  published = λ d. rw (get_or_default c.captures.names.now c.args.i d c.index-names-i.result c.requires ∙ sym c.index-names-i.is) c.publish_shared.ensures.published;
  stays = λ d. rw (get_or_default c.captures.names.now c.args.i d c.index-names-i.result c.requires ∙ sym c.index-names-i.is) c.publish_shared.ensures.stays;
}
