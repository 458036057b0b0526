use Rattle.std.proofs.Common.{rules, ◌≡◌, length}
use Rattle.std.proofs.Math.Seq.{take-append_seam}
use Rattle.comemo_site.proofs.publish.publish_all.Goals as goal

pub returns : goal.returns
returns g c =
    let len : length c.fill.new.pages ≡ c.resize_with.new.self.len = search (rules, c.fill.ensures.len, c.as_mut_slice.ensures, c.in_ok-resize_with.ensures) in
    record {
      published = λ i d e h. rw (← len, take-append_seam c.fill.new.pages) (c.fill.ensures.published i d e h);
      stays = λ i d e h. rw (← len, take-append_seam c.fill.new.pages) (c.fill.ensures.stays i d e h);
    }
