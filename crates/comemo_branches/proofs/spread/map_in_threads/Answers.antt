use Rattle.std.proofs.Common.{rules, ◌≡◌, length}
use Rattle.std.proofs.Math.Seq.{take-append_seam}
use Rattle.comemo_branches.proofs.spread.map_in_threads.Goals as goal

pub join_each-requires : goal.join_each-requires
join_each-requires g c =
    let len : length c.run_branches.new.ended ≡ c.resize_with.new.self.len = search (rules, c.run_branches.ensures.len, c.as_mut_slice.ensures, c.in_ok-resize_with.ensures) in
    record {
      len = search (rules, len, c.run_branches.ensures.len, c.as_mut_slice.ensures, c.in_ok-resize_with.ensures);
      ran = λ i d e h. rw (← len, take-append_seam c.run_branches.new.ended) (c.run_branches.ensures.ran i d e h);
      keeps = c.requires.keeps;
    }
