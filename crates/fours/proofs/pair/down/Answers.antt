-- A copy of each window's middle columns side by side, and the second pass over them.
use Rattle.std.proofs.Common.{refl, arith, ◌+◌}
use Rattle.rfc6386.specs.declared.FilterSet.TheVariants.{Sixtap}
use Rattle.fours.proofs.Passes.{laid_size, line_of, copied, second_alone}
use Rattle.fours.proofs.Pairs.{left_fit, right_fit, Paired, paired_none, paired_more, pair_of}
use Rattle.fours.proofs.Clipped.{second_alone_clips, tallies_of}
use Rattle.fours.proofs.pair.down.Goals as goal

pub returns : goal.returns
returns c =
    let a = c.args in
    let ey = c.taps_of-t.ensures in
    let e = c.line.ensures in
    let m = c.gather.new.a in
    let o = line_of _ m 8 32 _ _ (omega arith) e.dst_after in
    let both : Paired 4 9 9 1 a.u.src.now (a.u.window.at + 2) a.u.window.pitch a.v.src.now (a.v.window.at + 2) a.v.window.pitch m 1 =
    paired_more (paired_none refl) (omega arith) (omega arith) (omega arith) 0 _ refl (omega arith) refl _ (omega arith) c.gather.ensures in
    let left = copied both.left (left_fit (omega arith) (omega arith)) (omega arith) in
    let right = copied both.right (right_fit (omega arith) (omega arith)) (omega arith) in
    record {
      value =
          pair_of (laid_size _ 32 _ e.dst_after)
          (second_alone Sixtap a.u.src.now a.u.window.at a.u.window.pitch 8 0 4 4 (omega arith) a.u.bytes _ a.way.my ey left o)
          (second_alone Sixtap a.v.src.now a.v.window.at a.v.window.pitch 8 4 4 4 (omega arith) a.v.bytes _ a.way.my ey right o);
      tally_after =
          tallies_of 4 Sixtap a.u.src.now a.u.window.at a.u.window.pitch a.v.src.now a.v.window.at a.v.window.pitch 0 a.way.my _ m 8 e.value
          (second_alone_clips Sixtap a.u.src.now a.u.window.at a.u.window.pitch a.u.bytes 8 0 4 4 _ a.way.my ey m left)
          (second_alone_clips Sixtap a.v.src.now a.v.window.at a.v.window.pitch a.v.bytes 8 4 4 4 _ a.way.my ey m right);
    }
