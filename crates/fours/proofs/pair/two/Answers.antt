-- Six copies of each window side by side, and both passes over them.
use Rattle.std.proofs.Common.{refl, arith}
use Rattle.rfc6386.specs.declared.FilterSet.TheVariants.{Sixtap}
use Rattle.fours.proofs.Passes.{laid_size, line_of, low_line, first, second}
use Rattle.fours.proofs.Pairs.{left_fit, right_fit, paired_more, pair_of}
use Rattle.fours.proofs.Clipped.{second_clips, tallies_of}
use Rattle.fours.proofs.pair.two.Goals as goal

pub loop-k-preserved : goal.loop-k-preserved
loop-k-preserved c =
    paired_more c.loop-k.invariant (omega arith) (omega arith) c.loop-k-test.true _ _ refl refl c.copy_rect.ensures _ refl c.copy_rect-in-loop-k.ensures

pub last_line-requires-clause-low : goal.last_line-requires-clause-low
last_line-requires-clause-low c =
    low_line (line_of _ c.loop-k.a 80 80 _ _ (omega arith) c.first_line.ensures) (omega (arith, laid_size _ 80 _ c.first_line.ensures))

pub returns : goal.returns
returns c =
    let a = c.args in
    let h = c.loop-k-test.false in
    let ex = c.taps_of-tx.ensures in
    let ey = c.taps_of-ty.ensures in
    let e = c.last_line.ensures in
    let m = c.first_line.new.dst in
    let z = line_of _ c.loop-k.a 80 80 _ _ (omega arith) c.first_line.ensures in
    let o = line_of _ m 8 32 _ _ (omega arith) e.dst_after in
    let left = first c.loop-k.invariant.left (left_fit (omega arith) (omega arith)) h _ z in
    let right = first c.loop-k.invariant.right (right_fit (omega arith) (omega arith)) h _ z in
    record {
      value =
          pair_of (laid_size _ 32 _ e.dst_after)
          (second Sixtap a.u.src.now a.u.window.at a.u.window.pitch 8 0 4 4 (omega arith) _ _ a.way.mx a.way.my ex ey left o)
          (second Sixtap a.v.src.now a.v.window.at a.v.window.pitch 8 4 4 4 (omega arith) _ _ a.way.mx a.way.my ex ey right o);
      tally_after =
          tallies_of 4 Sixtap a.u.src.now a.u.window.at a.u.window.pitch a.v.src.now a.v.window.at a.v.window.pitch a.way.mx a.way.my _ m 8 e.value
          (second_clips Sixtap a.u.src.now a.u.window.at a.u.window.pitch 8 0 4 4 _ _ a.way.mx a.way.my ex ey c.requires.le_my m left)
          (second_clips Sixtap a.v.src.now a.v.window.at a.v.window.pitch 8 4 4 4 _ _ a.way.mx a.way.my ex ey c.requires.le_my m right);
    }
