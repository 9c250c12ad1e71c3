-- Six copies of each window's middle rows side by side, and the first pass over them.
use Rattle.std.proofs.Common.{refl, arith}
use Rattle.rfc6386.specs.declared.FilterSet.TheVariants.{Sixtap}
use Rattle.fours.proofs.Passes.{laid_size, line_of, first, first_alone}
use Rattle.fours.proofs.Pairs.{left_of, right_of, left_fit, right_fit, paired_more, pair_of}
use Rattle.fours.proofs.Clipped.{first_alone_clips, tallies_of}
use Rattle.fours.proofs.pair.across.Goals as goal

pub loop-k-preserved : goal.loop-k-preserved
loop-k-preserved c =
    paired_more c.loop-k.invariant (omega arith) (omega arith) c.loop-k-test.true _ _ refl (omega arith) refl _ (omega arith) c.gather.ensures

pub returns : goal.returns
returns c =
    let a = c.args in
    let g = c.loop-k in
    let h = c.loop-k-test.false in
    let ex = c.taps_of-t.ensures in
    let e = c.line.ensures in
    let o = line_of _ g.a 32 32 _ _ (omega arith) e.dst_after in
    record {
      value =
          pair_of (laid_size _ 32 _ e.dst_after)
          (first_alone Sixtap a.u.src.now a.u.window.at a.u.window.pitch 8 0 4 4 (omega arith) _ a.way.mx ex _
          (first g.invariant.left (left_fit (omega arith) (omega arith)) h _ o))
          (first_alone Sixtap a.v.src.now a.v.window.at a.v.window.pitch 8 4 4 4 (omega arith) _ a.way.mx ex _
          (first g.invariant.right (right_fit (omega arith) (omega arith)) h _ o));
      tally_after =
          tallies_of 4 Sixtap a.u.src.now a.u.window.at a.u.window.pitch a.v.src.now a.v.window.at a.v.window.pitch a.way.mx 0 _ g.a 32 e.value
          (first_alone_clips Sixtap a.u.src.now a.u.window.at a.u.window.pitch a.u.bytes (left_of 4 4 4 6) _ a.way.mx ex g.a g.invariant.left h)
          (first_alone_clips Sixtap a.v.src.now a.v.window.at a.v.window.pitch a.v.bytes (right_of 4 4 4 6) _ a.way.mx ex g.a g.invariant.right h);
    }
