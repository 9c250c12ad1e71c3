-- Six copies of the window's middle rows, and the first pass over them.
use Rattle.std.proofs.Common.{arith}
use Rattle.rfc6386.specs.declared.FilterSet.TheVariants.{Sixtap}
use Rattle.fours.proofs.Gathering.{alone_of, alone_fit, gathered_more}
use Rattle.fours.proofs.Passes.{laid_size, line_of, first, first_alone, block_of}
use Rattle.fours.proofs.Clipped.{first_alone_clips, tally_of_lem}
use Rattle.fours.proofs.tile.across.Goals as goal

pub loop-k-preserved : goal.loop-k-preserved
loop-k-preserved c = gathered_more c.loop-k.invariant (alone_fit (omega arith) (omega arith)) c.loop-k-test.true c.gather.ensures

pub returns : goal.returns
returns c =
    let a = c.args in
    let e = c.line.ensures in
    let ex = c.taps_of-t.ensures in
    let h = c.loop-k-test.false in
    record {
      value =
          block_of (laid_size _ 16 _ e.dst_after)
          (first_alone Sixtap a.view.src.now a.view.window.at a.view.window.pitch 4 0 4 4 (omega arith) _ a.way.mx ex _
          (first c.loop-k.invariant (alone_fit (omega arith) (omega arith)) h _ (line_of _ c.loop-k.a 16 16 _ _ (omega arith) e.dst_after)));
      tally_after =
          tally_of_lem 4 Sixtap a.view.src.now a.view.window.at a.view.window.pitch a.way.mx 0 _ c.loop-k.a 16 e.value
          (first_alone_clips Sixtap a.view.src.now a.view.window.at a.view.window.pitch a.view.bytes (alone_of 4 4 4 6) _ a.way.mx ex c.loop-k.a c.loop-k.invariant h);
    }
