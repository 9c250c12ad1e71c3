-- Six copies of the window, and both passes over them.
use Rattle.std.proofs.Common.{refl, arith}
use Rattle.rfc6386.specs.declared.FilterSet.TheVariants.{Sixtap}
use Rattle.fours.proofs.Gathering.{alone_fit, gathered_next}
use Rattle.fours.proofs.Passes.{laid_size, line_of, low_line, first, second, block_of}
use Rattle.fours.proofs.Clipped.{second_clips, tally_of_lem}
use Rattle.fours.proofs.tile.two.Goals as goal

pub loop-k-preserved : goal.loop-k-preserved
loop-k-preserved c = gathered_next c.loop-k.invariant (alone_fit (omega arith) (omega arith)) c.loop-k-test.true _ _ refl (omega arith) c.gather.ensures

pub last_line-requires-clause-low : goal.last_line-requires-clause-low
last_line-requires-clause-low c =
    low_line (line_of _ c.loop-k.a 40 40 _ _ (omega arith) c.first_line.ensures) (omega (arith, laid_size _ 40 _ c.first_line.ensures))

pub returns : goal.returns
returns c =
    let a = c.args in
    let e = c.last_line.ensures in
    let ex = c.taps_of-tx.ensures in
    let ey = c.taps_of-ty.ensures in
    let z = c.first_line.new.dst in
    let rows = first c.loop-k.invariant (alone_fit (omega arith) (omega arith)) c.loop-k-test.false _ (line_of _ c.loop-k.a 40 40 _ _ (omega arith) c.first_line.ensures) in
    record {
      value =
          block_of (laid_size _ 16 _ e.dst_after)
          (second Sixtap a.view.src.now a.view.window.at a.view.window.pitch 4 0 4 4 (omega arith) _ _ a.way.mx a.way.my ex ey rows
          (line_of _ z 4 16 _ _ (omega arith) e.dst_after));
      tally_after =
          tally_of_lem 4 Sixtap a.view.src.now a.view.window.at a.view.window.pitch a.way.mx a.way.my _ z 4 e.value
          (second_clips Sixtap a.view.src.now a.view.window.at a.view.window.pitch 4 0 4 4 _ _ a.way.mx a.way.my ex ey c.requires.le_my z rows);
    }
