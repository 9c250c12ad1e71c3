-- One copy of the window's middle columns, and the second pass over it.
use Rattle.std.proofs.Common.{refl, arith, ◌+◌}
use Rattle.rfc6386.specs.declared.FilterSet.TheVariants.{Sixtap}
use Rattle.fours.proofs.Gathering.{alone_of, alone_fit, Gathered, gathered_none, gathered_next}
use Rattle.fours.proofs.Passes.{laid_size, line_of, copied, second_alone, block_of}
use Rattle.fours.proofs.Clipped.{second_alone_clips, tally_of_lem}
use Rattle.fours.proofs.tile.down.Goals as goal

pub returns : goal.returns
returns c =
    let a = c.args in
    let e = c.line.ensures in
    let ey = c.taps_of-t.ensures in
    let z = c.gather.new.a in
    let one : Gathered (alone_of 4 9 9 1) a.view.src.now (a.view.window.at + 2) a.view.window.pitch z 1 =
    gathered_next (gathered_none refl) (alone_fit (omega arith) (omega arith)) (omega arith) 0 _ refl (omega arith) c.gather.ensures in
    let columns = copied one (alone_fit (omega arith) (omega arith)) (omega arith) in
    record {
      value =
          block_of (laid_size _ 16 _ e.dst_after)
          (second_alone Sixtap a.view.src.now a.view.window.at a.view.window.pitch 4 0 4 4 (omega arith) a.view.bytes
          _ a.way.my ey columns (line_of _ z 4 16 _ _ (omega arith) e.dst_after));
      tally_after =
          tally_of_lem 4 Sixtap a.view.src.now a.view.window.at a.view.window.pitch 0 a.way.my _ z 4 e.value
          (second_alone_clips Sixtap a.view.src.now a.view.window.at a.view.window.pitch a.view.bytes 4 0 4 4 _ a.way.my ey z columns);
    }
