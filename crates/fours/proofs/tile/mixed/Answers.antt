-- Two copies of the window's middle, and both passes of two taps over them.
use Rattle.std.proofs.Common.{refl, arith, ◌+◌, ◌*◌}
use Rattle.steps.proofs.Laws.Mixing.{middle}
use Rattle.fours.proofs.Gathering.{alone_of, alone_fit, Gathered, gathered_none, gathered_next}
use Rattle.fours.proofs.Passes.{laid_size, mixed_of, first_mixed, both_mixed, block_of}
use Rattle.fours.proofs.tile.mixed.Goals as goal

pub returns : goal.returns
returns c =
    let a = c.args in
    let tx = c.taps_of-tx.result in
    let ty = c.taps_of-ty.result in
    let ex = c.taps_of-tx.ensures in
    let ey = c.taps_of-ty.ensures in
    let e = c.mix_line-2.ensures in
    -- one of the two copies, and both
    let one : Gathered (alone_of 4 5 6 2) a.view.src.now (a.view.window.at + 2 * a.view.window.pitch + 2) a.view.window.pitch c.gather.new.a 1 =
    gathered_next (gathered_none refl) (alone_fit (omega arith) (omega arith)) (omega arith) 0 _ refl (omega arith) c.gather.ensures in
    let both : Gathered (alone_of 4 5 6 2) a.view.src.now (a.view.window.at + 2 * a.view.window.pitch + 2) a.view.window.pitch c.gather-2.new.a 2 =
    gathered_next one (alone_fit (omega arith) (omega arith)) (omega arith) 6 _ refl (omega arith) c.gather-2.ensures in
    block_of (laid_size _ 16 _ e)
    (both_mixed a.view.src.now a.view.window.at a.view.window.pitch 4 0 4 4 (omega arith) a.view.bytes
    tx ty a.way.mx a.way.my (middle a.way.mx tx c.args.way.across ex) (middle a.way.my ty c.args.way.down ey) ex ey
    (first_mixed both (alone_fit (omega arith) (omega arith)) (omega arith) tx (mixed_of tx c.gather-2.new.a 24 24 _ _ (omega arith) c.mix_line.ensures))
    (mixed_of ty c.mix_line.new.dst 4 16 _ _ (omega arith) e))
