-- Two copies of each window's middle side by side, and both passes of two taps over them.
use Rattle.std.proofs.Common.{refl, arith, ◌+◌, ◌*◌}
use Rattle.steps.proofs.Laws.Mixing.{middle}
use Rattle.fours.proofs.Passes.{laid_size, mixed_of, first_mixed, both_mixed}
use Rattle.fours.proofs.Pairs.{left_fit, right_fit, Paired, paired_none, paired_more, pair_of}
use Rattle.fours.proofs.pair.mixed.Goals as goal

pub returns : goal.returns
returns c =
    let a = c.args in
    let u = a.u.window in
    let v = a.v.window in
    let tx = c.taps_of-tx.result in
    let ty = c.taps_of-ty.result in
    let ex = c.taps_of-tx.ensures in
    let ey = c.taps_of-ty.ensures in
    let mx = middle a.way.mx tx c.args.way.across ex in
    let my = middle a.way.my ty c.args.way.down ey in
    let e = c.mix_line-2.ensures in
    let z = mixed_of tx c.gather-2.new.a 48 48 _ _ (omega arith) c.mix_line.ensures in
    let o = mixed_of ty c.mix_line.new.dst 8 32 _ _ (omega arith) e in
    -- one copy of each window, and both
    let one : Paired 4 5 6 2 a.u.src.now (u.at + 2 * u.pitch + 2) u.pitch a.v.src.now (v.at + 2 * v.pitch + 2) v.pitch c.gather.new.a 1 =
    paired_more (paired_none refl) (omega arith) (omega arith) (omega arith) 0 _ refl (omega arith) refl _ (omega arith) c.gather.ensures in
    let two : Paired 4 5 6 2 a.u.src.now (u.at + 2 * u.pitch + 2) u.pitch a.v.src.now (v.at + 2 * v.pitch + 2) v.pitch c.gather-2.new.a 2 =
    paired_more one (omega arith) (omega arith) (omega arith) 6 _ refl (omega arith) refl _ (omega arith) c.gather-2.ensures in
    pair_of (laid_size _ 32 _ e)
    (both_mixed a.u.src.now u.at u.pitch 8 0 4 4 (omega arith) a.u.bytes
    tx ty a.way.mx a.way.my mx my ex ey (first_mixed two.left (left_fit (omega arith) (omega arith)) (omega arith) tx z) o)
    (both_mixed a.v.src.now v.at v.pitch 8 4 4 4 (omega arith) a.v.bytes
    tx ty a.way.mx a.way.my mx my ex ey (first_mixed two.right (right_fit (omega arith) (omega arith)) (omega arith) tx z) o)
