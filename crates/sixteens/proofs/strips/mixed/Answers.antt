-- `strips::mixed` meets its contract: each turn lays one row more of both strips, and a line goes down them.
use Rattle.std.proofs.Common.{◌+◌, refl, arith}
use Rattle.steps.proofs.Laws.Mixing.{middle}
use Rattle.steps.proofs.Laws.Samples.{mixed_sample}
use Rattle.sixteens.proofs.Halves.{strips_none, strips_more, strips_mixed, strips_as}
use Rattle.sixteens.proofs.strips.mixed.Goals as goal

pub loop-q-init : goal.loop-q-init
loop-q-init c = (omega arith, strips_none refl)

pub loop-q-preserved : goal.loop-q-preserved
loop-q-preserved c =
    (omega arith, strips_more c.loop-q.invariant.1 (omega (arith, c.args.pair.few, c.loop-q-test.true)) c.mix_rows.ensures)

pub returns : goal.returns
returns c =
    let a = c.args in
    let tx = c.taps_of-tx in
    let ty = c.taps_of-ty in
    let ex = tx.ensures in
    let ey = ty.ensures in
    let hx = middle a.way.mx tx.result c.args.way.across ex in
    let hy = middle a.way.my ty.result c.args.way.down ey in
    let m = strips_as {rows' = a.pair.rows + 1} c.loop-q.invariant.1 (omega (arith, c.loop-q.invariant.0, c.loop-q-test.false)) (λ r k. refl) (λ r k. refl) in
    strips_as (strips_mixed ty.result m refl (omega (arith, c.args.pair.few)) c.mix_line.ensures) refl
    (λ r k. mixed_sample a.pair.left.now a.pair.l.at a.pair.l.pitch a.pair.left_bytes tx.result ty.result a.way.mx a.way.my hx hy ex ey r k)
    (λ r k. mixed_sample a.pair.right.now a.pair.r.at a.pair.r.pitch a.pair.right_bytes tx.result ty.result a.way.mx a.way.my hx hy ex ey r k)
