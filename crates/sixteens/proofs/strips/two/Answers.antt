-- `strips::two` meets its contract: each turn lays one row more of both strips, and two lines go down them.
use Rattle.std.proofs.Common.{◌+◌, refl, ap₂, ◌∙◌, arith, rules}
use Rattle.rfc6386.proofs.Laws.Steps.{step_le}
use Rattle.rfc6386.specs.declared.FilterSet.TheVariants.{Sixtap}
use Rattle.steps.proofs.Laws.Samples.{two_sample, two_clip}
use Rattle.steps.proofs.Laws.Tallies.{strip_ext}
use Rattle.sixteens.proofs.Calls.{two_laid}
use Rattle.sixteens.proofs.Halves.{strips_none, strips_more, strips_low, strips_down, strips_tally, strips_as}
use Rattle.sixteens.proofs.strips.two.Goals as goal

pub loop-q-init : goal.loop-q-init
loop-q-init c = (omega arith, strips_none refl)

pub loop-q-preserved : goal.loop-q-preserved
loop-q-preserved c =
    (omega arith, strips_more c.loop-q.invariant.1 (omega (arith, c.args.pair.few, c.loop-q-test.true)) (two_laid c.lay_two.ensures (omega arith) (λ k v h p. search rules) (λ k v h p. search rules)))

pub last_line-upper-requires-clause-low : goal.last_line-upper-requires-clause-low
last_line-upper-requires-clause-low c = strips_low c.loop-q.invariant.1 (λ r k. step_le _ _) (λ r k. step_le _ _)

pub last_line-lower-requires-clause-low : goal.last_line-lower-requires-clause-low
last_line-lower-requires-clause-low c = strips_low c.loop-q.invariant.1 (λ r k. step_le _ _) (λ r k. step_le _ _)

pub returns-clause-strips : goal.returns-clause-strips
returns-clause-strips c =
    let a = c.args in
    let ex = c.taps_of-tx.ensures in
    let ey = c.taps_of-ty.ensures in
    let m = strips_as {rows' = a.pair.rows + 5} c.loop-q.invariant.1 (omega (arith, c.loop-q.invariant.0, c.loop-q-test.false)) (λ r k. refl) (λ r k. refl) in
    strips_as
    (strips_down a.pair.rows m _ _ _ refl (omega (arith, c.args.pair.few)) c.last_line-upper.ensures.dst_after c.last_line-lower.ensures.dst_after) refl
    (λ r k. two_sample Sixtap a.pair.left.now a.pair.l.at a.pair.l.pitch _ _ a.way.mx a.way.my r k ex ey)
    (λ r k. two_sample Sixtap a.pair.right.now a.pair.r.at a.pair.r.pitch _ _ a.way.mx a.way.my r k ex ey)

pub returns-clause-tally_after : goal.returns-clause-tally_after
returns-clause-tally_after c =
    let a = c.args in
    let ex = c.taps_of-tx.ensures in
    let ey = c.taps_of-ty.ensures in
    let h = c.requires.le_my in
    let m = strips_as {rows' = a.pair.rows + 5} c.loop-q.invariant.1 (omega (arith, c.loop-q.invariant.0, c.loop-q-test.false)) (λ r k. refl) (λ r k. refl) in
    strips_tally a.pair.rows m _ c.last_line-upper.ensures.value c.last_line-lower.ensures.value
    ∙ ap₂ ◌+◌
    (strip_ext a.pair.rows (λ r k. two_clip Sixtap a.pair.left.now a.pair.l.at a.pair.l.pitch _ _ a.way.mx a.way.my r k ex ey h))
    (strip_ext a.pair.rows (λ r k. two_clip Sixtap a.pair.right.now a.pair.r.at a.pair.r.pitch _ _ a.way.mx a.way.my r k ex ey h))
