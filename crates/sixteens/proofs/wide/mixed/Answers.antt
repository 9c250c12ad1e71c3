-- `wide::mixed` meets its contract: each turn lays four rows more of both passes, and keeps the last of the first for the next turn.
use Rattle.std.proofs.Common.{◌≡◌, ◌+◌, ◌*◌, refl, ◌∙◌, arith}
use Rattle.rfc6386.specs.declared.FilterSet.TheVariants.{Bilinear}
use Rattle.steps.proofs.Laws.Windows.{window_block_lem}
use Rattle.steps.proofs.Laws.Mixing.{middle}
use Rattle.steps.proofs.Laws.Samples.{mixed_sample}
use Rattle.sixteens.proofs.Calls.{copied_laid}
use Rattle.sixteens.proofs.Rolls.{five-next, five-step, mix_first, mix_more}
use Rattle.sixteens.proofs.Rows16.{filled_none, filled_more, filled-raster}
use Rattle.sixteens.proofs.wide.mixed.Goals as goal

pub loop-q-init : goal.loop-q-init
loop-q-init c =
    let w = c.args.halo.window in
    (refl, (mix_first c.taps_of-tx.result c.args.halo.src.now (w.at + 2 * w.pitch + 2) w.pitch _ refl c.mix_line.ensures, filled_none refl))

pub loop-q-preserved : goal.loop-q-preserved
loop-q-preserved c =
    let l = c.loop-q.invariant in
    let tx = c.taps_of-tx.result in
    let src = c.args.halo.src.now in
    let w = c.args.halo.window in
    let at = w.at + 2 * w.pitch + 2 in
    let four : c.loop-q.q * 4 + 4 ≡ (c.loop-q.q + 1) * 4 = omega arith in
    let three = mix_more tx src at w.pitch l.0 l.1.0 (omega arith) refl c.mix_rows.ensures in
    let five = mix_more tx src at w.pitch l.0 three (omega arith) refl c.mix_rows-in-loop-q.ensures in (
      l.0,
      rw (← four) (
        five-next five (copied_laid _ _ 64 16 c.copy_within.ensures.len c.copy_within.ensures.by_index.0 c.copy_within.ensures.by_index.2),
        filled_more 4 _ l.1.1 (omega (arith, c.loop-q-test.true)) c.mix_line-in-loop-q.ensures (λ q k hq hk. five-step c.taps_of-ty.result five q k hq hk),
      ),
    )

pub returns : goal.returns
returns c =
    let a = c.args in
    let tx = c.taps_of-tx in
    let ty = c.taps_of-ty in
    let ex = tx.ensures in
    let ey = ty.ensures in
    filled-raster c.loop-q.invariant.1.1 (omega (arith, c.loop-q-test.false))
    ∙ window_block_lem 16 Bilinear a.halo.src.now a.halo.window.at a.halo.window.pitch a.way.mx a.way.my _
    (λ r k hr hk.
    mixed_sample a.halo.src.now a.halo.window.at a.halo.window.pitch a.halo.bytes tx.result ty.result a.way.mx a.way.my
    (middle a.way.mx tx.result c.args.way.across ex) (middle a.way.my ty.result c.args.way.down ey) ex ey r k)
