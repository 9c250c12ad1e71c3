-- `ring::two` meets its contract: each turn lays one row more of the first pass, in the place of the oldest, and one row more of the second.
use Rattle.std.proofs.Common.{List, ℕ, ◌+◌, ◌<◌, refl, ap, ap₂, ◌∙◌, arith}
use Rattle.rfc6386.specs.Clips.{step_clip}
use Rattle.rfc6386.proofs.Laws.Steps.{step_le}
use Rattle.rfc6386.proofs.Laws.Sums.{rows_ext}
use Rattle.rfc6386.specs.declared.FilterSet.TheVariants.{Sixtap}
use Rattle.steps.specs.Tally.{part}
use Rattle.steps.specs.Taps.{signed_taps}
use Rattle.steps.specs.Window.{along, six_down}
use Rattle.steps.proofs.Laws.Windows.{window_block_lem}
use Rattle.steps.proofs.Laws.Samples.{two_sample, two_clip}
use Rattle.steps.proofs.Laws.Tallies.{part_le, window_tally}
use Rattle.sixteens.proofs.Rolls.{rolling_more, rolling_down, ring_turned, ring_six_lem, ring_row}
use Rattle.sixteens.proofs.Rows16.{filled_none, filled_row, filled-raster}
use Rattle.sixteens.proofs.Lanes.{lanes_none, lanes_more, lanes_room, lanes_all}
use Rattle.sixteens.proofs.ring.two.Invariants.{clipped}
use Rattle.sixteens.proofs.ring.two.Goals as goal

pub loop-r-init : goal.loop-r-init
loop-r-init c =
    (record { a = refl; b = refl; c = refl; d = refl; e = refl; f = refl }, (c.first_five-m.ensures, (filled_none refl, (lanes_none refl, omega arith))))

pub ring_line-requires-clause-low : goal.ring_line-requires-clause-low
ring_line-requires-clause-low c =
    let l = c.loop-r.invariant in
    (rolling_more l.1.0 (omega arith) (λ q k. step_le _ _) l.0.f refl c.first_line.ensures).low

pub ring_line-requires-clause-roomy : goal.ring_line-requires-clause-roomy
ring_line-requires-clause-roomy c =
    let a = c.args in
    let ty = signed_taps c.taps_of-ty.result in
    let pass = along (signed_taps c.taps_of-tx.result) a.halo.src.now a.halo.window.at a.halo.window.pitch in
    lanes_room c.loop-r.invariant.1.1.1.0 (λ q k. omega (arith, part_le (step_clip ty (six_down pass q k)), part_le (step_clip ty (six_down pass q (8 + k))))) c.loop-r-test.true

pub loop-r-preserved : goal.loop-r-preserved
loop-r-preserved c =
    let l = c.loop-r.invariant in
    let h : c.loop-r.r < 16 = c.loop-r-test.true in
    let s = rolling_more l.1.0 (omega arith) (λ q k. step_le _ _) l.0.f refl c.first_line.ensures in
    let e = c.ring_line.ensures in
    let ty = signed_taps c.taps_of-ty.result in (
      ring_turned l.0 c.turned-ring.ensures,
      (
        rolling_down s,
        (
          filled_row l.1.1.0 h (ring_row ty l.0 s c.loop-r.out _ (omega (arith, l.1.1.0.size)) e.out_after),
          (
            lanes_more _ l.1.1.1.0 e.added
                (λ k m.
                ap₂ (λ (a b : List ℕ). part (step_clip ty a) + part (step_clip ty b)) (ring_six_lem l.0 s k (omega arith)) (ring_six_lem l.0 s (8 + k) (omega arith))),
            omega arith,
          ),
        ),
      ),
    )

pub returns-clause-value : goal.returns-clause-value
returns-clause-value c =
    let a = c.args in
    filled-raster c.loop-r.invariant.1.1.0 c.loop-r-test.false
    ∙ window_block_lem 16 Sixtap a.halo.src.now a.halo.window.at a.halo.window.pitch a.way.mx a.way.my _
    (λ r k hr hk. two_sample Sixtap a.halo.src.now a.halo.window.at a.halo.window.pitch _ _ a.way.mx a.way.my r k c.taps_of-tx.ensures c.taps_of-ty.ensures)

pub returns-clause-tally_after : goal.returns-clause-tally_after
returns-clause-tally_after c =
    let a = c.args in
    let l = c.loop-r.invariant in
    lanes_all (clipped _ _) l.1.1.1.0 (omega (arith, c.loop-r-test.false, l.1.1.1.1)) c.total.ensures
    ∙ rows_ext 16 16 _ _
    (λ r k hr hk.
    ap part
    (two_clip Sixtap a.halo.src.now a.halo.window.at a.halo.window.pitch _ _ a.way.mx a.way.my r k c.taps_of-tx.ensures c.taps_of-ty.ensures c.requires.le_my))
    ∙ window_tally 16 Sixtap a.halo.src.now a.halo.window.at a.halo.window.pitch a.way.mx a.way.my
