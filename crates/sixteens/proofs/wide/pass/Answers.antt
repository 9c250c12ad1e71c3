-- `wide::pass` meets its contract: each turn lays one more row, and adds its tally.
use Rattle.std.proofs.Common.{◌+◌, ◌*◌, refl, arith}
use Rattle.rfc6386.specs.Clips.{clip_at}
use Rattle.steps.specs.Taps.{signed_taps}
use Rattle.steps.proofs.Laws.Tallies.{parts_le, tallying_none, tallying_more, tallying_room}
use Rattle.sixteens.proofs.Rows16.{filled_none, filled_row, filled-raster}
use Rattle.sixteens.proofs.wide.pass.Goals as goal

pub loop-r-init : goal.loop-r-init
loop-r-init c = (omega arith, (filled_none refl, tallying_none))

pub overflow_add-sum : goal.overflow_add-sum
overflow_add-sum c =
    let a = c.args in
    omega (
      arith,
      tallying_room 8208 (λ r. parts_le 16 (λ k. clip_at (signed_taps a.t) a.src.now (a.window.at + r * a.window.pitch + k) a.gap)) c.loop-r.invariant.1.1
          c.line.ensures.value,
      c.loop-r-test.true,
    )

pub loop-r-preserved : goal.loop-r-preserved
loop-r-preserved c =
    let l = c.loop-r.invariant in
    let e = c.line.ensures in
    (omega arith, (filled_row l.1.0 c.loop-r-test.true e.dst_after, tallying_more l.1.1 e.value))

pub returns-clause-value : goal.returns-clause-value
returns-clause-value c = filled-raster c.loop-r.invariant.1.0 c.loop-r-test.false
