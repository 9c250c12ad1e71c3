-- `ring::ring_line` meets its contract: each turn lays two samples more, and adds their parts to one lane more.
use Rattle.std.proofs.Common.{◌+◌, ap₂, arith}
use Rattle.steps.proofs.Laws.Twofold.{twice_more}
use Rattle.sixteens.proofs.Lanes.{adding_more}
use Rattle.sixteens.proofs.ring.ring_line.Goals as goal

pub loop-c-preserved : goal.loop-c-preserved
loop-c-preserved c =
    let l = c.loop-c in
    let p = c.requires in
    let s = c.step_at-s.ensures in
    let z = c.step_at-z.ensures in (
      twice_more l.invariant.0 (omega arith) (omega (arith, p.to_in_bounds)) c.loop-c-test.true s.sample_value z.sample_value,
      adding_more l.invariant.1 (omega (arith, p.roomy.size)) (ap₂ ◌+◌ s.part_value z.part_value),
    )
