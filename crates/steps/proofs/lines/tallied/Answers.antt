-- The loop lays the samples and adds up their parts, one a turn, by the laws of `Laying` and `Tallying`.
use Rattle.std.proofs.Common.{arith}
use Rattle.steps.proofs.Laws.Copying.{laying_none, laying_more, laying_all}
use Rattle.steps.proofs.Laws.Tallies.{tallying_none, tallying_more, tallying_all}
use Rattle.steps.proofs.lines.tallied.Goals as goal

pub loop-i-init : goal.loop-i-init
loop-i-init g c = record { least = omega arith; laying = λ f k. laying_none; tallying = λ h k. tallying_none }

pub overflow_add-tally : goal.overflow_add-tally
overflow_add-tally g c = omega (arith, c.requires.parts c.loop-i.i c.loop-i-test.true c.step-s.result c.step-s.ensures)

pub loop-i-preserved : goal.loop-i-preserved
loop-i-preserved g c =
    let h = c.loop-i-test.true in
    record {
      least = omega (arith, c.requires.parts c.loop-i.i c.loop-i-test.true c.step-s.result c.step-s.ensures);
      laying = λ f k. laying_more (c.loop-i.invariant.laying f k) c.requires.n_in_bounds h (k c.loop-i.i h c.step-s.result c.step-s.ensures);
      tallying = λ f k. tallying_more (c.loop-i.invariant.tallying f k) (k c.loop-i.i h c.step-s.result c.step-s.ensures);
    }

pub returns-clause-dst_after : goal.returns-clause-dst_after
returns-clause-dst_after g c = λ f k. laying_all (c.loop-i.invariant.laying f k) c.loop-i-test.false

pub returns-clause-value : goal.returns-clause-value
returns-clause-value g c = λ f k. tallying_all (c.loop-i.invariant.tallying f k) (omega arith)
