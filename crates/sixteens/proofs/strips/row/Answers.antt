-- `strips::row` meets its contract: each turn lays one sample more of each strip, and adds their parts, which are small.
use Rattle.std.proofs.Common.{ℕ, ◌+◌, ap₂, ◌∙◌, arith}
use Rattle.rfc6386.specs.Clips.{clip_at}
use Rattle.rfc6386.proofs.Laws.Sums.{sum_add}
use Rattle.rfc6386.specs.declared.Clip.{Clip}
use Rattle.steps.specs.Taps.{signed_taps}
use Rattle.steps.proofs.Laws.Twofold.{twice_none, twice_more}
use Rattle.steps.proofs.Laws.Tallies.{part_le, tallying_none, tallying_more, tallying_room, tallying_all}
use Rattle.sixteens.proofs.strips.row.Goals as goal

pub loop-c-init : goal.loop-c-init
loop-c-init c = (twice_none, tallying_none)

pub overflow_add-tally-in-loop-c : goal.overflow_add-tally-in-loop-c
overflow_add-tally-in-loop-c c =
    let a = c.args in
    let left : ℕ → Clip = λ i. clip_at (signed_taps a.t) a.left.now (a.l.at + i) a.l.pitch in
    let right : ℕ → Clip = λ i. clip_at (signed_taps a.t) a.right.now (a.r.at + i) a.r.pitch in
    omega (
      arith,
      tallying_room 1026 (λ i. omega (arith, part_le (left i), part_le (right i))) c.loop-c.invariant.1
          (ap₂ ◌+◌ c.counted_at-s.ensures.part_value c.counted_at-z.ensures.part_value),
      c.loop-c-test.true,
    )

pub loop-c-preserved : goal.loop-c-preserved
loop-c-preserved c =
    let l = c.loop-c in
    let s = c.counted_at-s.ensures in
    let z = c.counted_at-z.ensures in (
      twice_more l.invariant.0 (omega arith) (omega (arith, c.requires)) c.loop-c-test.true s.sample_value z.sample_value,
      tallying_more l.invariant.1 (ap₂ ◌+◌ s.part_value z.part_value),
    )

pub returns-clause-value : goal.returns-clause-value
returns-clause-value c =
    let l = c.loop-c in
    tallying_all l.invariant.1 (omega (arith, l.invariant.0.most, c.loop-c-test.false)) ∙ sum_add 8 _ _
