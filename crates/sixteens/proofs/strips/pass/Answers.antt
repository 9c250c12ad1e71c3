-- `strips::pass` meets its contract: each turn lays one row more of both strips, and adds their tallies.
use Rattle.std.proofs.Common.{◌+◌, ◌*◌, refl, ◌∙◌, arith}
use native.Mathlib.Nat.{le_antisymm}
use Rattle.rfc6386.specs.Clips.{clip_at}
use Rattle.rfc6386.proofs.Laws.Sums.{sum_add}
use Rattle.steps.specs.Taps.{signed_taps}
use Rattle.steps.proofs.Laws.Tallies.{parts_le, tallying_none, tallying_more, tallying_room, tallying_all}
use Rattle.sixteens.proofs.Halves.{strips_none, strips_more}
use Rattle.sixteens.proofs.strips.pass.Goals as goal

pub loop-q-init : goal.loop-q-init
loop-q-init c = (omega arith, (strips_none refl, tallying_none))

pub overflow_add-sum : goal.overflow_add-sum
overflow_add-sum c =
    let a = c.args in
    omega (
      arith,
      tallying_room 8208
          (λ i.
          omega (
            arith,
            parts_le 8 (λ k. clip_at (signed_taps a.t) a.left.now (a.l.at + i * a.l.pitch + k) a.l_gap),
            parts_le 8 (λ k. clip_at (signed_taps a.t) a.right.now (a.r.at + i * a.r.pitch + k) a.r_gap),
          ))
          c.loop-q.invariant.1.1 c.row.ensures.value,
      c.loop-q-test.true,
      c.requires.rows_bound,
    )

pub loop-q-preserved : goal.loop-q-preserved
loop-q-preserved c =
    let l = c.loop-q.invariant in
    let e = c.row.ensures in
    (omega arith, (strips_more l.1.0 (omega (arith, c.requires.rows_bound, c.loop-q-test.true)) e.out_after, tallying_more l.1.1 e.value))

pub returns-clause-tally_after : goal.returns-clause-tally_after
returns-clause-tally_after c =
    let l = c.loop-q.invariant in
    tallying_all l.1.1 (le_antisymm l.0 c.loop-q-test.false) ∙ sum_add c.args.rows _ _
