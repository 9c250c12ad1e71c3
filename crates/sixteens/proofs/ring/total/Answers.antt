-- `ring::total` meets its contract: a lane is one more of what is added up, and of sixteen bits.
use Rattle.std.proofs.Common.{refl, arith}
use Rattle.steps.proofs.Laws.Tallies.{tallying_none, tallying_more}
use Rattle.sixteens.proofs.ring.total.Goals as goal

pub loop-lane-init : goal.loop-lane-init
loop-lane-init c = (omega arith, (omega arith, tallying_none))

pub loop-lane-preserved : goal.loop-lane-preserved
loop-lane-preserved c =
    let l = c.loop-lane in
    (omega arith, (omega (arith, l.invariant.1.0, c.type_inv.lanes l.lane-index), tallying_more l.invariant.1.1 refl))
