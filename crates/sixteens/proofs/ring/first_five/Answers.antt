-- `ring::first_five` meets its contract: each turn lays one more row of bytes.
use Rattle.std.proofs.Common.{◌<◌, refl, arith}
use Rattle.rfc6386.proofs.Laws.Steps.{step_le}
use Rattle.sixteens.proofs.Rolls.{rolling_none, rolling_more, low_zeros}
use Rattle.sixteens.proofs.ring.first_five.Goals as goal

pub loop-r-init : goal.loop-r-init
loop-r-init c = (omega arith, rolling_none refl (low_zeros 96 refl))

pub loop-r-preserved : goal.loop-r-preserved
loop-r-preserved c =
    let h : c.loop-r.r < 5 = c.loop-r-test.true in
    (omega arith, rolling_more c.loop-r.invariant.1 (omega arith) (λ q k. step_le _ _) (omega arith) (omega arith) c.first_line.ensures)
