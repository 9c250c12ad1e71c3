-- `ring::total`: the loop adds a lane a turn.
use Rattle.std.proofs.Common.{◌*◌, ◌≤◌, get_or}
use Rattle.steps.proofs.Laws.Tallies.{Tallying}
use Rattle.sixteens.proofs.ring.total.Given as goal

abbrev pub invariant-loop-lane : goal.invariant-loop-lane
invariant-loop-lane l = (l.lane-index ≤ 8) × ((l.sum ≤ l.lane-index * 65535) × Tallying (λ c. get_or l.lanes c 0) l.lane-index l.sum)
