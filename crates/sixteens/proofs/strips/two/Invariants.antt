-- `strips::two`: the loop leaves a row of both strips of the first pass a turn.
use Rattle.std.proofs.Common.{◌+◌, ◌≤◌}
use Rattle.steps.specs.Taps.{signed_taps}
use Rattle.steps.specs.Window.{along, Strips}
use Rattle.sixteens.proofs.strips.two.Given as goal

abbrev pub invariant-loop-q : goal.invariant-loop-q
invariant-loop-q l =
    (l.q ≤ l.pair.rows + 5)
    × Strips 208 l.q (along (signed_taps l.tx) l.pair.left.now l.pair.l.at l.pair.l.pitch) (along (signed_taps l.tx) l.pair.right.now l.pair.r.at l.pair.r.pitch) l.m
