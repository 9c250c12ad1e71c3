-- `strips::mixed`: the loop leaves a row of both strips of the first pass a turn.
use Rattle.std.proofs.Common.{◌+◌, ◌*◌, ◌≤◌}
use Rattle.steps.specs.Window.{mix_at, Strips}
use Rattle.sixteens.proofs.strips.mixed.Given as goal

abbrev pub invariant-loop-q : goal.invariant-loop-q
invariant-loop-q l =
    (l.q ≤ l.pair.rows + 1)
    × Strips 144 l.q (mix_at l.tx l.pair.left.now (l.pair.l.at + 2 * l.pair.l.pitch + 2) l.pair.l.pitch 1) (mix_at l.tx l.pair.right.now (l.pair.r.at + 2 * l.pair.r.pitch + 2) l.pair.r.pitch 1) l.m
