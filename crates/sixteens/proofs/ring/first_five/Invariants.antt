-- `ring::first_five`: the loop lays a row of the first pass a turn.
use Rattle.std.proofs.Common.{◌≤◌}
use Rattle.steps.specs.Taps.{signed_taps}
use Rattle.steps.specs.Window.{along}
use Rattle.sixteens.specs.Rolling.{Rolling}
use Rattle.sixteens.proofs.ring.first_five.Given as goal

abbrev pub invariant-loop-r : goal.invariant-loop-r
invariant-loop-r l = (l.r ≤ 5) × Rolling (along (signed_taps l.t) l.halo.src.now l.halo.window.at l.halo.window.pitch) 0 l.r l.m
