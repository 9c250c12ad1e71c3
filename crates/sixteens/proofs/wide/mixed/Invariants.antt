-- `wide::mixed`: the loop leaves four rows a turn, out of five of the first pass, of which the last is the first of the next turn.
use Rattle.std.proofs.Common.{◌≡◌, ◌+◌, ◌*◌}
use Rattle.steps.specs.Taps.{two_taps}
use Rattle.steps.specs.Window.{mix_at}
use Rattle.sixteens.proofs.Rolls.{Five}
use Rattle.sixteens.proofs.Rows16.{Filled}
use Rattle.sixteens.proofs.wide.mixed.Given as goal

abbrev pub invariant-loop-q : goal.invariant-loop-q
invariant-loop-q l =
    let pass = mix_at l.tx l.halo.src.now (l.halo.window.at + 2 * l.halo.window.pitch + 2) l.halo.window.pitch 1 in
    (l.at ≡ l.halo.window.at + 2 * l.halo.window.pitch + 2)
    × (Five pass (l.q * 4) 1 l.m × Filled 256 (λ r c. two_taps l.ty (pass r c) (pass (r + 1) c)) l.out (l.q * 4))
