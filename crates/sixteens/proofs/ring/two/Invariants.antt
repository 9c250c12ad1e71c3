-- `ring::two`: the loop leaves a row of the first pass and one of the second a turn.
use Rattle.std.proofs.Common.{List, ℕ, ◌+◌, ◌≤◌, ℤ}
use Rattle.rfc6386.specs.Clips.{step_clip}
use Rattle.steps.specs.Tally.{part}
use Rattle.steps.specs.Taps.{signed_taps}
use Rattle.steps.specs.Window.{along, six_down, over}
use Rattle.sixteens.specs.Rolling.{Rolling, At}
use Rattle.sixteens.proofs.Rows16.{Filled}
use Rattle.sixteens.proofs.Lanes.{Lanes}
use Rattle.sixteens.proofs.ring.two.Given as goal

-- the part of a sample
abbrev pub clipped : List ℤ → (ℕ → ℕ → ℕ) → ℕ → ℕ → ℕ
clipped ts pass r c = part (step_clip ts (six_down pass r c))

abbrev pub invariant-loop-r : goal.invariant-loop-r
invariant-loop-r l =
    let pass = along (signed_taps l.tx) l.halo.src.now l.halo.window.at l.halo.window.pitch in
    At l.r l.ring
    × (Rolling pass l.r 5 l.m
    × (Filled 256 (over (signed_taps l.ty) pass) l.out l.r
    × (Lanes (λ r c. clipped (signed_taps l.ty) pass r c + clipped (signed_taps l.ty) pass r (8 + c)) l.lanes l.r × (l.r ≤ 16))))
