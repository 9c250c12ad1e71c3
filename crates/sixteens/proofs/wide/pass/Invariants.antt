-- `wide::pass`: the loop leaves a row a turn.
use Rattle.std.proofs.Common.{◌+◌, ◌*◌, ◌≤◌}
use Rattle.rfc6386.specs.Picture.{step_at}
use Rattle.rfc6386.specs.Sums.{sum_to}
use Rattle.rfc6386.specs.Clips.{clip_at}
use Rattle.steps.specs.Tally.{part}
use Rattle.steps.specs.Taps.{signed_taps}
use Rattle.steps.proofs.Laws.Tallies.{Tallying}
use Rattle.sixteens.proofs.Rows16.{Filled}
use Rattle.sixteens.proofs.wide.pass.Given as goal

abbrev pub invariant-loop-r : goal.invariant-loop-r
invariant-loop-r l =
    (l.r ≤ 16)
    × (Filled 256 (λ r c. step_at (signed_taps l.t) l.src (l.window.at + r * l.window.pitch + c) l.gap) l.out l.r
    × Tallying (λ r. sum_to 16 (λ c. part (clip_at (signed_taps l.t) l.src (l.window.at + r * l.window.pitch + c) l.gap))) l.r l.sum)
