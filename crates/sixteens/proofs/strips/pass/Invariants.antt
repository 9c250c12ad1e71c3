-- `strips::pass`: the loop leaves a row of both strips a turn.
use Rattle.std.proofs.Common.{◌+◌, ◌*◌, ◌≤◌}
use Rattle.rfc6386.specs.Picture.{step_at}
use Rattle.rfc6386.specs.Sums.{sum_to}
use Rattle.rfc6386.specs.Clips.{clip_at}
use Rattle.steps.specs.Tally.{part}
use Rattle.steps.specs.Taps.{signed_taps}
use Rattle.steps.specs.Window.{Strips}
use Rattle.steps.proofs.Laws.Tallies.{Tallying}
use Rattle.sixteens.proofs.strips.pass.Given as goal

abbrev pub invariant-loop-q : goal.invariant-loop-q
invariant-loop-q l =
    (l.q ≤ l.rows)
    × (Strips 128 l.q (λ q c. step_at (signed_taps l.t) l.left (l.l.at + q * l.l.pitch + c) l.l_gap)
    (λ q c. step_at (signed_taps l.t) l.right (l.r.at + q * l.r.pitch + c) l.r_gap) l.out
    × Tallying
    (λ q.
    sum_to 8 (λ c. part (clip_at (signed_taps l.t) l.left (l.l.at + q * l.l.pitch + c) l.l_gap))
    + sum_to 8 (λ c. part (clip_at (signed_taps l.t) l.right (l.r.at + q * l.r.pitch + c) l.r_gap)))
    l.q l.sum)
