-- `strips::row`: the loop lays a sample of each strip and adds up their parts, a turn.
use Rattle.std.proofs.Common.{◌+◌}
use Rattle.rfc6386.specs.Picture.{step_at}
use Rattle.rfc6386.specs.Clips.{clip_at}
use Rattle.steps.specs.Tally.{part}
use Rattle.steps.specs.Taps.{signed_taps}
use Rattle.steps.proofs.Laws.Twofold.{Twice}
use Rattle.steps.proofs.Laws.Tallies.{Tallying}
use Rattle.sixteens.proofs.strips.row.Given as goal

abbrev pub invariant-loop-c : goal.invariant-loop-c
invariant-loop-c l =
    Twice l.fn.out l.to 8 8 (λ c. step_at (signed_taps l.t) l.left (l.l.at + c) l.l.pitch) (λ c. step_at (signed_taps l.t) l.right (l.r.at + c) l.r.pitch)
    l.out l.c
    × Tallying
    (λ c. part (clip_at (signed_taps l.t) l.left (l.l.at + c) l.l.pitch) + part (clip_at (signed_taps l.t) l.right (l.r.at + c) l.r.pitch)) l.c
    l.tally
