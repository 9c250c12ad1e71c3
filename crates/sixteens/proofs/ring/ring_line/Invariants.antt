-- `ring::ring_line`: the loop lays two samples and adds their parts to a lane a turn.
use Rattle.std.proofs.Common.{◌+◌}
use Rattle.steps.specs.Tally.{part}
use Rattle.steps.specs.Taps.{signed_taps}
use Rattle.steps.proofs.Laws.Twofold.{Twice}
use Rattle.sixteens.specs.Rolling.{ring_step, ring_clip}
use Rattle.sixteens.proofs.Lanes.{Adding}
use Rattle.sixteens.proofs.ring.ring_line.Given as goal

abbrev pub invariant-loop-c : goal.invariant-loop-c
invariant-loop-c l =
    Twice l.fn.out l.to 8 8 (ring_step (signed_taps l.t) l.m l.ring) (λ c. ring_step (signed_taps l.t) l.m l.ring (8 + c)) l.out l.c
    × Adding l.fn.lanes (λ c. part (ring_clip (signed_taps l.t) l.m l.ring c) + part (ring_clip (signed_taps l.t) l.m l.ring (8 + c))) l.lanes l.c
