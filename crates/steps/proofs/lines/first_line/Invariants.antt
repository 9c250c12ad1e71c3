-- The loop lays the steps, one a turn.
use Rattle.std.proofs.Common.{◌+◌}
use Rattle.rfc6386.specs.Picture.{step_at}
use Rattle.steps.specs.Taps.{signed_taps}
use Rattle.steps.proofs.Laws.Copying.{Laying}
use Rattle.steps.proofs.lines.first_line.Given as goal

abbrev pub invariant-loop-i : goal.invariant-loop-i
invariant-loop-i l = Laying l.fn.dst l.to l.n (λ i. step_at (signed_taps l.t) l.src (l.at + i) l.gap) l.dst l.i
