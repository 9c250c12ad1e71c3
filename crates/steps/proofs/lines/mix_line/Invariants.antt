-- The loop lays the steps, one a turn.
use Rattle.std.proofs.Common.{◌+◌, get_or}
use Rattle.steps.specs.Taps.{two_taps}
use Rattle.steps.proofs.Laws.Copying.{Laying}
use Rattle.steps.proofs.lines.mix_line.Given as goal

abbrev pub invariant-loop-i : goal.invariant-loop-i
invariant-loop-i l = Laying l.fn.dst l.to l.n (λ i. two_taps l.t (get_or l.src (l.at + i) 0) (get_or l.src (l.at + i + l.gap) 0)) l.dst l.i
