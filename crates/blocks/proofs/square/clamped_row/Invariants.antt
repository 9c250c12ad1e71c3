-- `square::clamped_row`: the loop lays the row, one sample a turn.
use Rattle.std.proofs.Common.{◌+◌, get_or, pos, ◌+ℤ◌}
use Rattle.rfc6386.specs.Number.{clamped}
use Rattle.steps.proofs.Laws.Copying.{Laying}
use Rattle.blocks.proofs.square.clamped_row.Given as goal

abbrev pub invariant-loop-c : goal.invariant-loop-c
invariant-loop-c l = Laying l.fn.out l.to l.n (λ c. get_or l.plane (l.at + clamped (l.x0 +ℤ pos c) l.w) 0) l.out l.c
