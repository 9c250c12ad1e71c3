-- The loop lays the row, one sample a turn.
use Rattle.std.proofs.Common.{◌+◌, get_or}
use Rattle.steps.proofs.Laws.Copying.{Laying}
use Rattle.steps.proofs.rect.copy_row.Given as goal

abbrev pub invariant-loop-c : goal.invariant-loop-c
invariant-loop-c l = Laying l.fn.dst l.to l.n (λ k. get_or l.src (l.from + k) 0) l.dst l.c
