-- `square::clamped`: the loop writes the rows, one a turn.
use Rattle.std.proofs.Common.{pos, ◌+ℤ◌}
use Rattle.rfc6386.specs.Picture.{image}
use Rattle.steps.proofs.Laws.Copying.{Writing}
use Rattle.blocks.specs.Places.{plane_at}
use Rattle.blocks.proofs.square.clamped.Given as goal

abbrev pub invariant-loop-r : goal.invariant-loop-r
invariant-loop-r l = Writing l.fn.out l.cols 0 0 l.cols l.rows (λ r c. image (plane_at l.plane l.at) (l.x0 +ℤ pos c) (l.y0 +ℤ pos r)) l.out l.r
