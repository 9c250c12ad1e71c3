-- The loop writes the rows, one a turn.
use Rattle.std.proofs.Common.{◌+◌, ◌*◌, get_or}
use Rattle.steps.proofs.Laws.Copying.{Writing}
use Rattle.steps.proofs.rect.copy_rect.Given as goal

abbrev pub invariant-loop-r : goal.invariant-loop-r
invariant-loop-r l =
    Writing l.fn.dst l.spot.stride l.spot.x l.spot.y l.w l.rows (λ r c. get_or l.src (l.window.at + r * l.window.pitch + c) 0) l.dst l.r
