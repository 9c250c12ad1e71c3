-- The loop of `y4m_frames::rows::copy` has copied i elements.
use Rattle.std.proofs.Common.{◌+◌, ◌≤◌, get_or}
use Rattle.y4m_frames.proofs.Puts.{Laid}
use Rattle.y4m_frames.proofs.rows.copy.Given as goal

abbrev pub invariant-loop-i : goal.invariant-loop-i
invariant-loop-i l = (l.i ≤ l.n) × Laid l.fn.out l.out l.at l.i (λ k. get_or l.s (l.from + k) 0)
