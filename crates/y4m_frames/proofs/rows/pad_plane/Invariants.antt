-- The loop of `y4m_frames::rows::pad_plane` has laid r rows.
use Rattle.std.proofs.Common.{◌≤◌}
use Rattle.y4m_frames.proofs.Puts.{Stacked}
use Rattle.y4m_frames.proofs.PlaneLaws.{nearest}
use Rattle.y4m_frames.proofs.rows.pad_plane.Given as goal

abbrev pub invariant-loop-r : goal.invariant-loop-r
invariant-loop-r l = (l.r ≤ l.p.high) × Stacked l.fn.out l.out l.at l.p.wide l.r (nearest l.s l.from l.p.width l.p.height)
