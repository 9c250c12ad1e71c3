-- The loop of `y4m_frames::rows::crop_plane` has laid r rows.
use Rattle.std.proofs.Common.{◌≤◌}
use Rattle.y4m_frames.proofs.Puts.{Stacked}
use Rattle.y4m_frames.proofs.PlaneLaws.{in_row}
use Rattle.y4m_frames.proofs.rows.crop_plane.Given as goal

abbrev pub invariant-loop-r : goal.invariant-loop-r
invariant-loop-r l = (l.r ≤ l.p.height) × Stacked l.fn.out l.out l.at l.p.width l.r (in_row l.s l.from l.p.wide)
