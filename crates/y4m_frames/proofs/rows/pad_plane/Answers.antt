-- What `y4m_frames::rows::pad_plane` leaves: each turn lays a row.
use Rattle.std.proofs.Common.{arith}
use Rattle.y4m_frames.proofs.Puts.{stacked_none}
use Rattle.y4m_frames.proofs.PlaneLaws.{pad_more, pad_all}
use Rattle.y4m_frames.proofs.rows.pad_plane.Goals as goal

pub loop-r-init : goal.loop-r-init
loop-r-init c = (omega arith, stacked_none _ _ _ _)

pub loop-r-preserved : goal.loop-r-preserved
loop-r-preserved c =
    (omega arith, pad_more c.args.s.now _ _ _ _ _ _ _ _ _ _ _ c.requires (omega arith) c.min-row.ensures c.pad_row.ensures c.loop-r.invariant.1)

pub returns : goal.returns
returns c = pad_all _ _ _ _ _ _ _ _ _ _ (omega arith) c.loop-r.invariant.1
