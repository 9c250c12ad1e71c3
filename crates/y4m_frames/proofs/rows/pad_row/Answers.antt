-- What `y4m_frames::rows::pad_row` leaves: a row, and then the last of its samples.
use Rattle.std.proofs.Common.{refl, arith}
use Rattle.y4m_frames.proofs.PlaneLaws.{row_laid}
use Rattle.y4m_frames.proofs.rows.pad_row.Goals as goal

pub returns : goal.returns
returns c =
    let a = c.args in
    row_laid a.out.now _ _ a.s.now a.from a.w a.at a.pw _ (omega arith) (omega arith) (omega arith) c.copy.ensures refl c.fill.ensures
