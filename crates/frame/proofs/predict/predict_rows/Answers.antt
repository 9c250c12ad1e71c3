-- `predict::predict_rows` meets its contract: the first rows are written, one more a turn. Assumes nothing.
use Rattle.frame.proofs.Filling.{rows_begun, rows_on}
use Rattle.frame.proofs.predict.predict_rows.Goals as goal

pub loop-row-init : goal.loop-row-init
loop-row-init c = rows_begun _ _ _

pub loop-row-preserved : goal.loop-row-preserved
loop-row-preserved c = rows_on _ _ _ c.loop-row.row c.loop-row.invariant c.predict_row.ensures
