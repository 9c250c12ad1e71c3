-- The loop of `predict::predict_rows`: the first rows are written.
use Rattle.frame.specs.Frame.{planes}
use Rattle.frame.specs.Inner.{asked_in, RowsWritten}
use Rattle.frame.proofs.predict.predict_rows.Given as goal

abbrev pub invariant-loop-row : goal.invariant-loop-row
invariant-loop-row l =
    RowsWritten (asked_in l.task) l.task.frame.strides l.row (planes l.initial.out_y l.initial.out_u l.initial.out_v) (planes l.out_y l.out_u l.out_v)
