-- The loop of `predict::predict_row`: the first col macroblocks of the row are written.
use Rattle.std.proofs.Common.{◌≡◌, length}
use Rattle.frame.specs.Frame.{planes}
use Rattle.frame.specs.Inner.{asked_in, RowWritten}
use Rattle.frame.proofs.predict.predict_row.Given as goal

abbrev pub invariant-loop-col : goal.invariant-loop-col
invariant-loop-col l =
    (length l.mb ≡ 384)
    × RowWritten (asked_in l.task) l.task.frame.strides l.row l.col (planes l.initial.out_y l.initial.out_u l.initial.out_v) (planes l.out_y l.out_u l.out_v)
