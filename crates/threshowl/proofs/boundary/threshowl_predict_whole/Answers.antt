-- `boundary::threshowl_predict_whole` meets its contract. What `whole_into` leaves, at what the table, the lowering and the code are. Assumes nothing.
use Rattle.std.proofs.Common.{to_z-of_z}
use Rattle.rfc6386.proofs.Laws.Vectors.{vector}
use Rattle.threshowl.specs.Boundary.{picture_of}
use Rattle.threshowl.proofs.Laws.{whole_left}
use Rattle.threshowl.proofs.boundary.threshowl_predict_whole.Goals as goal

pub returns : goal.returns
returns c =
    let a = c.args in
    whole_left (picture_of a.y.now a.u.now a.v.now a.y_stride a.u_stride a.v_stride a.mb_cols a.mb_rows) a.mb_col a.mb_row a.out.now
    c.set_of.ensures c.lowering_of.ensures c.code_refusal.ensures c.ended_number.ensures (vector (to_z-of_z c.ranges.mv_row) (to_z-of_z c.ranges.mv_col)) c.whole_into.ensures
