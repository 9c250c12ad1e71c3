-- `boundary::threshowl_predict_split` meets its contract. What `split_into` leaves, at what vectors, table, lowering and codes are. Assumes nothing.
use Rattle.threshowl.specs.Boundary.{picture_of}
use Rattle.threshowl.proofs.Laws.{split_left}
use Rattle.threshowl.proofs.boundary.threshowl_predict_split.Goals as goal

pub returns : goal.returns
returns c =
    let a = c.args in
    split_left (picture_of a.y.now a.u.now a.v.now a.y_stride a.u_stride a.v_stride a.mb_cols a.mb_rows) a.mb_col a.mb_row a.out.now
    c.set_of.ensures c.lowering_of.ensures c.codes_refusal.ensures c.ended_number.ensures c.mvs_of_bytes.ensures c.split_into.ensures
