-- `finished::threshowl_reconstruct_whole` meets its contract: what `whole_finished` leaves, at what table, lowering, vector and code are. Assumes nothing.
use Rattle.std.proofs.Common.{refl, to_z-of_z}
use Rattle.rfc6386.specs.Macroblock.{whole}
use Rattle.rfc6386.proofs.Laws.Vectors.{vector}
use Rattle.threshowl.specs.Boundary.{picture_of}
use Rattle.threshowl.proofs.Finishing.{finishes_as}
use Rattle.threshowl.proofs.finished.threshowl_reconstruct_whole.Goals as goal

pub returns : goal.returns
returns c =
    let a = c.args in
    let ref = picture_of a.y.now a.u.now a.v.now a.y_stride a.u_stride a.v_stride a.mb_cols a.mb_rows in
    let same_mv = vector (to_z-of_z c.ranges.mv_row) (to_z-of_z c.ranges.mv_col) in
    finishes_as (λ i. whole (c.set_of.ensures i) (c.lowering_of.ensures i) ref a.mb_col a.mb_row (same_mv i)) c.code_refusal.ensures refl c.number.ensures c.whole_finished.ensures
