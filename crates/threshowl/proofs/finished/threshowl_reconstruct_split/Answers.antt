-- `finished::threshowl_reconstruct_split` meets its contract: what `split_finished` leaves, at what table, lowering, vectors and codes are. Assumes nothing.
use Rattle.std.proofs.Common.{refl}
use Rattle.rfc6386.specs.Macroblock.{split}
use Rattle.threshowl.specs.Boundary.{picture_of}
use Rattle.threshowl.proofs.Finishing.{finishes_as}
use Rattle.threshowl.proofs.finished.threshowl_reconstruct_split.Goals as goal

pub returns : goal.returns
returns c =
    let a = c.args in
    let ref = picture_of a.y.now a.u.now a.v.now a.y_stride a.u_stride a.v_stride a.mb_cols a.mb_rows in
    finishes_as (λ i. split (c.set_of.ensures i) (c.lowering_of.ensures i) ref a.mb_col a.mb_row (c.mvs_of_bytes.ensures i)) c.codes_refusal.ensures refl c.number.ensures c.split_finished.ensures
