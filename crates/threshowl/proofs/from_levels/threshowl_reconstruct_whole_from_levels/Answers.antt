-- `from_levels::threshowl_reconstruct_whole_from_levels` meets its contract: its coefficients do for the products. Assumes nothing.
use Rattle.std.proofs.Common.{refl, ap₂, take, to_z-of_z}
use Rattle.quantisers.specs.Levels.{whole_products}
use Rattle.quantisers.specs.Inner.{WholeOffered}
use Rattle.quantisers.specs.declared.QuantIndices.{QuantIndices}
use Rattle.threshowl.specs.Boundary.{flag_of, picture_of, whole_by}
use Rattle.threshowl.proofs.Finishing.{finishes_as, finishes_offered, of_quantiser}
use Rattle.threshowl.proofs.from_levels.threshowl_reconstruct_whole_from_levels.Goals as goal

pub returns : goal.returns
returns c =
    let a = c.args in
    let r = c.ranges in
    let made = c.whole_coefficients-n in
    let ref = picture_of a.y.now a.u.now a.v.now a.y_stride a.u_stride a.v_stride a.mb_cols a.mb_rows in
    let offered =
    of_quantiser (λ (q : QuantIndices). WholeOffered (flag_of a.skip) (whole_products q a.levels.now) (take made.result made.new.out))
    r.y_ac_qi r.y_dc_delta r.y2_dc_delta r.y2_ac_delta r.uv_dc_delta r.uv_ac_delta made.ensures.1 in
    finishes_offered 0 offered
    (finishes_as (ap₂ (whole_by a.filter a.full_pixel ref a.mb_col a.mb_row) (to_z-of_z r.mv_row) (to_z-of_z r.mv_col)) refl refl refl c.threshowl_reconstruct_whole.ensures)
