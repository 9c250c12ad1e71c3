-- `by_version::threshowl_predict_whole_by_version` meets its contract: what `whole_into` leaves, with the table and the rule of the version, and 10 where it is
-- reserved. Assumes nothing.
use Rattle.std.proofs.Common.{refl, to_z-of_z}
use Rattle.rfc6386.proofs.Laws.Vectors.{vector}
use Rattle.rfc6386.specs.declared.Lowering.{Lowering}
use Rattle.rfc6386.specs.declared.FilterSet.{FilterSet}
use Rattle.rfc6386.specs.Macroblock.{whole}
use Rattle.rfc6386.specs.Version.{whole_by_version}
use Rattle.rfc6386.proofs.Laws.Versions.{predicted_by}
use Rattle.outputs.specs.Laws.{left_as}
use Rattle.threshowl.specs.Boundary.{flag_of, picture_of}
use Rattle.threshowl.proofs.Laws.{left_reserved, whole_left}
use Rattle.threshowl.proofs.by_version.threshowl_predict_whole_by_version.Goals as goal

pub returns-then-profile : goal.returns-then-profile
unfolding whole_by_version
returns-then-profile c =
    let a = c.args in
    let ref = picture_of a.y.now a.u.now a.v.now a.y_stride a.u_stride a.v_stride a.mb_cols a.mb_rows in
    left_reserved a.version (flag_of a.standard) c.profile_for_version-profile.ensures
    (λ (set : FilterSet) (low : Lowering). whole set low ref a.mb_col a.mb_row (record { row = a.mv_row; col = a.mv_col })) 0 a.out.now c.from.ensures c.if-profile.true

pub returns : goal.returns
unfolding whole_by_version
returns c =
    let a = c.args in
    let ref = picture_of a.y.now a.u.now a.v.now a.y_stride a.u_stride a.v_stride a.mb_cols a.mb_rows in
    let profile = c.profile_for_version-profile in
    left_as
    (predicted_by a.version (flag_of a.standard) profile.ensures (λ (set : FilterSet) (low : Lowering). whole set low ref a.mb_col a.mb_row (record { row = a.mv_row; col = a.mv_col })) c.if-profile.false)
    refl
    (whole_left ref a.mb_col a.mb_row a.out.now
    refl c.lowering_by.ensures refl c.ended_number.ensures (vector (to_z-of_z c.ranges.mv_row) (to_z-of_z c.ranges.mv_col)) c.whole_into.ensures)
