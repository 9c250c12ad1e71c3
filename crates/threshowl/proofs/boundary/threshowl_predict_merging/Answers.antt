-- `boundary::threshowl_predict_merging` meets its contract. Where the vectors are one, the whole call is split prediction by demand 3. Assumes nothing.
use Rattle.std.proofs.Common.{ap, ◌∙◌, ℤ, arith, SFits, to_z-of_z}
use Rattle.std.specs.Int.{w16}
use Rattle.signed.specs.Int.{sfits_goal}
use Rattle.rfc6386.specs.Vector.{lowering_of, sent}
use Rattle.rfc6386.specs.Refusal.{code_refusal}
use Rattle.rfc6386.specs.Macroblock.{whole, split}
use Rattle.rfc6386.proofs.Merging.{merge_alike}
use Rattle.rfc6386.proofs.Laws.Vectors.{Inside, vector}
use Rattle.rfc6386.proofs.Laws.Merging.{mergeable-true}
use Rattle.outputs.specs.Laws.{left_as}
use Rattle.threshowl.specs.Boundary.{set_of, flag_of, picture_of}
use Rattle.threshowl.proofs.Laws.{codes_as}
use Rattle.threshowl.proofs.boundary.threshowl_predict_merging.Goals as goal

-- a component that can be doubled in sixteen bits
held : {z : ℤ} → Inside z → SFits w16 z
held {z} h = sfits_goal w16 z (omega (arith, h))

pub returns-then-are_one : goal.returns-then-are_one
returns-then-are_one c =
    let a = c.args in
    let set = set_of a.filter in
    let low = lowering_of (flag_of a.full_pixel) in
    let ref = picture_of a.y.now a.u.now a.v.now a.y_stride a.u_stride a.v_stride a.mb_cols a.mb_rows in
    let mvs = c.mvs_of_bytes-mvs.result in
    let one = c.are_one.ensures.0 c.if-are_one.true in
    let inside = mergeable-true (sent mvs 0) one.mergeable_is in
    left_as
    (ap (whole set low ref a.mb_col a.mb_row) (vector (to_z-of_z (held inside.row)) (to_z-of_z (held inside.col)))
    ∙ merge_alike set low ref a.mb_col a.mb_row mvs (sent mvs 0) one.alike one.mergeable_is
    ∙ ap (split set low ref a.mb_col a.mb_row) c.mvs_of_bytes-mvs.ensures)
    (codes_as (code_refusal a.filter) _ c.if-vectors-eq64.true)
    c.threshowl_predict_whole.ensures
