-- `finished::threshowl_reconstruct_whole_pixel` meets its contract: what `whole_finished` leaves; a vector without a fraction is one of whole pixels.
-- Assumes nothing.
use Rattle.std.proofs.Common.{refl, ap, ◌∙◌, to_z-of_z, ℕ}
use Rattle.rfc6386.specs.Vector.{lowering_of}
use Rattle.rfc6386.specs.Refusal.{or_else}
use Rattle.rfc6386.specs.Macroblock.{whole, fraction_left}
use Rattle.rfc6386.proofs.Laws.Vectors.{vector}
use Rattle.rfc6386.specs.declared.Mv.{Mv}
use Rattle.rfc6386.specs.declared.FilterSet.TheVariants.{Sixtap}
use Rattle.residue.specs.Coefficients.{whole_refusal}
use Rattle.threshowl.specs.Boundary.{flag_of, picture_of}
use Rattle.threshowl.proofs.Finishing.{finishes_as, finishes_pixels}
use Rattle.threshowl.proofs.finished.threshowl_reconstruct_whole_pixel.Goals as goal

pub returns : goal.returns
returns c =
    let a = c.args in
    let ref = picture_of a.y.now a.u.now a.v.now a.y_stride a.u_stride a.v_stride a.mb_cols a.mb_rows in
    let low = lowering_of (flag_of a.full_pixel) in
    let mv : Mv = record { row = a.mv_row; col = a.mv_col } in
    let same_mv = vector (to_z-of_z c.ranges.mv_row) (to_z-of_z c.ranges.mv_col) in
    let fraction = c.fraction_refusal.ensures ∙ ap (fraction_left low) same_mv in
    let late = whole_refusal (flag_of a.skip) a.coefficients.now in
    finishes_pixels Sixtap low ref a.mb_col a.mb_row mv late
    (finishes_as (λ i. whole Sixtap (c.lowering_of.ensures i) ref a.mb_col a.mb_row (same_mv i)) refl (ap (λ (n : ℕ). or_else n late) fraction) c.number.ensures c.whole_finished.ensures)
