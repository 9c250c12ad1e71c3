-- `predict_quarters` is split prediction: refused by the number, else chroma as split has it, and luma by quarters. Assumes nothing.
use Rattle.std.proofs.Common.{◌≡◌, ap, ◌∙◌, List, ℕ, ◌*◌, ◌≤◌, ◌++◌, length, arith}
use Rattle.rfc6386.specs.Vector.{lowering_of}
use Rattle.rfc6386.specs.declared.Lowering.{Lowering}
use Rattle.rfc6386.specs.Fetched.{Coordinate}
use Rattle.rfc6386.specs.Report.{luma, reported, split_chroma_of, quarters_of, split_clips, quarters_report}
use Rattle.rfc6386.proofs.Counts.{quarters_most, split_range}
use Rattle.rfc6386.specs.Macroblock.{Reference, lent, plane_y, split}
use Rattle.rfc6386.specs.Answer.{Report}
use Rattle.rfc6386.specs.declared.Mv.{Mv}
use Rattle.rfc6386.specs.declared.FilterSet.{FilterSet}
use Rattle.rfc6386.specs.declared.Clips.{Clips}
use Rattle.blocks.specs.Lents.{plane_in}
use Rattle.blocks.specs.Taken.{taken}
use Rattle.prediction.specs.Luma.{luma_clips, ButLuma}
use Rattle.prediction.specs.declared.predict.Rest.{Rest}
use Rattle.prediction.proofs.Macroblock.{standing}
use Rattle.prediction.proofs.Reports.{split_fits, split_apart, split_reported}
use Rattle.quarters.specs.Parts.{square_takes}
use Rattle.quarters.proofs.Parts.{clips_all}
use Rattle.quarters.proofs.predict_quarters.Goals as goal

module _ (set : FilterSet) (low : Lowering) (ref : Reference) (col row : ℕ) (vs : List Mv) where
  -- what its luma fetches
  abbrev luma_list : List Coordinate
  luma_list = luma 2 low (plane_y ref) (col * 16) (row * 16) vs 0 0

  few : length (luma_list ++ split_chroma_of low ref col row vs) ≤ 1944
  unfolding quarters_of
  few = omega (arith, quarters_most low ref col row vs, (split_range low ref col row vs).1)

  took : {rest : Rest} {all count : ℕ} → ButLuma set low.chroma ref col row vs rest all
      → count ≡ square_takes set low (plane_in rest.luma.lent) rest.luma.lent.at.x rest.luma.lent.at.y vs 0 0 16 → count ≡ taken (length luma_list) (luma_clips set low ref col row vs)
  took R e =
      e
      ∙ standing R.stands (λ p x y. square_takes set low p x y vs 0 0 16)
      ∙ ap (λ (k : Clips). taken (length luma_list) k) (clips_all set low (plane_y ref) (col * 16) (row * 16) vs)

  is-report : {r : Report} → r ≡ reported (split set low ref col row vs) (luma_list ++ split_chroma_of low ref col row vs) (split_clips set low ref col row vs)
      → r ≡ quarters_report set low ref col row vs
  unfolding quarters_report quarters_of
  is-report e = e

pub overflow_add-all : goal.overflow_add-all
overflow_add-all c =
    let a = c.args in
    let low = lowering_of a.full_pixel in
    let ref = lent a.y.now a.u.now a.v.now a.sizes in
    let R = c.split_but_luma-rest.ensures in
    omega (
      arith,
      split_fits a.set low ref a.mb_col a.mb_row a.split_luma_mvs _ (few a.set low ref a.mb_col a.mb_row a.split_luma_mvs) R
          (took a.set low ref a.mb_col a.mb_row a.split_luma_mvs R c.quarters_luma-y_samples.ensures.all_after),
    )

pub clips-requires : goal.clips-requires
clips-requires c =
    let a = c.args in
    let low = lowering_of a.full_pixel in
    let ref = lent a.y.now a.u.now a.v.now a.sizes in
    let R = c.split_but_luma-rest.ensures in
    split_apart a.set low ref a.mb_col a.mb_row a.split_luma_mvs _ (few a.set low ref a.mb_col a.mb_row a.split_luma_mvs) R
    (took a.set low ref a.mb_col a.mb_row a.split_luma_mvs R c.quarters_luma-y_samples.ensures.all_after)

pub returns : goal.returns
returns c =
    let a = c.args in
    let low = lowering_of a.full_pixel in
    let ref = lent a.y.now a.u.now a.v.now a.sizes in
    let R = c.split_but_luma-rest.ensures in
    is-report a.set low ref a.mb_col a.mb_row a.split_luma_mvs
    (split_reported a.set low ref a.mb_col a.mb_row a.split_luma_mvs _ (few a.set low ref a.mb_col a.mb_row a.split_luma_mvs) R
    (took a.set low ref a.mb_col a.mb_row a.split_luma_mvs R c.quarters_luma-y_samples.ensures.all_after)
    c.quarters_luma-y_samples.ensures.value c.fetched.ensures c.clips.ensures)
