-- `predict_split_mv_lowered` is split prediction: refused by the number, else chroma and sixteen luma blocks. Assumes nothing.
use Rattle.std.proofs.Common.{◌≡◌, ◌∙◌, List, ℕ, ◌*◌, ◌≤◌, ◌++◌, length, arith}
use Rattle.rfc6386.specs.Vector.{luma_vector, sent}
use Rattle.rfc6386.specs.declared.Lowering.{Lowering}
use Rattle.rfc6386.specs.Fetched.{Coordinate, tiles_of}
use Rattle.rfc6386.specs.Report.{reported, split_chroma_of, split_of, split_clips, split_report}
use Rattle.rfc6386.proofs.Counts.{split_range}
use Rattle.rfc6386.specs.Macroblock.{Reference, lent, plane_y, split}
use Rattle.rfc6386.specs.Answer.{Report}
use Rattle.rfc6386.specs.declared.Mv.{Mv}
use Rattle.rfc6386.specs.declared.FilterSet.{FilterSet}
use Rattle.blocks.specs.Lents.{plane_in}
use Rattle.blocks.specs.Taken.{taken}
use Rattle.prediction.specs.Tiles.{tiles_take}
use Rattle.prediction.specs.Luma.{luma_clips, ButLuma}
use Rattle.prediction.specs.declared.predict.Rest.{Rest}
use Rattle.prediction.proofs.Macroblock.{standing}
use Rattle.prediction.proofs.Reports.{split_fits, split_apart, split_reported}
use Rattle.prediction.proofs.predict.predict_split_mv_lowered.Goals as goal

module _ (set : FilterSet) (low : Lowering) (ref : Reference) (col row : ℕ) (vs : List Mv) where
  -- what its luma fetches
  abbrev luma_list : List Coordinate
  luma_list = tiles_of 4 (plane_y ref) (col * 16) (row * 16) (λ b. luma_vector low (sent vs b))

  few : length (luma_list ++ split_chroma_of low ref col row vs) ≤ 1944
  unfolding split_of
  few = (split_range low ref col row vs).1

  took : {rest : Rest} {all count : ℕ} → ButLuma set low.chroma ref col row vs rest all
      → count ≡ tiles_take 4 set (plane_in rest.luma.lent) rest.luma.lent.at.x rest.luma.lent.at.y (λ b. luma_vector low (sent vs b)) → count ≡ taken (length luma_list) (luma_clips set low ref col row vs)
  took R e = e ∙ standing R.stands (λ p x y. tiles_take 4 set p x y (λ b. luma_vector low (sent vs b)))

  is-report : {r : Report} → r ≡ reported (split set low ref col row vs) (luma_list ++ split_chroma_of low ref col row vs) (split_clips set low ref col row vs) → r ≡ split_report set low ref col row vs
  unfolding split_report split_of
  is-report e = e

pub overflow_add-all : goal.overflow_add-all
overflow_add-all c =
    let a = c.args in
    let ref = lent a.y.now a.u.now a.v.now a.sizes in
    let R = c.split_but_luma-rest.ensures in
    omega (
      arith,
      split_fits a.set a.lowering ref a.mb_col a.mb_row a.split_luma_mvs _ (few a.set a.lowering ref a.mb_col a.mb_row a.split_luma_mvs) R
          (took a.set a.lowering ref a.mb_col a.mb_row a.split_luma_mvs R c.split_luma-y_samples.ensures.all_after),
    )

pub clips-requires : goal.clips-requires
clips-requires c =
    let a = c.args in
    let ref = lent a.y.now a.u.now a.v.now a.sizes in
    let R = c.split_but_luma-rest.ensures in
    split_apart a.set a.lowering ref a.mb_col a.mb_row a.split_luma_mvs _ (few a.set a.lowering ref a.mb_col a.mb_row a.split_luma_mvs) R
    (took a.set a.lowering ref a.mb_col a.mb_row a.split_luma_mvs R c.split_luma-y_samples.ensures.all_after)

pub returns : goal.returns
returns c =
    let a = c.args in
    let ref = lent a.y.now a.u.now a.v.now a.sizes in
    let R = c.split_but_luma-rest.ensures in
    is-report a.set a.lowering ref a.mb_col a.mb_row a.split_luma_mvs
    (split_reported a.set a.lowering ref a.mb_col a.mb_row a.split_luma_mvs _ (few a.set a.lowering ref a.mb_col a.mb_row a.split_luma_mvs) R
    (took a.set a.lowering ref a.mb_col a.mb_row a.split_luma_mvs R c.split_luma-y_samples.ensures.all_after)
    c.split_luma-y_samples.ensures.value c.fetched.ensures c.clips.ensures)
