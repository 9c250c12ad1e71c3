-- `predict_merging` meets its contract: whole prediction where the sixteen vectors are one, else split prediction. Assumes nothing.
use Rattle.std.proofs.Common.{◌≡◌, sym, ◌∙◌, subst, List, ℕ, rules}
use lib.Dec.{T}
use Rattle.rfc6386.specs.Vector.{lowering_of, sent, One}
use Rattle.rfc6386.specs.declared.Lowering.{Lowering}
use Rattle.rfc6386.specs.Macroblock.{Reference, lent}
use Rattle.rfc6386.specs.Report.{whole_report, split_report, merging_report}
use Rattle.rfc6386.proofs.Counts.{merging-whole, merging-split}
use Rattle.rfc6386.specs.declared.Mv.{Mv}
use Rattle.rfc6386.specs.declared.FilterSet.{FilterSet}
use Rattle.rfc6386.specs.Answer.{Report}
use Rattle.prediction.proofs.predict.predict_merging.Goals as goal

module _ (set : FilterSet) (low : Lowering) (ref : Reference) (col row : ℕ) (vs : List Mv) {r : Report} where
  by_whole : One vs → r ≡ whole_report set low ref col row (sent vs 0) → r ≡ merging_report set low ref col row vs
  by_whole one e = e ∙ merging-whole low ref col row set vs one

  by_split : (One vs → ⊥) → r ≡ split_report set low ref col row vs → r ≡ merging_report set low ref col row vs
  by_split apart e = e ∙ merging-split low ref col row set vs apart

pub returns-then-are_one : goal.returns-then-are_one
returns-then-are_one c =
    let a = c.args in
    by_whole a.set (lowering_of a.full_pixel) (lent a.y.now a.u.now a.v.now a.sizes) a.mb_col a.mb_row a.split_luma_mvs
    (c.are_one.ensures.0 c.if-are_one.true) (search rules)

pub returns : goal.returns
returns c =
    let a = c.args in
    by_split a.set (lowering_of a.full_pixel) (lent a.y.now a.u.now a.v.now a.sizes) a.mb_col a.mb_row a.split_luma_mvs
    (λ one. absurd (subst T (sym (c.are_one.ensures.1 one) ∙ c.if-are_one.false) tt)) (search rules)
