-- `luma_square` predicts a square of one vector in one go, and any other by its quarters. Assumes nothing.
use Rattle.std.proofs.Common.{◌≡◌, Bool, true, false, refl, sym, ap, ◌∙◌, subst, List, ℕ, ◌+◌, ◌/◌, ◌<◌, ◌≤◌, arith}
use lib.Dec.{T}
use Rattle.rfc6386.specs.Vector.{lowering_of, luma_vector, sent}
use Rattle.rfc6386.specs.Macroblock.{subblock}
use Rattle.rfc6386.specs.declared.Lowering.{Lowering}
use Rattle.rfc6386.specs.Picture.{Plane, image, block, block_by}
use Rattle.rfc6386.specs.declared.Mv.{Mv}
use Rattle.rfc6386.specs.declared.FilterSet.{FilterSet}
use Rattle.steps.proofs.Laws.Windows.{put_as}
use Rattle.blocks.specs.Lents.{plane_in}
use Rattle.blocks.specs.Taken.{block_takes}
use Rattle.prediction.proofs.Macroblock.{shifted}
use Rattle.quarters.proofs.Parts.{Quarters, quarters, one-of_4, one-part, quarters_are, takes_one, takes_four, takes_few}
use Rattle.quarters.specs.Parts.{Square, part, OneVector, square_takes}
use Rattle.quarters.specs.declared.piece.Piece.{Piece}
use Rattle.quarters.proofs.+luma_square.Goals as goal

-- a test that fails, of what it tells exactly
differ : {b : Bool} {P : Type 0} → (b ≡ true → P) × (P → b ≡ true) → b ≡ false → P → ⊥
differ both f p = absurd (subst T (sym (both.1 p) ∙ f) tt)

-- where the vectors differ: the quarters, and that what each of them took is little
module _ (mvs : List Mv) {x y n : ℕ} (S : Square x y n) (several : OneVector mvs x y n → ⊥) where
  split : Quarters x y n (n / 2)
  split = quarters S (λ four. several (one-of_4 S four))

  few : (set : FilterSet) (low : Lowering) (p : Plane) (at_x at_y x' y' s : ℕ) {k : ℕ} → s ≡ n / 2 → k ≡ square_takes set low p at_x at_y mvs x' y' s → k ≤ 1000000000000000
  few set low p at_x at_y x' y' s {k} e h =
      let below : n / 2 < 16 = omega (arith, split.twice, split.last.across) in
      subst (λ (k : ℕ). k ≤ 1000000000000000) (sym (h ∙ ap (square_takes set low p at_x at_y mvs x' y') e)) (takes_few set low p at_x at_y mvs x' y' (n / 2) split.first.side below)

-- a quarter that was given for the one at column x', row y'
module _ {A : Type 0} (f : ℕ → ℕ → ℕ → A) (q : Piece) (x' y' h : ℕ) where
  quarter : q.x ≡ x' → q.y ≡ y' → q.side ≡ h → f q.x q.y q.side ≡ f x' y' h
  quarter p r s = λ i. f (p i) (r i) (s i)

pub returns-then-one_vector-clause-out_after : goal.returns-then-one_vector-clause-out_after
returns-then-one_vector-clause-out_after t c =
    let a = c.args in
    let l = a.luma.lent in
    put_as _ _ _ _ a.piece.side c.sided_into.ensures.out_after
    (shifted (λ p x y m. block a.piece.side a.set (image p) x y m) l c.block-here.result _ _ c.block-here.ensures.plane c.block-here.ensures.place refl)
    ∙ one-part a.piece.side a.set _ l.at.x l.at.y (lowering_of a.lower) _ a.piece.x a.piece.y a.out.now a.piece.square (c.one_vector.ensures.0 c.if-one_vector.true) c.luma_vector-mv.ensures

pub returns-then-one_vector-clause-value : goal.returns-then-one_vector-clause-value
returns-then-one_vector-clause-value t c =
    let a = c.args in
    let l = a.luma.lent in
    c.sided_into.ensures.value
    ∙ shifted (block_takes a.piece.side a.set) l c.block-here.result _ _ c.block-here.ensures.plane c.block-here.ensures.place c.luma_vector-mv.ensures
    ∙ takes_one a.set (lowering_of a.lower) (plane_in l) l.at.x l.at.y a.mvs a.piece.x a.piece.y a.piece.side a.piece.square.side (c.one_vector.ensures.0 c.if-one_vector.true)

pub overflow_add-result : goal.overflow_add-result
overflow_add-result t c =
    let a = c.args in
    let l = a.luma.lent in
    let several = differ c.one_vector.ensures c.if-one_vector.false in
    omega (
      arith,
      few a.mvs a.piece.square several a.set (lowering_of a.lower) (plane_in l) l.at.x l.at.y _ _ _ c.quarter.ensures.side c.luma_square-first.ensures.value,
      few a.mvs a.piece.square several a.set (lowering_of a.lower) (plane_in l) l.at.x l.at.y _ _ _ c.quarter-2.ensures.side c.luma_square-second.ensures.value,
    )

pub overflow_add-result-2 : goal.overflow_add-result-2
overflow_add-result-2 t c =
    let a = c.args in
    let l = a.luma.lent in
    let several = differ c.one_vector.ensures c.if-one_vector.false in
    omega (
      arith,
      few a.mvs a.piece.square several a.set (lowering_of a.lower) (plane_in l) l.at.x l.at.y _ _ _ c.quarter.ensures.side c.luma_square-first.ensures.value,
      few a.mvs a.piece.square several a.set (lowering_of a.lower) (plane_in l) l.at.x l.at.y _ _ _ c.quarter-2.ensures.side c.luma_square-second.ensures.value,
      few a.mvs a.piece.square several a.set (lowering_of a.lower) (plane_in l) l.at.x l.at.y _ _ _ c.quarter-3.ensures.side c.luma_square-third.ensures.value,
    )

pub overflow_add-result-3 : goal.overflow_add-result-3
overflow_add-result-3 t c =
    let a = c.args in
    let l = a.luma.lent in
    let several = differ c.one_vector.ensures c.if-one_vector.false in
    omega (
      arith,
      few a.mvs a.piece.square several a.set (lowering_of a.lower) (plane_in l) l.at.x l.at.y _ _ _ c.quarter.ensures.side c.luma_square-first.ensures.value,
      few a.mvs a.piece.square several a.set (lowering_of a.lower) (plane_in l) l.at.x l.at.y _ _ _ c.quarter-2.ensures.side c.luma_square-second.ensures.value,
      few a.mvs a.piece.square several a.set (lowering_of a.lower) (plane_in l) l.at.x l.at.y _ _ _ c.quarter-3.ensures.side c.luma_square-third.ensures.value,
      few a.mvs a.piece.square several a.set (lowering_of a.lower) (plane_in l) l.at.x l.at.y _ _ _ c.quarter-4.ensures.side c.luma_square-fourth.ensures.value,
    )

pub returns-clause-out_after : goal.returns-clause-out_after
returns-clause-out_after t c =
    let a = c.args in
    let l = a.luma.lent in
    let several = differ c.one_vector.ensures c.if-one_vector.false in
    let all = block_by 16 a.set (image (plane_in l)) l.at.x l.at.y (λ r c. luma_vector (lowering_of a.lower) (sent a.mvs (subblock r c))) in
    quarters_are _ a.out.now a.piece.x a.piece.y (a.piece.side / 2) a.piece.side (split a.mvs a.piece.square several).twice
    (c.luma_square-first.ensures.out_after ∙ quarter (part all a.out.now) c.quarter.result a.piece.x a.piece.y (a.piece.side / 2) (omega (arith, c.quarter.ensures.x)) (omega (arith, c.quarter.ensures.y)) c.quarter.ensures.side)
    (c.luma_square-second.ensures.out_after ∙ quarter (part all c.luma_square-first.new.out) c.quarter-2.result (a.piece.x + a.piece.side / 2) a.piece.y (a.piece.side / 2) (omega (arith, c.quarter-2.ensures.x)) (omega (arith, c.quarter-2.ensures.y)) c.quarter-2.ensures.side)
    (c.luma_square-third.ensures.out_after ∙ quarter (part all c.luma_square-second.new.out) c.quarter-3.result a.piece.x (a.piece.y + a.piece.side / 2) (a.piece.side / 2) (omega (arith, c.quarter-3.ensures.x)) (omega (arith, c.quarter-3.ensures.y)) c.quarter-3.ensures.side)
    (c.luma_square-fourth.ensures.out_after ∙ quarter (part all c.luma_square-third.new.out) c.quarter-4.result (a.piece.x + a.piece.side / 2) (a.piece.y + a.piece.side / 2) (a.piece.side / 2) (omega (arith, c.quarter-4.ensures.x)) (omega (arith, c.quarter-4.ensures.y)) c.quarter-4.ensures.side)

pub returns-clause-value : goal.returns-clause-value
returns-clause-value t c =
    let a = c.args in
    let l = a.luma.lent in
    let several = differ c.one_vector.ensures c.if-one_vector.false in
    let S = a.piece.square in
    let takes : ℕ → ℕ → ℕ → ℕ = square_takes a.set (lowering_of a.lower) (plane_in l) l.at.x l.at.y a.mvs in
    let first = c.luma_square-first.ensures.value ∙ quarter takes c.quarter.result a.piece.x a.piece.y (a.piece.side / 2) (omega (arith, c.quarter.ensures.x)) (omega (arith, c.quarter.ensures.y)) c.quarter.ensures.side in
    let second = c.luma_square-second.ensures.value ∙ quarter takes c.quarter-2.result (a.piece.x + a.piece.side / 2) a.piece.y (a.piece.side / 2) (omega (arith, c.quarter-2.ensures.x)) (omega (arith, c.quarter-2.ensures.y)) c.quarter-2.ensures.side in
    let third = c.luma_square-third.ensures.value ∙ quarter takes c.quarter-3.result a.piece.x (a.piece.y + a.piece.side / 2) (a.piece.side / 2) (omega (arith, c.quarter-3.ensures.x)) (omega (arith, c.quarter-3.ensures.y)) c.quarter-3.ensures.side in
    let fourth = c.luma_square-fourth.ensures.value ∙ quarter takes c.quarter-4.result (a.piece.x + a.piece.side / 2) (a.piece.y + a.piece.side / 2) (a.piece.side / 2) (omega (arith, c.quarter-4.ensures.x)) (omega (arith, c.quarter-4.ensures.y)) c.quarter-4.ensures.side in
    (λ i. first i + second i + third i + fourth i)
    ∙ takes_four a.set (lowering_of a.lower) (plane_in l) l.at.x l.at.y a.mvs a.piece.x a.piece.y a.piece.side S.side several (λ four. several (one-of_4 S four)) (split a.mvs S several).twice
