-- Nothing is worked out, or each part is written.
use Rattle.std.proofs.Common.{◌≡◌, sym, ap, ◌∙◌, subst, arith, List, [], ◌≤◌, length, take, ℤ}
use Rattle.std.proofs.Math.Nat.{zero-add}
use lib.Seq.{length-take-le, take_all}
use Rattle.residue.specs.Coefficients.{seeded, whole_beyond, whole_refusal}
use Rattle.quantisers.specs.Factors.{factors_of}
use Rattle.quantisers.specs.Levels.{block_factor, split_factor, whole_factor, products, whole_products}
use Rattle.quantisers.specs.Inner.{WholeOffered}
use Rattle.quantisers.proofs.Ranges.{length-products}
use Rattle.quantisers.proofs.Keeping.{whole_offered, offered_none, offered-skipped}
use Rattle.quantisers.proofs.Writing.{reached_none, reached_more, reached_all, whole_y2, whole_others}
use Rattle.quantisers.specs.declared.Factors.{Factors}
use Rattle.quantisers.proofs.coefficients.whole_coefficients.Goals as goal

pub returns-then-levels-ne400 : goal.returns-then-levels-ne400
unfolding whole_refusal
returns-then-levels-ne400 c =
    let a = c.args in
    let e = length-products (whole_factor (factors_of a.q)) a.levels.now in
    (omega arith, offered_none 400 whole_beyond seeded a.skip (whole_products a.q a.levels.now) [] (λ h. omega (arith, e, h)) (λ h. omega arith))

pub returns-then-skip : goal.returns-then-skip
unfolding whole_refusal
returns-then-skip c =
    let a = c.args in
    let due : 400 ≤ length a.out.now = omega arith in
    let n : length a.levels.now ≡ 400 = omega arith in (
      due,
      offered-skipped 400 whole_beyond seeded a.skip (whole_products a.q a.levels.now) (take 400 a.out.now)
          (length-products (whole_factor (factors_of a.q)) a.levels.now ∙ n) (length-take-le 400 a.out.now due) c.if-skip.true,
    )

pub returns : goal.returns
returns c =
    let f = c.factors_of-f.result in
    let l = c.args.levels.now in
    let d = c.scale_planes.new.out in
    let y2 = reached_more (whole_factor f) l 0 16 (block_factor f.y2_dc f.y2_ac) (λ k h. ap (whole_factor f) (zero-add k) ∙ whole_y2 f k h) (reached_none (whole_factor f) l c.args.out.now) c.scale_blocks.ensures in
    let all = reached_more (whole_factor f) l 16 384 (split_factor f) (λ k h. whole_others f k) y2 c.scale_planes.ensures in
    let n : length d ≡ 400 = omega (arith, c.requires, c.scale_blocks.ensures.size, c.scale_planes.ensures.size) in
    let k = reached_all (whole_factor f) l (omega arith) n all in (
      omega (arith, n),
      subst (λ (x : Factors × List ℤ). WholeOffered c.args.skip (products (whole_factor x.0) l) x.1)
          (λ i. (c.factors_of-f.ensures i, sym (take_all 400 d (omega (arith, n))) i)) (whole_offered k c.args.skip),
    )
