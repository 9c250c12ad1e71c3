-- Nothing is worked out, or each part is written.
use Rattle.std.proofs.Common.{◌≡◌, sym, ap, ◌∙◌, subst, arith, List, [], ◌≤◌, length, take, ℤ}
use Rattle.std.proofs.Math.Nat.{zero-add}
use lib.Seq.{length-take-le, take_all}
use Rattle.residue.specs.Coefficients.{split_beyond, split_refusal}
use Rattle.quantisers.specs.Factors.{factors_of}
use Rattle.quantisers.specs.Levels.{split_factor, products, split_products}
use Rattle.quantisers.specs.Inner.{SplitOffered}
use Rattle.quantisers.proofs.Ranges.{length-products}
use Rattle.quantisers.proofs.Keeping.{split_offered, offered_none, offered-skipped}
use Rattle.quantisers.proofs.Writing.{reached_none, reached_more, reached_all}
use Rattle.quantisers.specs.declared.Factors.{Factors}
use Rattle.quantisers.proofs.coefficients.split_coefficients.Goals as goal

pub returns-then-levels-ne384 : goal.returns-then-levels-ne384
unfolding split_refusal
returns-then-levels-ne384 c =
    let a = c.args in
    let e = length-products (split_factor (factors_of a.q)) a.levels.now in
    (omega arith, offered_none 384 split_beyond (λ c. c) a.skip (split_products a.q a.levels.now) [] (λ h. omega (arith, e, h)) (λ h. omega arith))

pub returns-then-skip : goal.returns-then-skip
unfolding split_refusal
returns-then-skip c =
    let a = c.args in
    let due : 384 ≤ length a.out.now = omega arith in
    let n : length a.levels.now ≡ 384 = omega arith in (
      due,
      offered-skipped 384 split_beyond (λ c. c) a.skip (split_products a.q a.levels.now) (take 384 a.out.now)
          (length-products (split_factor (factors_of a.q)) a.levels.now ∙ n) (length-take-le 384 a.out.now due) c.if-skip.true,
    )

pub returns : goal.returns
returns c =
    let f = c.factors_of-f.result in
    let l = c.args.levels.now in
    let d = c.scale_planes.new.out in
    let all = reached_more (split_factor f) l 0 384 (split_factor f) (λ k h. ap (split_factor f) (zero-add k)) (reached_none (split_factor f) l c.args.out.now) c.scale_planes.ensures in
    let n : length d ≡ 384 = omega (arith, c.requires, c.scale_planes.ensures.size) in
    let k = reached_all (split_factor f) l (omega arith) n all in (
      omega (arith, n),
      subst (λ (x : Factors × List ℤ). SplitOffered c.args.skip (products (split_factor x.0) l) x.1)
          (λ i. (c.factors_of-f.ensures i, sym (take_all 384 d (omega (arith, n))) i)) (split_offered k c.args.skip),
    )
