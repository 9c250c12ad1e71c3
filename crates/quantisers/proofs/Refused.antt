-- Which levels are refused with 11: by their sizes, the domain divided by the factor. Assumes nothing.
use Rattle.std.specs.Prelude.{ℕ, ◌+◌, ◌/◌, ◌<◌, ◌≤◌, ◌≡◌, refl, ◌↔◌, Bool, true, ◌&&◌, ◌||◌, List, length, ℤ, nat_abs}
use Rattle.std.proofs.Common.{sym, ap, ◌∙◌, subst, arith, ltb-false, le-ltb}
use Rattle.std.proofs.Math.Bool.{false, not}
use Rattle.rfc6386.proofs.Laws.Tests.{or-false}
use Rattle.residue.specs.Transform.{at}
use Rattle.residue.specs.Coefficients.{first_of_y, beyond, some, split_beyond, whole_beyond, residue_refusal, whole_refusal, split_refusal}
use Rattle.residue.proofs.Refused.{by-false, some_none, none-some, skipped, tried}
use Rattle.quantisers.specs.Factors.{factors_of}
use Rattle.quantisers.specs.Levels.{split_factor, whole_factor, products, whole_products, split_products}
use Rattle.quantisers.proofs.Ranges.{split_factor_from, whole_factor_from, product_within, product_at, length-products}
use Rattle.quantisers.specs.declared.QuantIndices.{QuantIndices}

-- number i of the levels is not larger than d divided by its factor
abbrev pub Small : (ℕ → ℕ) → List ℤ → ℕ → ℕ → Type 0
Small factor l i d = nat_abs (at l i) ≤ d / factor i

pub record WholeSmall (q : QuantIndices) (l : List ℤ) : Type 0 where
  pub y2 : (i : ℕ) → i < 16 → Small (whole_factor (factors_of q)) l i 16383
  -- a first level that Y2 replaces may be any
  pub others : (i : ℕ) → i < 384 → first_of_y i ≡ false → Small (whole_factor (factors_of q)) l (16 + i) 4095

pub record SplitSmall (q : QuantIndices) (l : List ℤ) : Type 0 where
  pub all : (i : ℕ) → i < 384 → Small (split_factor (factors_of q)) l i 4095

-- ---- one level
module _ (factor : ℕ → ℕ) (l : List ℤ) (i d : ℕ) (h : 0 < factor i) where
  inside : Small factor l i d → beyond d (at (products factor l) i) ≡ false
  inside s =
      let e = product_at factor l i in
      le-ltb d (nat_abs (at (products factor l) i)) (subst (λ (z : ℤ). nat_abs z ≤ d) (sym e) ((product_within (at l i) (factor i) d h).1 s))

  outside : beyond d (at (products factor l) i) ≡ false → Small factor l i d
  outside t =
      let e = product_at factor l i in
      (product_within (at l i) (factor i) d h).0 (subst (λ (z : ℤ). nat_abs z ≤ d) e (ltb-false d (nat_abs (at (products factor l) i)) t))

-- ---- all of them
module _ (q : QuantIndices) (l : List ℤ) where
  abbrev tested : ℕ → Bool
  tested i = not (first_of_y i) && beyond 4095 (at (whole_products q l) (16 + i))

  whole_positive : (i : ℕ) → 0 < whole_factor (factors_of q) i
  whole_positive i = omega (arith, whole_factor_from q i)

  split_positive : (i : ℕ) → 0 < split_factor (factors_of q) i
  split_positive i = omega (arith, split_factor_from q i)

  one_tested : (i : ℕ) (b : Bool) → first_of_y i ≡ b → (first_of_y i ≡ false → Small (whole_factor (factors_of q)) l (16 + i) 4095) → not b && beyond 4095 (at (whole_products q l) (16 + i)) ≡ false
  one_tested i true e s = refl
  one_tested i false e s = inside (whole_factor (factors_of q)) l (16 + i) 4095 (whole_positive (16 + i)) (s e)

  whole-inside : WholeSmall q l → whole_beyond (whole_products q l) ≡ false
  unfolding whole_beyond
  whole-inside s =
      λ t. here t || there t
    where
      here : some 16 (λ i. beyond 16383 (at (whole_products q l) i)) ≡ false
      here = none-some 16 (λ i. beyond 16383 (at (whole_products q l) i)) (λ i h. inside (whole_factor (factors_of q)) l i 16383 (whole_positive i) (s.y2 i h))

      there : some 384 tested ≡ false
      there = none-some 384 tested (λ i h. one_tested i (first_of_y i) refl (s.others i h))

  whole-outside : whole_beyond (whole_products q l) ≡ false → WholeSmall q l
  unfolding whole_beyond
  whole-outside e =
      let b = or-false (some 16 (λ i. beyond 16383 (at (whole_products q l) i))) (some 384 tested) e in
      record {
        y2 = λ i h. outside (whole_factor (factors_of q)) l i 16383 (whole_positive i) (some_none 16 (λ i. beyond 16383 (at (whole_products q l) i)) b.0 i h);
        others = λ i h f.
            outside (whole_factor (factors_of q)) l (16 + i) 4095 (whole_positive (16 + i))
            (sym (ap (λ (x : Bool). not x && beyond 4095 (at (whole_products q l) (16 + i))) f) ∙ some_none 384 tested b.1 i h);
      }

  split-inside : SplitSmall q l → split_beyond (split_products q l) ≡ false
  unfolding split_beyond
  split-inside s =
      none-some 384 (λ i. beyond 4095 (at (split_products q l) i)) (λ i h. inside (split_factor (factors_of q)) l i 4095 (split_positive i) (s.all i h))

  split-outside : split_beyond (split_products q l) ≡ false → SplitSmall q l
  unfolding split_beyond
  split-outside e =
      record { all = λ i h. outside (split_factor (factors_of q)) l i 4095 (split_positive i) (some_none 384 (λ i. beyond 4095 (at (split_products q l) i)) e i h) }

-- a list of the count that is due is refused where the test says so, unless it is skipped
module _ (count : ℕ) (test : List ℤ → Bool) (c : List ℤ) (h : length c ≡ count) where
  none_refused : (skip : Bool) → test c ≡ false → residue_refusal count skip test c ≡ 0
  none_refused true e = sym (skipped count true test c h refl)
  none_refused false e = sym (tried count false test c h refl false e)

  refused_none : residue_refusal count false test c ≡ 0 → test c ≡ false
  refused_none e = by-false (test c) (λ t. let f : ◌≡◌ {A = ℕ} 11 0 = tried count false test c h refl true t ∙ e in absurd (omega arith))

-- ---- THEOREM. Of 400 levels, or 384, number 11 is given exactly where one of them is larger than the domain divided by its factor.
module _ (q : QuantIndices) (l : List ℤ) where
  pub whole_refused_by_size : length l ≡ 400 → (whole_refusal false (whole_products q l) ≡ 0) ↔ WholeSmall q l
  unfolding whole_refusal
  whole_refused_by_size e =
      let h = length-products (whole_factor (factors_of q)) l ∙ e in (
        λ z. whole-outside q l (refused_none 400 whole_beyond (whole_products q l) h z),
        λ s. none_refused 400 whole_beyond (whole_products q l) h false (whole-inside q l s),
      )

  pub split_refused_by_size : length l ≡ 384 → (split_refusal false (split_products q l) ≡ 0) ↔ SplitSmall q l
  unfolding split_refusal
  split_refused_by_size e =
      let h = length-products (split_factor (factors_of q)) l ∙ e in (
        λ z. split-outside q l (refused_none 384 split_beyond (split_products q l) h z),
        λ s. none_refused 384 split_beyond (split_products q l) h false (split-inside q l s),
      )

  -- THEOREM. Levels within it are never refused by 11, with the skip flag or without.
  pub whole_never_refused : (skip : Bool) → length l ≡ 400 → WholeSmall q l → whole_refusal skip (whole_products q l) ≡ 0
  unfolding whole_refusal
  whole_never_refused skip e s =
      none_refused 400 whole_beyond (whole_products q l) (length-products (whole_factor (factors_of q)) l ∙ e) skip (whole-inside q l s)

  pub split_never_refused : (skip : Bool) → length l ≡ 384 → SplitSmall q l → split_refusal skip (split_products q l) ≡ 0
  unfolding split_refusal
  split_never_refused skip e s =
      none_refused 384 split_beyond (split_products q l) (length-products (split_factor (factors_of q)) l ∙ e) skip (split-inside q l s)
