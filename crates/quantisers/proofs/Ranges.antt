-- What the tables' rule gives: the range of each of the six factors, for all indices, and that machine numbers hold the products. Assumes nothing.
use Rattle.std.specs.Prelude.{ℕ, ◌-◌, ◌*◌, ◌/◌, ◌%◌, ◌<◌, ◌≤◌, ◌≡◌, refl, ◌↔◌, Bool, true, false, cond, List, eqb, ltb, length, ℤ, pos, negsuc, nat_abs, ◌+ℤ◌}
use Rattle.std.proofs.Common.{sym, ap, ◌∙◌, subst, le-div_iff_mul-le, mul-le-mul, arith, ltb-true, ltb-false, SFits}
use Rattle.std.proofs.Math.ListN.{get_or-eq_default}
use Rattle.std.specs.Int.{w16, w32}
use Rattle.signed.specs.Int.{up, dn, int, range, times, nat_abs_is}
use Rattle.rfc6386.specs.Number.{clamped}
use Rattle.rfc6386.specs.Raster.{tab}
use Rattle.rfc6386.proofs.Laws.Raster.{length-tab, get_or-tab}
use Rattle.residue.specs.Transform.{at}
use Rattle.quantisers.specs.Factors.{index, step_at, y2_ac_of, uv_dc_of, factors_of, dequantised}
use Rattle.quantisers.specs.Levels.{split_factor, whole_factor, products}
use Rattle.quantisers.proofs.Tables.{Table, dc_table, ac_table, step_least, step_most}
use Rattle.quantisers.specs.declared.QuantIndices.{QuantIndices}
use Rattle.quantisers.specs.declared.Factors.{Factors}

-- ---- indices and steps
pub clamped_below : (z : ℤ) (n : ℕ) → 0 < n → clamped z n < n
clamped_below (pos a) n h = omega arith
clamped_below (negsuc a) n h = h

-- from a to b
pub record From (a b n : ℕ) : Type 0 where
  pub least : a ≤ n
  pub most : n ≤ b

pub step_from : {l : List ℕ} {last : ℕ} → Table l last → (base delta : ℤ) → From 4 last (step_at l base delta)
step_from t base delta =
    let h = clamped_below (base +ℤ delta) 128 (omega arith) in
    record { least = step_least t (index base delta) h; most = step_most t (index base delta) h }

-- ---- THEOREM. The six factors, whatever the base index and the deltas.
pub record Sizes (f : Factors) : Type 0 where
  pub y_dc : From 4 157 f.y_dc
  pub y_ac : From 4 284 f.y_ac
  pub y2_dc : From 8 314 f.y2_dc
  pub y2_ac : From 8 440 f.y2_ac
  pub uv_dc : From 4 132 f.uv_dc
  pub uv_ac : From 4 284 f.uv_ac

doubled : {s : ℕ} → From 4 157 s → From 8 314 (s * 2)
doubled {s} h = omega arith

scaled : {s : ℕ} → From 4 284 s → From 8 440 (y2_ac_of s)
scaled {s} h = omega arith

capped : {s : ℕ} → From 4 157 s → From 4 132 (uv_dc_of s)
capped {s} h = omega arith

pub factor_sizes : (q : QuantIndices) → Sizes (factors_of q)
unfolding factors_of
factor_sizes q =
    record {
      y_dc = step_from dc_table q.y_ac_qi q.y_dc_delta;
      y_ac = step_from ac_table q.y_ac_qi (pos 0);
      y2_dc = doubled (step_from dc_table q.y_ac_qi q.y2_dc_delta);
      y2_ac = scaled (step_from ac_table q.y_ac_qi q.y2_ac_delta);
      uv_dc = capped (step_from dc_table q.y_ac_qi q.uv_dc_delta);
      uv_ac = step_from ac_table q.y_ac_qi q.uv_ac_delta;
    }

-- the factor of each number of a macroblock
either : (b : Bool) {m n : ℕ} → From 4 440 m → From 4 440 n → From 4 440 (cond b m n)
either true h k = h
either false h k = k

wider : {a b n : ℕ} → 4 ≤ a → b ≤ 440 → From a b n → From 4 440 n
wider h k f = omega (arith, f)

module _ (q : QuantIndices) where
  pub split_factor_from : (i : ℕ) → From 4 440 (split_factor (factors_of q) i)
  split_factor_from i =
      let s = factor_sizes q in
      let b = eqb (i % 16) 0 in
      either (ltb i 256)
      (either b (wider (omega arith) (omega arith) s.y_dc) (wider (omega arith) (omega arith) s.y_ac))
      (either b (wider (omega arith) (omega arith) s.uv_dc) (wider (omega arith) (omega arith) s.uv_ac))

  pub whole_factor_from : (i : ℕ) → From 4 440 (whole_factor (factors_of q) i)
  whole_factor_from i =
      let s = factor_sizes q in
      either (ltb i 16)
      (either (eqb (i % 16) 0) (wider (omega arith) (omega arith) s.y2_dc) (wider (omega arith) (omega arith) s.y2_ac))
      (split_factor_from (i - 16))

-- ---- products
pub product_size : (l : ℤ) (n : ℕ) → nat_abs (dequantised l n) ≡ nat_abs l * n
product_size (pos a) n = refl
product_size (negsuc a) n = omega (arith, nat_abs_is (dequantised (negsuc a) n), times (negsuc a) n)

-- THEOREM. A level of 0 gives 0.
pub zero_level : (n : ℕ) → dequantised (pos 0) n ≡ pos 0
zero_level n = omega (int, times (pos 0) n)

-- thirty-two bits hold the product of a level and of any number that sixteen hold
pub product_fits : (l : ℤ) → SFits w16 l → (n : ℕ) → n ≤ 65535 → SFits w32 (dequantised l n)
product_fits l f n h =
    let u = mul-le-mul {n₁ = up l} {m₁ = n} {n₂ = 32767} {m₂ = 65535} (omega (arith, range f)) h in
    let d = mul-le-mul {n₁ = dn l} {m₁ = n} {n₂ = 32768} {m₂ = 65535} (omega (arith, range f)) h in
    omega (int, times l n)

-- THEOREM. And so that of a level and its factor, whatever the indices.
module _ (q : QuantIndices) (l : ℤ) (f : SFits w16 l) (i : ℕ) where
  pub whole_product_fits : SFits w32 (dequantised l (whole_factor (factors_of q) i))
  whole_product_fits = product_fits l f (whole_factor (factors_of q) i) (omega (arith, whole_factor_from q i))

  pub split_product_fits : SFits w32 (dequantised l (split_factor (factors_of q) i))
  split_product_fits = product_fits l f (split_factor (factors_of q) i) (omega (arith, split_factor_from q i))

-- THEOREM. A product lies within d of 0 exactly where its level lies within d divided by the factor.
pub product_within : (l : ℤ) (n d : ℕ) → 0 < n → (nat_abs (dequantised l n) ≤ d) ↔ (nat_abs l ≤ d / n)
product_within l n d h =
    let e = product_size l n in
    let i = le-div_iff_mul-le {k = n} {x = nat_abs l} {y = d} h in
    (λ p. i.1 (subst (λ (m : ℕ). m ≤ d) e p), λ p. subst (λ (m : ℕ). m ≤ d) (sym e) (i.0 p))

-- ---- of lists: number i of the products, and a level that is not there counts as 0
pub product_at : (factor : ℕ → ℕ) (l : List ℤ) (i : ℕ) → at (products factor l) i ≡ dequantised (at l i) (factor i)
unfolding products
product_at factor l i = here (ltb i (length l)) refl
  where
    here : (b : Bool) → ltb i (length l) ≡ b → at (tab (length l) (λ i. dequantised (at l i) (factor i))) i ≡ dequantised (at l i) (factor i)
    here true t = get_or-tab (length l) (λ i. dequantised (at l i) (factor i)) i (pos 0) (ltb-true i (length l) t)
    here false t =
        let h = ltb-false i (length l) t in
        let none : at l i ≡ pos 0 = get_or-eq_default l (pos 0) h in
        get_or-eq_default (tab (length l) (λ i. dequantised (at l i) (factor i))) (pos 0) (omega (arith, length-tab (length l) (λ i. dequantised (at l i) (factor i))))
        ∙ sym (ap (λ (z : ℤ). dequantised z (factor i)) none ∙ zero_level (factor i))

pub length-products : (factor : ℕ → ℕ) (l : List ℤ) → length (products factor l) ≡ length l
unfolding products
length-products factor l = length-tab (length l) (λ i. dequantised (at l i) (factor i))
