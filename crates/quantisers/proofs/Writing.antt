-- Loops that write a part of a list, one number a turn, and what a list holds once its parts are written. Assumes nothing.
use mathlib.Core.Path.{◌≡◌, refl, sym, ap, ap₂, ◌∙◌, subst}
use mathlib.Core.Bool.{Bool, true, false, cond}
use mathlib.Core.List.{List}
use Prim.Native.Nat.{ℕ, ◌+◌, ◌-◌, ◌*◌, ◌/◌, ◌%◌, ◌<◌, ◌≤◌}
use native.Mathlib.Nat.{mul-suc, mul-le-mul_left}
use native.Mathlib.Omega.{arith}
use borrow.Author.Count.{below_more}
use borrow.Author.Tests.{ltb-true, ltb-false, lt-ltb, le-ltb, eqb-true, eqb-false}
use lib.Dec.{eqb, ltb}
use lib.ListN.{length, set, length-set, get_or-eq_default}
use lib.Seq.{get_or-set_same, get_or-set_other}
use lib.IntN.{ℤ, pos}
use Rattle.residue.specs.Transform.{at}
use Rattle.quantisers.specs.Factors.{dequantised}
use Rattle.quantisers.specs.Levels.{block_factor, split_factor, whole_factor, products}
use Rattle.quantisers.specs.Inner.{sixteen, Part, Spaced}
use Rattle.quantisers.proofs.Ranges.{zero_level, product_at, length-products}
use Rattle.quantisers.proofs.Keeping.{Kept}
use Rattle.quantisers.specs.declared.Factors.{Factors}

-- ---- a loop over all of a part
module _ {d : List ℤ} {i : ℕ} {f : ℕ → ℤ} where
  pub part_none : Part d d i 0 f
  part_none = record { size = refl; done = λ k h. absurd (omega arith); before = λ j h. refl; after = λ j h. refl }

  pub part_more : {d' : List ℤ} {k : ℕ} {v : ℤ} → Part d d' i k f → i + k < length d → v ≡ f k → Part d (set d' (i + k) v) i (k + 1) f
  part_more {d'} {k} {v} P h e =
      record {
        size = length-set d' (i + k) v ∙ P.size;
        done =
            below_more (λ m. at (set d' (i + k) v) (i + m) ≡ f m) k
            (λ m l. get_or-set_other d' (i + k) (i + m) v (pos 0) (λ q. omega arith) ∙ P.done m l)
            (get_or-set_same d' (i + k) v (pos 0) (omega (arith, P.size)) ∙ e);
        before = λ j l. get_or-set_other d' (i + k) j v (pos 0) (λ q. omega arith) ∙ P.before j l;
        after = λ j l. get_or-set_other d' (i + k) j v (pos 0) (λ q. omega arith) ∙ P.after j (omega arith);
      }

-- ---- a loop over numbers at one distance
-- an earlier one stands before
pub before : (step : ℕ) {m k : ℕ} → m < k → step * m + step ≤ step * k
before step {m} {k} h = subst (λ (n : ℕ). n ≤ step * k) (mul-suc step m) (mul-le-mul_left step h)

module _ {d : List ℤ} {i step : ℕ} {f : ℕ → ℤ} where
  pub spaced_none : Spaced d d i step 0 f
  spaced_none = record { size = refl; done = λ b h. absurd (omega arith); rest = λ j h. refl }

  pub spaced_more : {d' : List ℤ} {k : ℕ} {v : ℤ} → 0 < step → Spaced d d' i step k f → i + step * k < length d → v ≡ f k → Spaced d (set d' (i + step * k) v) i step (k + 1) f
  spaced_more {d'} {k} {v} p S h e =
      record {
        size = length-set d' (i + step * k) v ∙ S.size;
        done =
            below_more (λ m. at (set d' (i + step * k) v) (i + step * m) ≡ f m) k
            (λ m l. get_or-set_other d' (i + step * k) (i + step * m) v (pos 0) (λ q. omega (arith, before step l)) ∙ S.done m l)
            (get_or-set_same d' (i + step * k) v (pos 0) (omega (arith, S.size)) ∙ e);
        rest = λ j q. get_or-set_other d' (i + step * k) j v (pos 0) (λ p. q k (omega arith) (omega arith)) ∙ S.rest j (λ m l. q m (omega arith));
      }

-- ---- one after the other: g of a number and its factor, which is dc's for the first of a block
module _ {d d₁ d₂ : List ℤ} {i blocks : ℕ} (g : ℕ → ℕ → ℤ) (dc ac : ℕ) (P : Spaced d d₁ i 1 (16 * blocks) (λ k. g (1 * k) ac)) (F : Spaced d₁ d₂ i 16 blocks (λ b. g (16 * b) dc)) where
  pub blocks_written : Part d d₂ i (16 * blocks) (λ k. g k (cond (eqb (k % 16) 0) dc ac))
  blocks_written =
      record {
        size = F.size ∙ P.size;
        done = λ k h. here k h (eqb (k % 16) 0) refl;
        before = λ j h. F.rest j (λ b l e. omega arith) ∙ P.rest j (λ k l e. omega arith);
        after = λ j h. F.rest j (λ b l e. omega arith) ∙ P.rest j (λ k l e. omega arith);
      }
    where
      here : (k : ℕ) → k < 16 * blocks → (t : Bool) → eqb (k % 16) 0 ≡ t → at d₂ (i + k) ≡ g k (cond t dc ac)
      here k h true t =
          let z = eqb-true (k % 16) 0 t in
          let e : k ≡ 16 * (k / 16) = omega arith in
          ap (λ (m : ℕ). at d₂ (i + m)) e ∙ F.done (k / 16) (omega arith) ∙ ap (λ (m : ℕ). g m dc) (sym e)
      here k h false t =
          let z = eqb-false (k % 16) 0 t in
          let e : 1 * k ≡ k = omega arith in
          F.rest (i + k) (λ b l e. z (omega arith)) ∙ subst (λ (m : ℕ). at d₁ (i + m) ≡ g m ac) e (P.done k h)

-- the factors of each part
module _ (f : Factors) (k : ℕ) where
  pub split_y : k < 256 → split_factor f k ≡ block_factor f.y_dc f.y_ac k
  split_y h = ap (λ (b : Bool). cond b (block_factor f.y_dc f.y_ac k) (block_factor f.uv_dc f.uv_ac k)) (lt-ltb k 256 h)

  pub split_uv : split_factor f (256 + k) ≡ block_factor f.uv_dc f.uv_ac k
  split_uv =
      let e : (256 + k) % 16 ≡ k % 16 = omega arith in
      ap (λ (b : Bool). cond b (block_factor f.y_dc f.y_ac (256 + k)) (block_factor f.uv_dc f.uv_ac (256 + k))) (le-ltb (256 + k) 256 (omega arith))
      ∙ ap (λ (m : ℕ). cond (eqb m 0) f.uv_dc f.uv_ac) e

  pub whole_y2 : k < 16 → whole_factor f k ≡ block_factor f.y2_dc f.y2_ac k
  whole_y2 h = ap (λ (b : Bool). cond b (block_factor f.y2_dc f.y2_ac k) (split_factor f (k - 16))) (lt-ltb k 16 h)

  pub whole_others : whole_factor f (16 + k) ≡ split_factor f k
  whole_others =
      let e : 16 + k - 16 ≡ k = omega arith in
      ap (λ (b : Bool). cond b (block_factor f.y2_dc f.y2_ac (16 + k)) (split_factor f (16 + k - 16))) (le-ltb (16 + k) 16 (omega arith)) ∙ ap (split_factor f) e

-- Y, then U and V
module _ (levels : List ℤ) {d d₁ d₂ : List ℤ} {i : ℕ} (f : Factors) (P : Part d d₁ i 256 (λ k. sixteen (dequantised (at levels (i + k)) (block_factor f.y_dc f.y_ac k))))
    (Q : Part d₁ d₂ (i + 256) 128 (λ k. sixteen (dequantised (at levels (i + 256 + k)) (block_factor f.uv_dc f.uv_ac k)))) where
  pub planes_written : Part d d₂ i 384 (λ k. sixteen (dequantised (at levels (i + k)) (split_factor f k)))
  planes_written =
      record {
        size = Q.size ∙ P.size;
        done = λ k h. here k h (ltb k 256) refl;
        before = λ j h. Q.before j (omega arith) ∙ P.before j h;
        after = λ j h. Q.after j (omega arith) ∙ P.after j (omega arith);
      }
    where
      here : (k : ℕ) → k < 384 → (t : Bool) → ltb k 256 ≡ t → at d₂ (i + k) ≡ sixteen (dequantised (at levels (i + k)) (split_factor f k))
      here k h true t =
          let l = ltb-true k 256 t in
          Q.before (i + k) (omega arith) ∙ P.done k l ∙ ap (λ (s : ℕ). sixteen (dequantised (at levels (i + k)) s)) (sym (split_y f k l))
      here k h false t =
          let l = ltb-false k 256 t in
          let j = k - 256 in
          let m : i + 256 + j ≡ i + k = omega arith in
          let n : 256 + j ≡ k = omega arith in
          ap (at d₂) (sym m)
          ∙ Q.done j (omega arith)
          ∙ ap₂ (λ (m s : ℕ). sixteen (dequantised (at levels m) s)) m (sym (split_uv f j) ∙ ap (split_factor f) n)

-- ---- all of a macroblock, part after part: the first n numbers of d are the levels times their factors, in sixteen bits
pub record Reached (factor : ℕ → ℕ) (levels d : List ℤ) (n : ℕ) : Type 0 where
  pub done : (j : ℕ) → j < n → at d j ≡ sixteen (dequantised (at levels j) (factor j))

module _ (factor : ℕ → ℕ) (levels : List ℤ) where
  pub reached_none : (d : List ℤ) → Reached factor levels d 0
  reached_none d = record { done = λ j h. absurd (omega arith) }

  pub reached_more : {d d' : List ℤ} (i n : ℕ) (part : ℕ → ℕ) → ((k : ℕ) → k < n → factor (i + k) ≡ part k)
      → Reached factor levels d i → Part d d' i n (λ k. sixteen (dequantised (at levels (i + k)) (part k))) → Reached factor levels d' (i + n)
  reached_more {d} {d'} i n part e R P = record { done = λ j h. here j h (ltb j i) refl }
    where
      here : (j : ℕ) → j < i + n → (t : Bool) → ltb j i ≡ t → at d' j ≡ sixteen (dequantised (at levels j) (factor j))
      here j h true t = let l = ltb-true j i t in P.before j l ∙ R.done j l
      here j h false t =
          let l = ltb-false j i t in
          let k = j - i in
          let m : i + k ≡ j = omega arith in
          ap (at d') (sym m)
          ∙ P.done k (omega arith)
          ∙ ap (λ (s : ℕ). sixteen (dequantised (at levels (i + k)) s)) (sym (e k (omega arith)))
          ∙ ap (λ (j : ℕ). sixteen (dequantised (at levels j) (factor j))) m

  pub reached_all : {d : List ℤ} {n : ℕ} → length levels ≡ n → length d ≡ n → Reached factor levels d n → Kept (products factor levels) d
  reached_all {d} {n} p q R =
      record { size = q ∙ sym (length-products factor levels ∙ p); each = λ j. here j (ltb j n) refl ∙ ap sixteen (sym (product_at factor levels j)) }
    where
      here : (j : ℕ) (t : Bool) → ltb j n ≡ t → at d j ≡ sixteen (dequantised (at levels j) (factor j))
      here j true t = R.done j (ltb-true j n t)
      here j false t =
          let l = ltb-false j n t in
          get_or-eq_default d (pos 0) (omega arith)
          ∙ ap sixteen (sym (ap (λ (z : ℤ). dequantised z (factor j)) (get_or-eq_default levels (pos 0) {n = j} (omega arith)) ∙ zero_level (factor j)))
