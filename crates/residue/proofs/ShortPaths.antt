-- A block with only its first coefficient nonzero: all sixteen outputs are one number. Assumes nothing.
use Rattle.std.specs.Prelude.{◌≡◌, refl, List, ℕ, zero, suc, ◌+◌, ◌/◌, ◌%◌, ◌<◌, ℤ, pos, ◌+ℤ◌, ◌-ℤ◌}
use Rattle.std.proofs.Common.{◌∙◌, arith}
use Rattle.signed.specs.Int.{int, sum, diff}
use Rattle.rfc6386.specs.Raster.{tab}
use Rattle.residue.specs.Inner.{OnlyFirst}
use Rattle.residue.specs.Transform.{Kernel, wht, dct, at, down, along, eighth, transform, inverse_wht, inverse_dct}

-- sixteen times (z + n) / 8
abbrev pub flat : ℕ → ℤ → List ℤ
flat n z = tab 16 (λ k. eighth n z)

-- a kernel that gives its first number four times, where the other three are 0
abbrev pub Spreads : Kernel → Type 0
Spreads f = (k : ℕ) (a : ℤ) → f k a (pos 0) (pos 0) (pos 0) ≡ a

pub add_0 : (a : ℤ) → a +ℤ pos 0 ≡ a
add_0 a = omega (int, sum a (pos 0))

pub sub_0 : (a : ℤ) → a -ℤ pos 0 ≡ a
sub_0 a = omega (int, diff a (pos 0))

pub 0_add : (a : ℤ) → pos 0 +ℤ a ≡ a
0_add a = omega (int, sum (pos 0) a)

pub dct_spreads : Spreads dct
dct_spreads zero a = add_0 (a +ℤ pos 0) ∙ add_0 a
dct_spreads (suc zero) a = add_0 (a -ℤ pos 0) ∙ sub_0 a
dct_spreads (suc (suc zero)) a = sub_0 (a -ℤ pos 0) ∙ sub_0 a
dct_spreads (suc (suc (suc k))) a = sub_0 (a +ℤ pos 0) ∙ add_0 a

pub wht_spreads : Spreads wht
wht_spreads zero a = add_0 (a +ℤ pos 0) ∙ add_0 a
wht_spreads (suc zero) a = 0_add (a -ℤ pos 0) ∙ sub_0 a
wht_spreads (suc (suc zero)) a = sub_0 (a +ℤ pos 0) ∙ add_0 a
wht_spreads (suc (suc (suc k))) a = sub_0 (a -ℤ pos 0) ∙ sub_0 a

module _ (f : Kernel) (s : Spreads f) (x : List ℤ) (h : OnlyFirst x) where
  -- column j
  below : (i j : ℕ) {a : ℤ} → j < 4 → at x j ≡ a → down f x i j ≡ a
  below i j {a} m e =
      let p = h.rest (4 + j) (omega arith) (omega arith) in
      let q = h.rest (8 + j) (omega arith) (omega arith) in
      let r = h.rest (12 + j) (omega arith) (omega arith) in
      (λ k. f i (e k) (p k) (q k) (r k)) ∙ s i a

  one : (i j : ℕ) → along f x i j ≡ at x 0
  one i j =
      let e = below i 0 (omega arith) refl in
      let p = below i 1 (omega arith) (h.rest 1 (omega arith) (omega arith)) in
      let q = below i 2 (omega arith) (h.rest 2 (omega arith) (omega arith)) in
      let r = below i 3 (omega arith) (h.rest 3 (omega arith) (omega arith)) in
      (λ k. f j (e k) (p k) (q k) (r k)) ∙ s j (at x 0)

  pub transform-flat : (n : ℕ) → transform f n x ≡ flat n (at x 0)
  unfolding transform
  transform-flat n = λ t. tab 16 (λ k. eighth n (one (k / 4) (k % 4) t))

pub short-dct : (x : List ℤ) → OnlyFirst x → inverse_dct x ≡ flat 4 (at x 0)
short-dct x h = transform-flat dct dct_spreads x h 4

pub short-wht : (x : List ℤ) → OnlyFirst x → inverse_wht x ≡ flat 3 (at x 0)
short-wht x h = transform-flat wht wht_spreads x h 3
