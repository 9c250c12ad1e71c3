-- The C of sections 14.3 and 14.4 keeps what the first pass gives in sixteen bits, and the definition does not. Where the first pass stays
-- inside sixteen bits both are the same, and two blocks show that outside they are not. Assumes nothing.
use Rattle.std.specs.Prelude.{◌≡◌, refl, List, [], ◌∷◌, ℕ, zero, suc, ◌+◌, ◌-◌, ◌/◌, ◌%◌, ◌≤◌, ◌<◌, ℤ, pos, negsuc, nat_abs, ◌+ℤ◌, ◌-ℤ◌}
use Rattle.std.proofs.Common.{ap, ◌∙◌, le_trans, arith}
use Rattle.signed.specs.Int.{int, sum, diff}
use Rattle.signed.specs.Held.{Within, size-within}
use Rattle.rfc6386.specs.Number.{floor_mod, wrap16}
use Rattle.rfc6386.specs.Raster.{tab}
use Rattle.residue.specs.Transform.{Kernel, wht, dct, at, down, along, eighth, transform, inverse_wht, inverse_dct}
use Rattle.residue.specs.Inner.{Bounded}
use Rattle.residue.proofs.Ranges.{dct_within, wht_within}

-- in range a number is itself
wrap_in : (z : ℤ) → Within z 32767 32767 → wrap16 z ≡ z
wrap_in (pos a) h = omega (int, diff (pos ((a + 32768) % 65536)) (pos 32768))
wrap_in (negsuc a) h =
    let y = 32767 - a in
    let e : negsuc a +ℤ pos 32768 ≡ pos y = omega (int, sum (negsuc a) (pos 32768)) in
    ap (λ (x : ℤ). pos (floor_mod x 65536) -ℤ pos 32768) e ∙ omega (int, diff (pos (y % 65536)) (pos 32768))

abbrev pub along_wrapped : Kernel → List ℤ → ℕ → ℕ → ℤ
along_wrapped f x i j = f j (wrap16 (down f x i 0)) (wrap16 (down f x i 1)) (wrap16 (down f x i 2)) (wrap16 (down f x i 3))

unfoldable pub listing : Kernel → ℕ → List ℤ → List ℤ
listing f n x = tab 16 (λ k. eighth n (along_wrapped f x (k / 4) (k % 4)))

-- where every number of the first pass lies in sixteen bits
module _ (f : Kernel) (n : ℕ) (x : List ℤ) (h : (i j : ℕ) → j < 4 → Within (down f x i j) 32767 32767) where
  one : (i j : ℕ) → along_wrapped f x i j ≡ along f x i j
  one i j =
      let p = wrap_in (down f x i 0) (h i 0 (omega arith)) in
      let q = wrap_in (down f x i 1) (h i 1 (omega arith)) in
      let r = wrap_in (down f x i 2) (h i 2 (omega arith)) in
      let s = wrap_in (down f x i 3) (h i 3 (omega arith)) in
      λ k. f j (p k) (q k) (r k) (s k)

  pub listing_is : listing f n x ≡ transform f n x
  unfolding listing transform
  listing_is = λ t. tab 16 (λ k. eighth n (one (k / 4) (k % 4) t))

module _ (x : List ℤ) (p : nat_abs (at x 0) ≤ 21104) (h : Bounded 1 4095 x) where
  top : (j : ℕ) → j < 4 → Within (at x j) 21104 21104
  top zero m = size-within p
  top (suc j) m = let w : Within (at x (suc j)) 4095 4095 = size-within (h.small (suc j) (omega arith) (omega arith)) in omega arith

  low : (j : ℕ) → 4 ≤ j → j < 16 → Within (at x j) 4095 4095
  low j k m = size-within (h.small j (omega arith) m)

  pub listing-dct : listing dct 4 x ≡ inverse_dct x
  listing-dct =
      listing_is dct 4 x
      (λ i j m. dct_within i (top j m) (low (4 + j) (omega arith) (omega arith)) (low (8 + j) (omega arith) (omega arith)) (low (12 + j) (omega arith) (omega arith)))

module _ (x : List ℤ) (h : Bounded 0 8191 x) where
  size : (j : ℕ) → j < 16 → Within (at x j) 8191 8191
  size j m = size-within (h.small j (omega arith) m)

  small : (i j : ℕ) → j < 4 → Within (down wht x i j) 32767 32767
  small i j m =
      let w : Within (down wht x i j) 32764 32764 = wht_within i (size j (omega arith)) (size (4 + j) (omega arith)) (size (8 + j) (omega arith)) (size (12 + j) (omega arith)) in
      record { up_le = le_trans w.up_le (omega arith); dn_le = le_trans w.dn_le (omega arith) }

  pub listing-wht : listing wht 3 x ≡ inverse_wht x
  listing-wht = listing_is wht 3 x small

-- ---- numbers 0 and 8 of a block, the others 0
abbrev pub pair : ℤ → ℤ → List ℤ
pair a b =
    a ∷ pos 0 ∷ pos 0 ∷ pos 0 ∷ pos 0 ∷ pos 0 ∷ pos 0 ∷ pos 0 ∷ b ∷ pos 0 ∷ pos 0 ∷ pos 0 ∷ pos 0 ∷ pos 0 ∷ pos 0 ∷ pos 0 ∷ []

pub dct_defined : at (inverse_dct (pair (pos 32767) (pos 1))) 0 ≡ pos 4096
unfolding transform tab
dct_defined = refl

pub dct_listed : at (listing dct 4 (pair (pos 32767) (pos 1))) 0 ≡ negsuc 4095
unfolding listing tab
dct_listed = refl

-- and with number 4
abbrev pub three : ℤ → ℤ → ℤ → List ℤ
three a b c =
    a ∷ pos 0 ∷ pos 0 ∷ pos 0 ∷ b ∷ pos 0 ∷ pos 0 ∷ pos 0 ∷ c ∷ pos 0 ∷ pos 0 ∷ pos 0 ∷ pos 0 ∷ pos 0 ∷ pos 0 ∷ pos 0 ∷ []

pub wht_defined : at (inverse_wht (three (pos 16383) (pos 16383) (pos 2))) 0 ≡ pos 4096
unfolding transform tab
wht_defined = refl

pub wht_listed : at (listing wht 3 (three (pos 16383) (pos 16383) (pos 2))) 0 ≡ negsuc 4095
unfolding listing tab
wht_listed = refl
