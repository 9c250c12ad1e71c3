-- What finishing a block, a row of blocks and a plane is made of. Assumes nothing.
use mathlib.Core.Path.{◌≡◌, refl, sym, ap, ap₂, ◌∙◌, subst}
use mathlib.Core.List.{List}
use Prim.Native.Nat.{ℕ, ◌+◌, ◌-◌, ◌*◌, ◌/◌, ◌%◌, ◌<◌, ◌≤◌}
use native.Mathlib.Nat.{mul_assoc, add-mul, mul-le-mul_right}
use native.Mathlib.Omega.{arith}
use lib.ListN.{get_or}
use lib.IntN.{ℤ, pos, nat_abs}
use mir.Syntax.{w16}
use mir.Val.{SFits}
use Rattle.signed.specs.Held.{Within, add-within, shr-within}
use Rattle.rfc6386.specs.Filter.{clamp255}
use Rattle.rfc6386.proofs.Laws.Raster.{get_or-tab}
use Rattle.residue.specs.Transform.{at, dct, along, eighth, transform, inverse_dct, summed}
use Rattle.residue.specs.Coefficients.{block, residue_at}
use Rattle.residue.specs.Inner.{OnlyFirst}
use Rattle.residue.proofs.ShortPaths.{short-dct}
use Rattle.residue.proofs.Ranges.{dct_last, within_size}
use Rattle.residue.specs.Inner.{Bounded, Open, Inside, Area}
use Rattle.residue.proofs.Areas.{either, area_old, area_join}

-- ---- a block
-- the same area, said otherwise
pub area_as : {d d' : List ℕ} {i w y z a b : ℕ} {f g : ℕ → ℕ → ℕ} → Area d d' i w y z a b f → ((r q : ℕ) → Inside y z a b r q → f r q ≡ g r q) → Area d d' i w y z a b g
area_as A e = record { size = A.size; done = λ r q h. A.done r q h ∙ e r q h; rest = A.rest }

-- the sum with 0 is a sample itself
summed_0 : (n : ℕ) → n ≤ 255 → summed n (pos 0) ≡ n
unfolding clamp255
summed_0 n h = omega arith

module _ {b : List ℤ} (o : OnlyFirst b) where
  at_flat : {y x : ℕ} (r q : ℕ) → Inside y (y + 4) x (x + 4) r q → at (inverse_dct b) ((r - y) * 4 + (q - x)) ≡ eighth 4 (at b 0)
  at_flat {y} {x} r q m =
      ap (λ (l : List ℤ). at l ((r - y) * 4 + (q - x))) (short-dct b o) ∙ get_or-tab 16 (λ k. eighth 4 (at b 0)) ((r - y) * 4 + (q - x)) (pos 0) (omega (arith, m))

  -- it is left where its one number is 0
  pub finished_none : {d : List ℕ} {i w y x : ℕ} → pos 0 ≡ eighth 4 (at b 0) → ((j : ℕ) → get_or d j 0 ≤ 255)
      → Area d d i w y (y + 4) x (x + 4) (λ r q. summed (get_or d (i + (r * w + q)) 0) (at (inverse_dct b) ((r - y) * 4 + (q - x))))
  finished_none {d} {i} {w} e byte =
      record {
        size = refl;
        done = λ r q m.
            let n = get_or d (i + (r * w + q)) 0 in
            sym (summed_0 n (byte (i + (r * w + q)))) ∙ ap (summed n) (e ∙ sym (at_flat r q m));
        rest = λ j out. refl;
      }

-- the full transform leaves room for a sample in sixteen bits
pub dct_size : {b : List ℤ} → SFits w16 (at b 0) → Bounded 1 4095 b → Bounded 0 32512 (inverse_dct b)
unfolding transform
dct_size {b} f h =
    record {
      small = λ k p q.
          subst (λ (z : ℤ). nat_abs z ≤ 32512) (sym (get_or-tab 16 (λ k. eighth 4 (along dct b (k / 4) (k % 4))) k (pos 0) q)) (less (within_size (last (k / 4) (k % 4))));
    }
  where
    less : {n : ℕ} → n ≤ 21371 → n ≤ 32512
    less p = omega arith

    four : Within (pos 4) 4 0
    four = omega arith

    last : (i j : ℕ) → Within (eighth 4 (along dct b i j)) 21371 21371
    last i j =
        let e = shr-within 7 (add-within (dct_last f h i j) four) in
        record { up_le = omega (arith, e); dn_le = omega (arith, e) }

-- and with the full transform
pub finished_full : (b : List ℤ) {x : List ℤ} {d d' : List ℕ} {i w y q₀ : ℕ} → x ≡ inverse_dct b
    → Area d d' i w y (y + 4) q₀ (q₀ + 4) (λ r q. summed (get_or d (i + (r * w + q)) 0) (at x ((r - y) * 4 + (q - q₀))))
    → Area d d' i w y (y + 4) q₀ (q₀ + 4) (λ r q. summed (get_or d (i + (r * w + q)) 0) (at (inverse_dct b) ((r - y) * 4 + (q - q₀))))
finished_full b {d = d} {i = i} {w} {y} {q₀} e A = area_as A (λ r q m. ap (λ (x : List ℤ). summed (get_or d (i + (r * w + q)) 0) (at x ((r - y) * 4 + (q - q₀)))) e)

-- ---- a row of blocks, from row y on, with the coefficients from number n on: the first k are finished
abbrev pub in_row : List ℕ → ℕ → ℕ → ℕ → List ℤ → ℕ → ℕ → ℕ → ℕ
in_row d i w y c n r q = summed (get_or d (i + (r * w + q)) 0) (at (inverse_dct (block c (n + q / 4 * 16))) ((r - y) * 4 + q % 4))

pub row_more : (c : List ℤ) (i w y n k : ℕ) {d₀ d d' : List ℕ} {b : List ℤ} → Area d₀ d i w y (y + 4) 0 (4 * k) (in_row d₀ i w y c n) → 4 * k + 4 ≤ w → b ≡ block c (n + 4 * (4 * k))
    → Area d d' i w y (y + 4) (4 * k) (4 * k + 4) (λ r q. summed (get_or d (i + (r * w + q)) 0) (at (inverse_dct b) ((r - y) * 4 + (q - 4 * k))))
    → Area d₀ d' i w y (y + 4) 0 (4 * (k + 1)) (in_row d₀ i w y c n)
row_more c i w y n k {d₀} {d} {d'} {b} A h e B =
    area_join A B (omega arith) h (λ r q p s. omega (arith, p, s)) same
    (λ r q p. record { from_row = p.from_row; to_row = p.to_row; from-column = p.from-column; to-column = omega (arith, p) })
    (λ r q p. record { from_row = p.from_row; to_row = p.to_row; from-column = omega arith; to-column = omega (arith, p) })
    (λ r q P p f g.
    either q (4 * k)
    (λ l. f (record { from_row = p.from_row; to_row = p.to_row; from-column = p.from-column; to-column = l }))
    (λ l. g (record { from_row = p.from_row; to_row = p.to_row; from-column = l; to-column = omega (arith, p) })))
  where
    same : (r q : ℕ) → Inside y (y + 4) (4 * k) (4 * k + 4) r q
        → summed (get_or d (i + (r * w + q)) 0) (at (inverse_dct b) ((r - y) * 4 + (q - 4 * k))) ≡ in_row d₀ i w y c n r q
    same r q p =
        let u : 4 * (4 * k) ≡ q / 4 * 16 = omega (arith, p) in
        let v : q - 4 * k ≡ q % 4 = omega (arith, p) in
        ap₂ (λ (s : ℕ) (l : List ℤ). summed s (at (inverse_dct l) ((r - y) * 4 + (q - 4 * k)))) (area_old A (omega arith) r q (omega (arith, p)) (λ s. omega (arith, p, s))) e
        ∙ ap₂ (λ (m j : ℕ). summed (get_or d₀ (i + (r * w + q)) 0) (at (inverse_dct (block c (n + m))) ((r - y) * 4 + j))) u v

-- ---- a plane: the first k rows of its blocks are finished
abbrev pub in_plane : List ℕ → ℕ → ℕ → List ℤ → ℕ → ℕ → ℕ → ℕ
in_plane d i w c n r q = summed (get_or d (i + (r * w + q)) 0) (residue_at w c n r q)

pub plane_more : (c : List ℤ) (i w n k : ℕ) {d₀ d d' : List ℕ} → Area d₀ d i w 0 (4 * k) 0 w (in_plane d₀ i w c n)
    → Area d d' i w (4 * k) (4 * k + 4) 0 w (in_row d i w (4 * k) c (n + 4 * k * w)) → Area d₀ d' i w 0 (4 * (k + 1)) 0 w (in_plane d₀ i w c n)
plane_more c i w n k {d₀} {d} {d'} A B =
    area_join A B (omega arith) (omega arith) (λ r q p s. omega (arith, p, s)) same
    (λ r q p. record { from_row = p.from_row; to_row = omega (arith, p); from-column = p.from-column; to-column = p.to-column })
    (λ r q p. record { from_row = omega arith; to_row = omega (arith, p); from-column = p.from-column; to-column = p.to-column })
    (λ r q P p f g.
    either r (4 * k)
    (λ l. f (record { from_row = p.from_row; to_row = l; from-column = p.from-column; to-column = p.to-column }))
    (λ l. g (record { from_row = l; to_row = omega (arith, p); from-column = p.from-column; to-column = p.to-column })))
  where
    same : (r q : ℕ) → Inside (4 * k) (4 * k + 4) 0 w r q → in_row d i w (4 * k) c (n + 4 * k * w) r q ≡ in_plane d₀ i w c n r q
    same r q p =
        let y = 4 * k in
        let e : r / 4 * 4 ≡ y = omega (arith, p) in
        let f : r / 4 * (4 * w) ≡ y * w = sym (mul_assoc (r / 4) 4 w) ∙ ap (λ (m : ℕ). m * w) e in
        let u : n + y * w + q / 4 * 16 ≡ n + (r / 4 * (4 * w) + q / 4 * 16) = omega (arith, f) in
        let v : r - y ≡ r % 4 = omega (arith, p) in
        ap (λ (s : ℕ). summed s (at (inverse_dct (block c (n + y * w + q / 4 * 16))) ((r - y) * 4 + q % 4))) (area_old A (omega arith) r q p.to-column (λ s. omega (arith, p, s)))
        ∙ ap₂ (λ (m k : ℕ). summed (get_or d₀ (i + (r * w + q)) 0) (at (inverse_dct (block c m)) (k * 4 + q % 4))) u v

-- the rows that a row of blocks has stand in the plane, and its coefficients in the list
pub row_fits_in : (w y : ℕ) → w % 4 ≡ 0 → y % 4 ≡ 0 → y < w → ((y + 3) * w + w ≤ w * w) × (y * w + 4 * w ≤ w * w)
row_fits_in w y h k l =
    let e : (y + 4) * w ≤ w * w = mul-le-mul_right w (omega arith) in
    (omega (arith, add-mul y 3 w, add-mul y 4 w), omega (arith, add-mul y 4 w))

pub sixteenth : (y w : ℕ) → y % 4 ≡ 0 → w % 4 ≡ 0 → y * w % 16 ≡ 0
sixteenth y w h k =
    let e : y / 4 * 4 ≡ y = omega arith in
    let f : w / 4 * 4 ≡ w = omega arith in
    let g : y * w ≡ y / 4 * (w / 4) * 16 = ap₂ ◌*◌ (sym e) (sym f) ∙ product (y / 4) (w / 4) in
    omega (arith, g)
  where
    product : (a b : ℕ) → a * 4 * (b * 4) ≡ a * b * 16
    product a b = mul_assoc a 4 (b * 4) ∙ ap (λ (n : ℕ). a * n) (omega arith) ∙ sym (mul_assoc a b 16)

-- the numbers of a block but the first, of those that lie in the range
pub open_block : {c : List ℤ} {n m : ℕ} (i : ℕ) → Open c n m → i % 16 ≡ 0 → i + 16 ≤ m → Bounded 1 4095 (block c (n + i))
unfolding block
open_block {c} {n} {m} i o h l =
    record {
      small = λ k p q.
          subst (λ (z : ℤ). nat_abs z ≤ 4095)
          (ap (at c) (omega arith) ∙ sym (get_or-tab 16 (λ k. at c (n + i + k)) k (pos 0) q))
          (o.low (i + k) (omega arith) (λ e. omega arith));
    }
