-- Two windows with the same fractions, gathered side by side and filtered together. Assumes nothing.
use mathlib.Core.Path.{◌≡◌, refl, sym, ap, ◌∙◌}
use mathlib.Core.Bool.{Bool, true, false, cond}
use mathlib.Core.List.{List}
use Prim.Native.Nat.{ℕ, ◌+◌, ◌-◌, ◌*◌, ◌<◌, ◌≤◌}
use native.Mathlib.Omega.{arith}
use borrow.Author.Tests.{ltb-true, ltb-false}
use lib.Dec.{ltb}
use lib.ListN.{length, get_or}
use Rattle.rfc6386.specs.Raster.{raster, written}
use Rattle.rfc6386.specs.Picture.{halo_sample, halo_block}
use Rattle.rfc6386.proofs.Laws.Raster.{get_or-raster}
use Rattle.rfc6386.specs.declared.FilterSet.{FilterSet}
use Rattle.steps.specs.Window.{window_list, beside}
use Rattle.steps.proofs.Laws.Windows.{raster_of, window_sample_lem}
use Rattle.fours.proofs.Gathering.{Copies, Fit, Gathered, gathered_none, gathered_next, gathered_beside}
use Rattle.fours.proofs.Passes.{Made}

-- ---- n copies of `rows` rows: of the first window in the left half of the list's rows, of the second in the right
abbrev pub left_of : ℕ → ℕ → ℕ → ℕ → Copies
left_of w rows group n = record { s = w + w; x = 0; w = w; rows = rows; group = group; n = n }

abbrev pub right_of : ℕ → ℕ → ℕ → ℕ → Copies
right_of w rows group n = record { s = w + w; x = w; w = w; rows = rows; group = group; n = n }

module _ {w rows group n : ℕ} (some : 1 ≤ w) (down : rows ≤ group) where
  pub left_fit : Fit (left_of w rows group n)
  left_fit = record { some = some; across = omega arith; down = down }

  pub right_fit : Fit (right_of w rows group n)
  right_fit = record { some = some; across = omega arith; down = down }

pub record Paired (w rows group n : ℕ) (u : List ℕ) (au pu : ℕ) (v : List ℕ) (av pv : ℕ) (a : List ℕ) (k : ℕ) : Type 0 where
  pub left : Gathered (left_of w rows group n) u au pu a k
  pub right : Gathered (right_of w rows group n) v av pv a k

pub paired_none : {w rows group n : ℕ} {u : List ℕ} {au pu : ℕ} {v : List ℕ} {av pv : ℕ} {a : List ℕ} → length a ≡ n * group * (w + w)
    → Paired w rows group n u au pu v av pv a 0
paired_none e = record { left = gathered_none e; right = gathered_none e }

-- a turn: a copy of each, from row y of the list and from ku and kv on
module _ {w rows group n : ℕ} {u : List ℕ} {au pu : ℕ} {v : List ℕ} {av pv : ℕ} {a : List ℕ} {k : ℕ} (P : Paired w rows group n u au pu v av pv a k)
    (some : 1 ≤ w) (down : rows ≤ group) (hk : k < n) (y ku : ℕ) (ey : y ≡ k * group) (eu : ku ≡ au + k) {a₁ : List ℕ}
    (e : a₁ ≡ written a (w + w) 0 y w rows (λ r c. get_or u (ku + r * pu + c) 0)) where
  -- the left copy leaves the right ones
  pub paired_half : Gathered (right_of w rows group n) v av pv a₁ k
  paired_half =
      gathered_beside P.right (right_fit some down) (omega arith) 0 w (λ m g h i j. omega arith)
      y rows (λ r c. get_or u (ku + r * pu + c) 0) e

  -- and the right copy the left ones
  pub paired_more : (kv : ℕ) → kv ≡ av + k → {a₂ : List ℕ} → a₂ ≡ written a₁ (w + w) w y w rows (λ r c. get_or v (kv + r * pv + c) 0)
      → Paired w rows group n u au pu v av pv a₂ (k + 1)
  paired_more kv ev e₂ =
      record {
        left = gathered_beside (gathered_next P.left (left_fit some down) hk y ku ey eu e) (left_fit some down) (omega arith) w w (λ m g h i j. omega arith)
            y rows (λ r c. get_or v (kv + r * pv + c) 0) e₂;
        right = gathered_next paired_half (right_fit some down) hk y kv ey ev e₂;
      }

-- ---- what has the samples of both is the blocks side by side
pub pair_of : {w : ℕ} {set : FilterSet} {u : List ℕ} {au pu : ℕ} {v : List ℕ} {av pv mx my : ℕ} {o : List ℕ} → length o ≡ w * (w + w)
    → Made set u au pu mx my (w + w) 0 w w o → Made set v av pv mx my (w + w) w w w o
    → o ≡ beside w (halo_block w set (window_list (w + 5) u au pu) mx my) (halo_block w set (window_list (w + 5) v av pv) mx my)
unfolding beside halo_block
pair_of {w} {set} {u} {au} {pu} {v} {av} {pv} {mx} {my} {o} size L R =
    raster_of w (w + w) _ o size (λ r c hr hc. at r c hr hc (ltb c w) refl)
  where
    f : ℕ → ℕ → ℕ
    f = halo_sample set (window_list (w + 5) u au pu) (w + 5) mx my

    g : ℕ → ℕ → ℕ
    g = halo_sample set (window_list (w + 5) v av pv) (w + 5) mx my

    at : (r c : ℕ) → r < w → c < w + w → (b : Bool) → ltb c w ≡ b
        → get_or o (r * (w + w) + c) 0 ≡ cond b (get_or (raster w w f) (r * w + c) 0) (get_or (raster w w g) (r * w + (c - w)) 0)
    at r c hr hc true e =
        let h : c < w = ltb-true c w e in
        ap (λ (i : ℕ). get_or o i 0) (omega arith) ∙ L.has r c hr h ∙ window_sample_lem w set u au pu mx my r c hr h ∙ sym (get_or-raster w w f r c hr h)
    at r c hr hc false e =
        let h : w ≤ c = ltb-false c w e in
        let l : c - w < w = omega arith in
        ap (λ (i : ℕ). get_or o i 0) (omega arith) ∙ R.has r (c - w) hr l ∙ window_sample_lem w set v av pv mx my r (c - w) hr l ∙ sym (get_or-raster w w g r (c - w) hr l)
