-- Tallies: adding up the parts of samples one by one, what they come to, and the two totals out of one number. Assumes nothing.
use Rattle.std.specs.Prelude.{◌≡◌, refl, ℕ, zero, suc, ◌+◌, ◌-◌, ◌*◌, ◌/◌, ◌%◌, ◌<◌, ◌≤◌, List, length, get_or}
use Rattle.std.proofs.Common.{sym, ap, ap₂, ◌∙◌, arith}
use Rattle.rfc6386.specs.Sums.{sum_to, sum_rows}
use Rattle.rfc6386.specs.Clips.{is_low, is_high, both_clips, totals, halo_clips}
use Rattle.rfc6386.proofs.Laws.Sums.{sum_none, sum_more, sum-zero, sum_le, sum_parts, sum_rows_lem, rows_ext, rows_add, rows_times, rows_beside}
use Rattle.rfc6386.proofs.Laws.Steps.{step_le}
use Rattle.rfc6386.proofs.Laws.Clipping.{clip_bilinear, halo_clips_le, halo_clips_whole}
use Rattle.rfc6386.specs.declared.FilterSet.{FilterSet}
use Rattle.rfc6386.specs.declared.FilterSet.TheVariants.{Bilinear}
use Rattle.rfc6386.specs.declared.Clip.{Clip}
use Rattle.rfc6386.specs.declared.Clip.TheVariants.{Low, High, None}
use Rattle.rfc6386.specs.declared.Clips.{Clips}
use Rattle.steps.specs.Tally.{part, tally_of, strip_tally}
use Rattle.steps.specs.Window.{window_list, window_clip}
use Rattle.steps.proofs.Laws.Windows.{window_whole, window_clip_lem, clips_as}
use Rattle.steps.proofs.Laws.Samples.{lower_clip}

pub part_le : (c : Clip) → part c ≤ 513
part_le Low = omega arith
part_le High = omega arith
part_le None = omega arith

pub part_small : (c : Clip) {p : ℕ} → p ≡ part c → p ≤ 513
part_small c e = omega (arith, part_le c)

pub parts_le : (n : ℕ) (f : ℕ → Clip) → sum_to n (λ i. part (f i)) ≤ n * 513
parts_le n f = sum_le n 513 (λ i. part (f i)) (λ i h. part_le (f i))

-- of a strip, by what its samples are
pub strip_ext : (rows : ℕ) {f g : ℕ → ℕ → Clip} → ((r c : ℕ) → f r c ≡ g r c) → strip_tally rows f ≡ strip_tally rows g
strip_ext rows h = rows_ext rows 8 _ _ (λ r c hr hc. ap part (h r c))

-- ---- a loop that adds h n in turn n
pub record Tallying (h : ℕ → ℕ) (n tally : ℕ) : Type 0 where
  pub is : tally ≡ sum_to n h

pub tallying_none : {h : ℕ → ℕ} → Tallying h 0 0
tallying_none {h} = record { is = sym (sum_none h) }

pub tallying_more : {h : ℕ → ℕ} {n tally p : ℕ} → Tallying h n tally → p ≡ h n → Tallying h (n + 1) (tally + p)
tallying_more {h} {n} T e = record { is = ap₂ ◌+◌ T.is e ∙ sym (sum_more n h) }

-- where each is m at most
pub tallying_room : {h : ℕ → ℕ} {n tally p : ℕ} (m : ℕ) → ((i : ℕ) → h i ≤ m) → Tallying h n tally → p ≡ h n → tally + p ≤ n * m + m
tallying_room {h} {n} m le T e = omega (arith, T.is, sum_le n m h (λ i l. le i), le n)

pub tallying_all : {h : ℕ → ℕ} {n m tally : ℕ} → Tallying h n tally → n ≡ m → tally ≡ sum_to m h
tallying_all {h} T e = T.is ∙ ap (λ (n : ℕ). sum_to n h) e

-- ---- the two totals
part-digits : (c : Clip) → part c ≡ is_low c + is_high c + 512 * is_low c
part-digits Low = refl
part-digits High = refl
part-digits None = refl

-- THEOREM. The parts of n by n samples add up to the tally of their totals.
pub tally-totals : (n : ℕ) (f : ℕ → ℕ → Clip) → sum_rows n n (λ r c. part (f r c)) ≡ tally_of (totals n f)
unfolding totals
tally-totals n f =
    let low : ℕ → ℕ → ℕ = λ r c. is_low (f r c) in
    let high : ℕ → ℕ → ℕ = λ r c. is_high (f r c) in
    rows_ext n n _ (λ r c. low r c + high r c + 512 * low r c) (λ r c hr hc. part-digits (f r c))
    ∙ rows_add n n (λ r c. low r c + high r c) (λ r c. 512 * low r c)
    ∙ ap₂ ◌+◌ (rows_add n n low high) (rows_times n n 512 low)

-- and of two blocks to the sum of both
pub tally_both : (a b : Clips) → tally_of (both_clips a b) ≡ tally_of a + tally_of b
tally_both a b = omega arith

-- THEOREM. Where no more than 511 are clipped, the digits are the totals.
module _ (k : Clips) {tally : ℕ} (h : k.low + k.high ≤ 511) (e : tally ≡ tally_of k) where
  pub digits_fit : tally / 512 ≤ tally % 512
  digits_fit = omega arith

  pub digits : ◌≡◌ {A = Clips} (record { low = tally / 512; high = tally % 512 - tally / 512 }) k
  digits =
      let low : tally / 512 ≡ k.low = omega arith in
      let high : tally % 512 - tally / 512 ≡ k.high = omega arith in
      λ i. record { low = low i; high = high i }

-- so with a block of no more samples
module _ (n : ℕ) (set : FilterSet) (l : List ℕ) (mx my : ℕ) {tally : ℕ} (h : n * n ≤ 511) (e : tally ≡ tally_of (halo_clips n set l mx my)) where
  few : (halo_clips n set l mx my).low + (halo_clips n set l mx my).high ≤ 511
  few = omega (arith, halo_clips_le n set l mx my)

  pub halo_fit : tally / 512 ≤ tally % 512
  halo_fit = digits_fit (halo_clips n set l mx my) few e

  pub halo-digits : ◌≡◌ {A = Clips} (record { low = tally / 512; high = tally % 512 - tally / 512 }) (halo_clips n set l mx my)
  halo-digits = digits (halo_clips n set l mx my) few e

-- and none of it where both fractions are 0
pub whole_tally : (n : ℕ) (set : FilterSet) (l : List ℕ) {mx my : ℕ} → mx ≡ 0 → my ≡ 0 → 0 ≡ tally_of (halo_clips n set l mx my)
whole_tally n set l ex ey = ap tally_of (sym (halo_clips_whole n set l) ∙ clips_as n l refl ex ey)

-- those of the block that the filters make of a window
pub window_tally : (n : ℕ) (set : FilterSet) (src : List ℕ) (at pitch mx my : ℕ)
    → sum_rows n n (λ r c. part (window_clip set src at pitch mx my r c)) ≡ tally_of (halo_clips n set (window_list (n + 5) src at pitch) mx my)
unfolding halo_clips
window_tally n set src at pitch mx my =
    rows_ext n n _ _ (λ r c hr hc. ap part (window_clip_lem n set src at pitch mx my r c hr hc)) ∙ tally-totals n _

-- which may be the halo itself
pub own_tally : (n : ℕ) (set : FilterSet) (l : List ℕ) (mx my : ℕ) → length l ≡ (n + 5) * (n + 5)
    → tally_of (halo_clips n set (window_list (n + 5) l 0 (n + 5)) mx my) ≡ tally_of (halo_clips n set l mx my)
own_tally n set l mx my e = ap (λ (l : List ℕ). tally_of (halo_clips n set l mx my)) (window_whole (n + 5) l e)

-- a strip of h rows and the one of k below it are one of both
pub lower_tally : (h k : ℕ) (set : FilterSet) (src : List ℕ) (at pitch mx my : ℕ)
    → strip_tally h (window_clip set src at pitch mx my) + strip_tally k (window_clip set src (at + h * pitch) pitch mx my) ≡ strip_tally (h + k) (window_clip set src at pitch mx my)
lower_tally h k set src at pitch mx my =
    ap (λ (n : ℕ). strip_tally h (window_clip set src at pitch mx my) + n) (strip_ext k (lower_clip set src at pitch h mx my))
    ∙ sym (sum_parts h k (λ r. sum_to 8 (λ c. part (window_clip set src at pitch mx my r c))))

-- none under bilinear
clip_none : (src : List ℕ) (at pitch : ℕ) → ((i : ℕ) → get_or src i 0 < 256) → (mx my r c : ℕ) → mx < 8 → my < 8 → window_clip Bilinear src at pitch mx my r c ≡ None
unfolding window_clip
clip_none src at pitch bytes zero zero r c hx hy = refl
clip_none src at pitch bytes (suc mx) zero r c hx hy =
    let i = at + (r + 2) * pitch + c in
    clip_bilinear (suc mx) _ _ (get_or src (i + 2 * 1) 0) (get_or src (i + 3 * 1) 0) _ _ hx (omega (arith, bytes (i + 2 * 1))) (omega (arith, bytes (i + 3 * 1)))
clip_none src at pitch bytes mx (suc my) r c hx hy = clip_bilinear (suc my) _ _ _ _ _ _ hy (step_le _ _) (step_le _ _)

pub rows_bilinear : (rows w : ℕ) {set : FilterSet} (src : List ℕ) (at pitch mx my : ℕ) → set ≡ Bilinear → ((i : ℕ) → get_or src i 0 < 256) → mx < 8 → my < 8
    → sum_rows rows w (λ r c. part (window_clip set src at pitch mx my r c)) ≡ 0
rows_bilinear rows w src at pitch mx my e bytes hx hy =
    ap (λ (set : FilterSet). sum_rows rows w (λ r c. part (window_clip set src at pitch mx my r c))) e
    ∙ sum-zero rows _ (λ r hr. sum-zero w _ (λ c hc. ap part (clip_none src at pitch bytes mx my r c hx hy)))

pub window_bilinear : (n : ℕ) {set : FilterSet} (src : List ℕ) (at pitch mx my : ℕ) → set ≡ Bilinear → ((i : ℕ) → get_or src i 0 < 256) → mx < 8 → my < 8
    → tally_of (halo_clips n set (window_list (n + 5) src at pitch) mx my) ≡ 0
window_bilinear n {set} src at pitch mx my e bytes hx hy = sym (window_tally n set src at pitch mx my) ∙ rows_bilinear n n src at pitch mx my e bytes hx hy

-- ---- a line of samples by its rows: s to a row, of which w from column x on are f's
abbrev pub Says : ℕ → ℕ → ℕ → ℕ → (ℕ → Clip) → (ℕ → ℕ → Clip) → Type 0
Says s x w rows g f = (r c : ℕ) → r < rows → c < w → g (r * s + (x + c)) ≡ f r c

pub says_rows : (w rows : ℕ) (g : ℕ → Clip) (f : ℕ → ℕ → Clip) → Says w 0 w rows g f → sum_to (rows * w) (λ i. part (g i)) ≡ sum_rows rows w (λ r c. part (f r c))
says_rows w rows g f S = sum_rows_lem rows w (λ i. part (g i)) ∙ rows_ext rows w _ _ (λ r c hr hc. ap part (ap g (omega arith) ∙ S r c hr hc))

-- two windows side by side
pub says_both : (w rows : ℕ) (g : ℕ → Clip) (f h : ℕ → ℕ → Clip) → Says (w + w) 0 w rows g f → Says (w + w) w w rows g h
    → sum_to (rows * (w + w)) (λ i. part (g i)) ≡ sum_rows rows w (λ r c. part (f r c)) + sum_rows rows w (λ r c. part (h r c))
says_both w rows g f h S T =
    sum_rows_lem rows (w + w) (λ i. part (g i))
    ∙ rows_beside rows w w (λ r c. part (g (r * (w + w) + c)))
    ∙ ap₂ ◌+◌
    (rows_ext rows w _ _ (λ r c hr hc. ap part (ap g (omega arith) ∙ S r c hr hc)))
    (rows_ext rows w _ _ (λ r c hr hc. ap part (T r c hr hc)))
