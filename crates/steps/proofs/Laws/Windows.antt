-- A window as a list, and its samples as those of the block in that list, at any width. Assumes nothing.
use Rattle.std.specs.Prelude.{◌≡◌, Bool, true, false, ltb, ℤ, length}
use Rattle.std.proofs.Math.Path.{refl, ap, ap₂}
use Rattle.std.proofs.Common.{sym, ◌∙◌, add-mul, arith, lt-ltb, le-ltb}
use Rattle.std.proofs.Math.Bool.{cond}
use mathlib.Core.List.{List}
use Prim.Native.Nat.{ℕ, zero, suc, ◌+◌, ◌-◌, ◌*◌, ◌<◌, ◌≤◌}
use Rattle.std.proofs.Math.ListN.{get_or}
use Rattle.rfc6386.specs.Filter.{taps_of, step}
use Rattle.rfc6386.specs.Raster.{raster, written}
use Rattle.rfc6386.specs.Picture.{six_at, step_at, halo_sample, halo_block}
use Rattle.rfc6386.specs.Clips.{step_clip, halo_clip, halo_clips}
use Rattle.rfc6386.proofs.Laws.Raster.{is-tab, length-raster, get_or-raster, raster_ext, tab-raster, written_all, written_ext}
use Rattle.rfc6386.proofs.Laws.Steps.{same_six}
use Rattle.rfc6386.specs.declared.FilterSet.{FilterSet}
use Rattle.steps.specs.Rows.{Held}
use Rattle.steps.specs.Window.{window_list, put_at, beside, along, six_down, window_sample, window_clip}

module _ (n : ℕ) (src : List ℕ) (at pitch : ℕ) where
  pub window_at : (r c : ℕ) → r < n → c < n → get_or (window_list n src at pitch) (r * n + c) 0 ≡ get_or src (at + r * pitch + c) 0
  unfolding window_list
  window_at r c hr hc = get_or-raster n n _ r c hr hc

-- THEOREM. Six neighbours of the list are six neighbours of the window, and a step over the ones is a step over the others.
pub window_six : (n : ℕ) (src : List ℕ) (at pitch r c : ℕ) → r < n → c + 5 < n
    → six_at (window_list n src at pitch) (r * n + c) 1 ≡ six_at src (at + r * pitch + c) 1
window_six n src at pitch r c hr hc =
    same_six
    (one 0 _ _ (omega arith) (omega arith) (omega arith)) (one 1 _ _ (omega arith) (omega arith) (omega arith)) (one 2 _ _ (omega arith) (omega arith) (omega arith))
    (one 3 _ _ (omega arith) (omega arith) (omega arith)) (one 4 _ _ (omega arith) (omega arith) (omega arith)) (one 5 _ _ (omega arith) (omega arith) (omega arith))
  where
    one : (i p q : ℕ) → i < 6 → p ≡ r * n + (c + i) → q ≡ at + r * pitch + (c + i) → get_or (window_list n src at pitch) p 0 ≡ get_or src q 0
    one i p q h ep eq =
        ap (λ (k : ℕ). get_or (window_list n src at pitch) k 0) ep
        ∙ window_at n src at pitch r (c + i) hr (omega arith)
        ∙ ap (λ (k : ℕ). get_or src k 0) (sym eq)

pub window-step : (ts : List ℤ) (n : ℕ) (src : List ℕ) (at pitch r c : ℕ) → r < n → c + 5 < n
    → step_at ts (window_list n src at pitch) (r * n + c) 1 ≡ step_at ts src (at + r * pitch + c) 1
window-step ts n src at pitch r c hr hc = ap (step ts) (window_six n src at pitch r c hr hc)

-- a list by its rows
pub raster_of : (rows w : ℕ) (f : ℕ → ℕ → ℕ) (l : List ℕ) → length l ≡ rows * w
    → ((r c : ℕ) → r < rows → c < w → get_or l (r * w + c) 0 ≡ f r c) → l ≡ raster rows w f
raster_of rows w f l e h = is-tab 0 (rows * w) (λ i. get_or l i 0) l e (λ i h. refl) ∙ tab-raster rows w _ ∙ raster_ext rows w _ _ h

-- THEOREM (far). A list of n by n samples is its own window.
pub window_whole : (n : ℕ) (l : List ℕ) → length l ≡ n * n → window_list n l 0 n ≡ l
unfolding window_list
window_whole n l e = sym (raster_of n n _ l e (λ r c hr hc. ap (λ (k : ℕ). get_or l k 0) (omega arith)))

module _ (w : ℕ) (set : FilterSet) (src : List ℕ) (at pitch : ℕ) where
  -- six horizontal steps above each other
  window_down : (mx r c : ℕ) → r < w → c < w
      → six_down (along (taps_of set mx) src at pitch) r c ≡ six_down (λ q c. step_at (taps_of set mx) (window_list (w + 5) src at pitch) (q * (w + 5) + c) 1) r c
  window_down mx r c hr hc =
      same_six (row r (omega arith)) (row (r + 1) (omega arith)) (row (r + 2) (omega arith)) (row (r + 3) (omega arith)) (row (r + 4) (omega arith)) (row (r + 5) (omega arith))
    where
      row : (q : ℕ) → q < w + 5 → along (taps_of set mx) src at pitch q c ≡ step_at (taps_of set mx) (window_list (w + 5) src at pitch) (q * (w + 5) + c) 1
      row q hq = sym (window-step (taps_of set mx) (w + 5) src at pitch q c hq (omega arith))

  -- THEOREM (the key). Both steps over the window are the sample of the block in the window as a list,
  pub window_sample_lem : (mx my r c : ℕ) → r < w → c < w
      → window_sample set src at pitch mx my r c ≡ halo_sample set (window_list (w + 5) src at pitch) (w + 5) mx my r c
  unfolding halo_sample window_sample
  window_sample_lem mx my r c hr hc = ap (step (taps_of set my)) (window_down mx r c hr hc)

  -- and clipped where that is.
  pub window_clip_lem : (mx my r c : ℕ) → r < w → c < w
      → window_clip set src at pitch mx my r c ≡ halo_clip set (window_list (w + 5) src at pitch) (w + 5) mx my r c
  unfolding halo_clip window_clip
  window_clip_lem zero zero r c hr hc = refl
  window_clip_lem (suc mx) zero r c hr hc = ap (step_clip (taps_of set (suc mx))) (sym (window_six (w + 5) src at pitch (r + 2) c (omega arith) (omega arith)))
  window_clip_lem mx (suc my) r c hr hc = ap (step_clip (taps_of set (suc my))) (window_down mx r c hr hc)

  -- so that a block of such samples is the block in the list
  pub window_block_lem : (mx my : ℕ) (f : ℕ → ℕ → ℕ) → ((r c : ℕ) → r < w → c < w → f r c ≡ window_sample set src at pitch mx my r c)
      → raster w w f ≡ halo_block w set (window_list (w + 5) src at pitch) mx my
  unfolding halo_block
  window_block_lem mx my f h = raster_ext w w _ _ (λ r c hr hc. h r c hr hc ∙ window_sample_lem mx my r c hr hc)

-- ---- a part of what lies in a list
module _ {bytes : ℕ} (at pitch n rows : ℕ) (H : Held bytes at pitch n rows) where
  pub held_right : (k w : ℕ) → k + w ≤ n → Held bytes (at + k) pitch w rows
  held_right k w e r h = omega (arith, H r h)

  pub held_down : (k m : ℕ) → k + m ≤ rows → Held bytes (at + k * pitch) pitch n m
  held_down k m e r h = omega (arith, H (k + r) (omega arith), add-mul k r pitch)

-- ---- what one pass over a window reads, from its third column or row on
module _ {bytes : ℕ} (at pitch w rows : ℕ) (H : Held bytes at pitch (w + 5) (rows + 5)) where
  pub held_third : at + 2 * pitch + (w + 5) ≤ bytes
  held_third = H 2 (omega arith)

  pub held_columns : Held bytes (at + 2) pitch (w + 5 * pitch) rows
  held_columns r h = omega (arith, H (r + 5) (omega arith), add-mul r 5 pitch)

  pub held_lines : Held bytes (at + 2 * pitch) pitch (w + 5 * 1) rows
  held_lines r h = omega (arith, H (2 + r) (omega arith), add-mul 2 r pitch)

  -- with two taps
  pub held_next-row : Held bytes (at + 2 * pitch + 2) pitch (w + pitch) rows
  held_next-row r h = omega (arith, H (r + 3) (omega arith), add-mul r 3 pitch)

  pub held_next_column : Held bytes (at + 2 * pitch + 2) pitch (w + 1) (rows + 1)
  held_next_column r h = omega (arith, H (2 + r) (omega arith), add-mul 2 r pitch)

-- ---- a block put in place, by what the block is
pub put_as : (out : List ℕ) (stride x y n : ℕ) {o b l : List ℕ} → o ≡ put_at out stride x y n b → b ≡ l → o ≡ put_at out stride x y n l
put_as out stride x y n e h = e ∙ ap (put_at out stride x y n) h

-- a block by what its table and fractions are
pub block_as : (n : ℕ) {set set' : FilterSet} (l : List ℕ) {mx mx' my my' : ℕ} → set ≡ set' → mx ≡ mx' → my ≡ my'
    → halo_block n set' l mx' my' ≡ halo_block n set l mx my
block_as n l es ex ey = sym (λ i. halo_block n (es i) l (ex i) (ey i))

pub clips_as : (n : ℕ) {set set' : FilterSet} (l : List ℕ) {mx mx' my my' : ℕ} → set ≡ set' → mx ≡ mx' → my ≡ my'
    → halo_clips n set' l mx' my' ≡ halo_clips n set l mx my
clips_as n l es ex ey = sym (λ i. halo_clips n (es i) l (ex i) (ey i))

-- ---- a block put over all of a list
pub length-halo_block : (n : ℕ) (set : FilterSet) (l : List ℕ) (mx my : ℕ) → length (halo_block n set l mx my) ≡ n * n
unfolding halo_block
length-halo_block n set l mx my = length-raster n n _

pub put_whole : (n : ℕ) (out block : List ℕ) → length out ≡ n * n → length block ≡ n * n → put_at out n 0 0 n block ≡ block
put_whole n out block e h =
    written_all out n n _ e
    ∙ sym (raster_of n n _ block h (λ r c hr hc. ap (λ (k : ℕ). get_or block k 0) (omega arith)))

pub length-beside : (n : ℕ) (l m : List ℕ) → length (beside n l m) ≡ n * (n + n)
unfolding beside
length-beside n l m = length-raster n (n + n) _

-- ---- one of two blocks that stand side by side, put in place
module _ (n : ℕ) (l m : List ℕ) {b : List ℕ} (h : b ≡ beside n l m) where
  look : (r c : ℕ) → r < n → c < n + n → (t : Bool) → ltb c n ≡ t → (i : ℕ) → i ≡ r * (n + n) + c
      → get_or b i 0 ≡ cond t (get_or l (r * n + c) 0) (get_or m (r * n + (c - n)) 0)
  unfolding beside
  look r c hr hc t e i ei =
      ap₂ (λ (k : List ℕ) (i : ℕ). get_or k i 0) h ei
      ∙ get_or-raster n (n + n) _ r c hr hc
      ∙ ap (λ (t : Bool). cond t (get_or l (r * n + c) 0) (get_or m (r * n + (c - n)) 0)) e

  pub put_left : (out : List ℕ) (stride x y : ℕ) {o : List ℕ} → o ≡ written out stride x y n n (λ r c. get_or b (0 + r * (n + n) + c) 0) → o ≡ put_at out stride x y n l
  put_left out stride x y e =
      e ∙ written_ext out stride x y n n _ _
      (λ r c hr hc. look r c hr (omega arith) true (lt-ltb c n hc) _ (omega arith) ∙ ap (λ (i : ℕ). get_or l i 0) (omega arith))

  pub put_right : (out : List ℕ) (stride x y : ℕ) {o : List ℕ} → o ≡ written out stride x y n n (λ r c. get_or b (n + r * (n + n) + c) 0) → o ≡ put_at out stride x y n m
  put_right out stride x y e =
      e ∙ written_ext out stride x y n n _ _
      (λ r c hr hc. look r (n + c) hr (omega arith) false (le-ltb (n + c) n (omega arith)) _ (omega arith) ∙ ap (λ (i : ℕ). get_or m i 0) (omega arith))
