-- What the filters make of a window that is a block's halo is the block, near and far, and what it takes is counted so. Assumes nothing.
use mathlib.Core.Path.{◌≡◌, sym, ap, ap₂, ◌∙◌, subst}
use mathlib.Core.Bool.{Bool, true, false, cond}
use mathlib.Core.List.{List}
use Prim.Native.Nat.{ℕ, ◌+◌, ◌*◌, ◌≤◌}
use native.Mathlib.Nat.{mul-le-mul}
use native.Mathlib.Omega.{arith}
use lib.IntN.{ℤ}
use lib.ListN.{length, get_or}
use Rattle.rfc6386.specs.Vector.{is_whole}
use Rattle.rfc6386.specs.Raster.{raster}
use Rattle.rfc6386.specs.Picture.{Plane, Image, image, square, block, halo, halo_block}
use Rattle.rfc6386.specs.Fetched.{square_of, pixels_of, halo_of, block_of}
use Rattle.rfc6386.specs.Clips.{halo_clips}
use Rattle.rfc6386.proofs.Laws.Raster.{length-raster}
use Rattle.rfc6386.proofs.Laws.Refusals.{PlaneAccepts}
use Rattle.rfc6386.proofs.Laws.Samples.{Bytes}
use Rattle.rfc6386.proofs.Laws.Halos.{filtered-block}
use Rattle.rfc6386.proofs.Laws.Fetched.{length-square}
use Rattle.rfc6386.proofs.Laws.Clipping.{filtered_clips, whole_clips_lem}
use Rattle.rfc6386.specs.declared.Mv.{Mv}
use Rattle.rfc6386.specs.declared.FilterSet.{FilterSet}
use Rattle.steps.specs.Rows.{Held}
use Rattle.steps.specs.Tally.{tally_of}
use Rattle.steps.specs.Window.{window_list, window_block, sample_of, Strips}
use Rattle.steps.proofs.Laws.Windows.{window_whole, window_block_lem}
use Rattle.steps.specs.declared.way.Way.{Way}
use Rattle.steps.specs.declared.rect.Window.{Window}
use Rattle.blocks.specs.Lents.{plane_in}
use Rattle.blocks.specs.Places.{WayOf, plane_at, Alike, Lies, halo_start, HaloAt}
use Rattle.blocks.specs.Taken.{block_takes}
use Rattle.blocks.specs.declared.place.Place.{Place}
use Rattle.blocks.specs.declared.lent.Lent.{Lent}
use Rattle.blocks.proofs.Squares.{plain_held, near_is}
use Rattle.blocks.proofs.Fetches.{accepted}

-- THEOREM. Out of a list that is the halo, it makes the block.
pub way_block : (n : ℕ) (set : FilterSet) (img : Image) (x y : ℕ) (v : Mv) → Bytes img → {w : Way} → WayOf v set w → {l o : List ℕ} → l ≡ halo n img x y v
    → o ≡ halo_block n w.set l w.mx w.my → o ≡ block n set img x y v
way_block n set img x y v B {w} e {l} h q =
    filtered-block n set img x y v B h e.mx_is e.my_is (q ∙ ap (λ (s : FilterSet). halo_block n s l w.mx w.my) e.set_is)

-- ---- near: the window in the plane
module _ (n : ℕ) {bytes : List ℕ} {at : Place} {v : Mv} {i j : ℕ} (A : PlaneAccepts (plane_at bytes at) at.x at.y) (H : HaloAt at v (n + 5) i j) where
  pub near_held : Held (length bytes) (j * at.stride + i) at.stride (n + 5) (n + 5)
  near_held = plain_held A.fits H.across H.down

  pub near_window : window_list (n + 5) bytes (j * at.stride + i) at.stride ≡ halo n (image (plane_at bytes at)) at.x at.y v
  near_window = near_is A.fits H.across H.down

-- the same of what is lent, where `find` found the halo and `window` says where it lies
module _ (n : ℕ) (l : Lent) {v : Mv} {i j : ℕ} {w : Window} (e : w ≡ record { at = j * l.at.stride + i; pitch = l.at.stride }) (H : HaloAt l.at v (n + 5) i j) where
  pub found_held : Held (length l.plane.now) w.at w.pitch (n + 5) (n + 5)
  found_held = subst (λ (w : Window). Held (length l.plane.now) w.at w.pitch (n + 5) (n + 5)) (sym e) (near_held n (accepted l) H)

  pub found_window : window_list (n + 5) l.plane.now w.at w.pitch ≡ halo n (image (plane_in l)) l.at.x l.at.y v
  found_window = ap (λ (w : Window). window_list (n + 5) l.plane.now w.at w.pitch) e ∙ near_window n (accepted l) H

-- what is found of U holds of V
pub alike_near : {p q : Place} {v : Mv} {n i j : ℕ} → Alike p q → HaloAt p v n i j → HaloAt q v n i j
alike_near {p} {q} {v} {n} {i} {j} A H =
    record {
      across = subst (λ (k : ℕ). Lies (halo_start k v.col) n q.w i) A.column (subst (λ (k : ℕ). Lies (halo_start p.x v.col) n k i) A.width H.across);
      down = subst (λ (k : ℕ). Lies (halo_start k v.row) n q.h j) A.row (subst (λ (k : ℕ). Lies (halo_start p.y v.row) n k j) A.height H.down);
    }

-- ---- far: the whole of a copy
module _ (n : ℕ) (img : Image) (x y : ℕ) (v : Mv) {l : List ℕ} (e : l ≡ halo n img x y v) where
  pub far_size : length l ≡ (n + 5) * (n + 5)
  unfolding square
  far_size = ap length e ∙ length-raster (n + 5) (n + 5) _

  pub far_window : window_list (n + 5) l 0 (n + 5) ≡ halo n img x y v
  far_window = window_whole (n + 5) l far_size ∙ e

-- ---- strips of eight rows: each is the block of its window
module _ (u v : List ℕ) (uw vw : Window) (way : Way) {s : List ℕ} (S : Strips 128 8 (sample_of u uw way) (sample_of v vw way) s) where
  pub left-block : raster 8 8 (λ r c. get_or s (0 + r * 16 + c) 0) ≡ window_block 8 u uw way
  left-block =
      window_block_lem 8 way.set u uw.at uw.pitch way.mx way.my _
      (λ r c hr hc. ap (λ (i : ℕ). get_or s i 0) (omega arith) ∙ S.left r hr c hc)

  pub right-block : raster 8 8 (λ r c. get_or s (8 + r * 16 + c) 0) ≡ window_block 8 v vw way
  right-block =
      window_block_lem 8 way.set v vw.at vw.pitch way.mx way.my _
      (λ r c hr hc. ap (λ (i : ℕ). get_or s i 0) (omega arith) ∙ S.right r hr c hc)

-- ---- what a block takes, of which f is the count of samples
-- what it fetches: its pixels where the vector has no fraction, else its halo
module _ (n : ℕ) (p : Plane) (x y : ℕ) (v : Mv) {f : ℕ} where
  fetched-pixels : is_whole v ≡ true → f ≡ length (pixels_of n p x y v) → f ≡ length (block_of n p x y v)
  unfolding block_of
  fetched-pixels e h = h ∙ sym (ap (λ (b : Bool). length (cond b (pixels_of n p x y v) (halo_of n p x y v))) e)

  fetched-halo : is_whole v ≡ false → f ≡ length (halo_of n p x y v) → f ≡ length (block_of n p x y v)
  unfolding block_of
  fetched-halo e h = h ∙ sym (ap (λ (b : Bool). length (cond b (pixels_of n p x y v) (halo_of n p x y v))) e)

-- no tally beside the count
alone : {f k tally : ℕ} → f ≡ k → tally ≡ 0 → f ≡ k + 4294967296 * tally
alone e z = omega arith

module _ (n : ℕ) (set : FilterSet) (p : Plane) (x y : ℕ) (v : Mv) where
  -- THEOREM. Whole pixels take their count alone.
  pub takes-pixels : is_whole v ≡ true → {f : ℕ} → f ≡ length (pixels_of n p x y v) → f ≡ block_takes n set p x y v
  takes-pixels e h = alone (fetched-pixels n p x y v e h) (ap tally_of (whole_clips_lem n set (image p) x y v e))

  -- THEOREM. A filtered block takes the count of its halo and what is tallied over a list that is the halo.
  pub takes-halo : is_whole v ≡ false → {w : Way} → WayOf v set w → {l : List ℕ} → l ≡ halo n (image p) x y v → {f tally : ℕ} → f ≡ length (halo_of n p x y v)
      → tally ≡ tally_of (halo_clips n w.set l w.mx w.my) → f + 4294967296 * tally ≡ block_takes n set p x y v
  takes-halo e {w} d {l} h k t =
      ap₂ (λ (f tally : ℕ). f + 4294967296 * tally) (fetched-halo n p x y v e k)
      (t
      ∙ ap tally_of
      (ap (λ (s : FilterSet). halo_clips n s l w.mx w.my) d.set_is ∙ filtered_clips n set (image p) x y v h d.mx_is d.my_is))

-- two blocks, one of each chroma plane, whose tallies came added up; squares of one side fetch alike
pub takes_both : (f g s t : ℕ) {tally a b : ℕ} → tally ≡ s + t → f + 4294967296 * s ≡ a → g + 4294967296 * t ≡ b → f + g + 4294967296 * tally ≡ a + b
takes_both f g s t e h k = omega arith

pub fetched_alike : (n w h w' h' : ℕ) (x y x' y' : ℤ) → length (square_of n w h x y) ≡ length (square_of n w' h' x' y')
fetched_alike n w h w' h' x y x' y' = length-square n w h x y ∙ sym (length-square n w' h' x' y')

-- and no side here is more than 21
pub few_fetched : (n w h : ℕ) (x y : ℤ) {f : ℕ} → n ≤ 21 → f ≡ length (square_of n w h x y) → f ≤ 441
few_fetched n w h x y k e = omega (arith, e ∙ length-square n w h x y, mul-le-mul {n₂ = 21} {m₂ = 21} k k)
