-- Blocks of 4 by 4 put into a square of per by per of them, in raster order: what the square holds after the first b. Assumes nothing.
use mathlib.Core.Path.{◌≡◌, refl, sym, ap, ap₂, ◌∙◌, subst}
use mathlib.Core.Bool.{Bool, true, false, cond, ◌&&◌}
use mathlib.Core.Logic.{⊎_elim}
use mathlib.Core.List.{List}
use Prim.Native.Nat.{ℕ, ◌+◌, ◌-◌, ◌*◌, ◌/◌, ◌%◌, ◌<◌, ◌≤◌}
use native.Mathlib.Nat.{div-add-mod', div-lt_iff_lt-mul, mod-lt, eq-or-lt_of_le}
use native.Mathlib.Omega.{arith}
use lib.Arith.{digits_div, digits_mod}
use lib.ListN.{length, get_or}
use lib.IntN.{pos}
use Rattle.rfc6386.specs.Raster.{within, written, raster}
use Rattle.rfc6386.specs.Picture.{Plane, Image, image, predicted, block, block_by}
use Rattle.rfc6386.specs.Fetched.{Coordinate, block_of, joined, tiles_of}
use Rattle.rfc6386.specs.Sums.{sum_to, sum_rows}
use Rattle.rfc6386.specs.Clips.{predicted_clip, block_clips, clips_by}
use Rattle.rfc6386.proofs.Laws.Raster.{is-tab, row_fits, within-true, get_or-written, length-written, Within, within_is}
use Rattle.rfc6386.proofs.Laws.Tests.{and-true}
use Rattle.rfc6386.proofs.Laws.Blocks.{block_sample}
use Rattle.rfc6386.proofs.Laws.Fetched.{cost, length-block, length_tiles, cost_most, joined_more, length-joined}
use Rattle.rfc6386.proofs.Laws.Sums.{sum_more, sum_le, sum_ext, rows_ext, sum_tiles}
use Rattle.rfc6386.proofs.Laws.Clipping.{block_clips_le, block_clips_ext}
use Rattle.rfc6386.specs.declared.Mv.{Mv}
use Rattle.rfc6386.specs.declared.FilterSet.{FilterSet}
use Rattle.rfc6386.specs.declared.Clips.{Clips}
use Rattle.steps.specs.Tally.{part, tally_of}
use Rattle.steps.proofs.Laws.Tallies.{tally-totals}
use Rattle.blocks.specs.Taken.{taken, block_takes}
use Rattle.blocks.specs.Laws.{takes_most}
use Rattle.prediction.specs.Tiles.{tiles_take}

-- the two sides in use: four blocks for luma, two for chroma
pub four : 1 ≤ 4
four = omega arith

pub two : 1 ≤ 2
two = omega arith

module _ (per : ℕ) (some : 1 ≤ per) (set : FilterSet) (img : Image) (x y : ℕ) (vector : ℕ → Mv) where
  abbrev n : ℕ
  n = per * 4

  -- the block that byte i of the square lies in, and the sample due there
  abbrev tile : ℕ → ℕ
  tile i = i / n / 4 * per + i % n / 4

  abbrev sample : ℕ → ℕ
  sample i = predicted set img (pos (x + i % n)) (pos (y + i / n)) (vector (tile i))

  pub record Tiled (out : List ℕ) (b : ℕ) : Type 0 where
    pub most : b ≤ per * per
    pub size : length out ≡ n * n
    pub done : (i : ℕ) → i < n * n → tile i < b → get_or out i 0 ≡ sample i

  pub tiled-none : {out : List ℕ} → length out ≡ n * n → Tiled out 0
  tiled-none e = record { most = omega arith; size = e; done = λ i h k. absurd (none (tile i) k) }
    where
      none : (k : ℕ) → k < 0 → ⊥
      none k h = omega arith

  column : (i : ℕ) → i % n < n
  column i = mod-lt i (omega arith)

  row : (i : ℕ) → i < n * n → i / n < n
  row i h = let p : 0 < n = omega arith in (div-lt_iff_lt-mul p).1 h

  -- byte i lies in block b exactly where it is in the block's rows and columns
  module _ (i b : ℕ) where
    tile-row : tile i ≡ b → b / per ≡ i / n / 4
    tile-row e = sym (ap (λ (t : ℕ). t / per) e) ∙ digits_div (i / n / 4) (omega (arith, column i))

    tile-column : tile i ≡ b → b % per ≡ i % n / 4
    tile-column e = sym (ap (λ (t : ℕ). t % per) e) ∙ digits_mod (i / n / 4) (omega (arith, column i))

    in_rows : tile i ≡ b → within (b / per * 4) 4 (i / n) ≡ true
    in_rows e = let r = tile-row e in within-true (b / per * 4) 4 (i / n) (omega arith) (omega arith)

    in_columns : tile i ≡ b → within (b % per * 4) 4 (i % n) ≡ true
    in_columns e = let r = tile-column e in within-true (b % per * 4) 4 (i % n) (omega arith) (omega arith)

    tile_is : Within (b / per * 4) 4 (i / n) → Within (b % per * 4) 4 (i % n) → tile i ≡ b
    tile_is R C =
        let p : i / n / 4 ≡ b / per = omega arith in
        let q : i % n / 4 ≡ b % per = omega arith in
        ap₂ (λ (k l : ℕ). k * per + l) p q ∙ div-add-mod' b per

  -- a turn: block b is written
  module _ {out out' blk : List ℕ} {b : ℕ} (P : Tiled out b) (few : b < per * per)
      (is : blk ≡ block 4 set img (x + b % per * 4) (y + b / per * 4) (vector b))
      (next : out' ≡ written out n (b % per * 4) (b / per * 4) 4 4 (λ r c. get_or blk (0 + r * 4 + c) 0)) where
    in_block : (r c : ℕ) → r < 4 → c < 4 → get_or blk (0 + r * 4 + c) 0 ≡ predicted set img (pos (x + b % per * 4 + c)) (pos (y + b / per * 4 + r)) (vector b)
    in_block r c hr hc = ap (λ (l : List ℕ). get_or l (0 + r * 4 + c) 0) is ∙ block_sample 4 set img _ _ (vector b) r c hr hc

    here : (i : ℕ) → Within (b / per * 4) 4 (i / n) → Within (b % per * 4) 4 (i % n)
        → get_or blk (0 + (i / n - b / per * 4) * 4 + (i % n - b % per * 4)) 0 ≡ sample i
    here i R C =
        let r = i / n - b / per * 4 in
        let c = i % n - b % per * 4 in
        let p : x + b % per * 4 + c ≡ x + i % n = omega arith in
        let q : y + b / per * 4 + r ≡ y + i / n = omega arith in
        let t = tile_is i b R C in
        in_block r c (omega arith) (omega arith)
        ∙ (λ j. predicted set img (pos (p j)) (pos (q j)) (vector (sym t j)))

    pub tiled-more : Tiled out' (b + 1)
    tiled-more =
        record {
          most = omega arith;
          size = ap length next ∙ length-written out n (b % per * 4) (b / per * 4) 4 4 (λ r c. get_or blk (0 + r * 4 + c) 0) ∙ P.size;
          done = λ i h k.
              ap (λ (l : List ℕ). get_or l i 0) next
              ∙ get_or-written out n (b % per * 4) (b / per * 4) 4 4 (λ r c. get_or blk (0 + r * 4 + c) 0) i (omega (arith, P.size))
              ∙ at i h k (within (b / per * 4) 4 (i / n) && within (b % per * 4) 4 (i % n)) refl;
        }
      where
        at : (i : ℕ) → i < n * n → tile i < b + 1 → (B : Bool) → within (b / per * 4) 4 (i / n) && within (b % per * 4) 4 (i % n) ≡ B
            → cond B (get_or blk (0 + (i / n - b / per * 4) * 4 + (i % n - b % per * 4)) 0) (get_or out i 0) ≡ sample i
        at i h k true e =
            let w = and-true (within (b / per * 4) 4 (i / n)) (within (b % per * 4) 4 (i % n)) e in
            here i (within_is (b / per * 4) 4 (i / n) w.0) (within_is (b % per * 4) 4 (i % n) w.1)
        at i h k false e = P.done i h (⊎_elim (λ same. absurd (other same)) (λ less. less) (eq-or-lt_of_le (omega arith)))
          where
            other : tile i ≡ b → ⊥
            other same = let f : ◌≡◌ {A = Bool} true false = sym (ap₂ ◌&&◌ (in_rows i b same) (in_columns i b same)) ∙ e in let g : ◌≡◌ {A = ℕ} 0 1 = cc in omega arith

  -- all blocks are there
  pub tiled_all : {out : List ℕ} {b : ℕ} → Tiled out b → per * per ≤ b → out ≡ block_by n set img x y (λ r c. vector (r / 4 * per + c / 4))
  unfolding block_by raster
  tiled_all {out} {b} P h =
      is-tab 0 (n * n) sample out P.size
      (λ i k. P.done i k (omega (arith, row_fits (i / n / 4) per per (omega (arith, row i k)), column i)))

-- ---- what n blocks take at most
taken-most : (n : ℕ) {l t : ℕ} → l ≤ n * 81 → t ≤ n * 8208 → l + 4294967296 * t ≤ n * 1000000000000000
taken-most n h k = omega arith

-- ---- what the first b blocks take
module _ (per : ℕ) (set : FilterSet) (p : Plane) (x y : ℕ) (vector : ℕ → Mv) where
  abbrev tile_list : ℕ → List Coordinate
  tile_list b = block_of 4 p (x + b % per * 4) (y + b / per * 4) (vector b)

  abbrev tile_tally : ℕ → ℕ
  tile_tally b = tally_of (block_clips 4 set (image p) (x + b % per * 4) (y + b / per * 4) (vector b))

  abbrev pub tile_takes : ℕ → ℕ
  tile_takes b = block_takes 4 set p (x + b % per * 4) (y + b / per * 4) (vector b)

  abbrev pub taken_by : ℕ → ℕ
  taken_by b = length (joined b tile_list) + 4294967296 * sum_to b tile_tally

  pub taken_none : taken_by 0 ≡ 0
  unfolding joined sum_to
  taken_none = refl

  more : {k n : ℕ} (l t m u : ℕ) {l' t' : ℕ} → k ≡ l + 4294967296 * t → n ≡ m + 4294967296 * u → l' ≡ l + m → t' ≡ t + u → k + n ≡ l' + 4294967296 * t'
  more l t m u a b c d = omega arith

  pub taken_more : (b : ℕ) {k n : ℕ} → k ≡ taken_by b → n ≡ tile_takes b → k + n ≡ taken_by (b + 1)
  taken_more b e h = more (length (joined b tile_list)) (sum_to b tile_tally) (length (tile_list b)) (tile_tally b) e h (joined_more tile_list b) (sum_more b tile_tally)

  pub tile_few : (b : ℕ) → tile_takes b ≤ 1000000000000000
  tile_few b = takes_most 4 set p (x + b % per * 4) (y + b / per * 4) (vector b) (omega arith)

  tally_few : (b : ℕ) → tile_tally b ≤ 8208
  unfolding block_clips
  tally_few b = omega (arith, block_clips_le 4 set (image p) (x + b % per * 4) (y + b / per * 4) (λ r c. vector b))

  pub taken_few : (b : ℕ) → taken_by b ≤ b * 1000000000000000
  taken_few b =
      taken-most b
      (subst (λ (k : ℕ). k ≤ b * 81) (sym (length-joined b tile_list))
      (sum_le b 81 (λ i. length (tile_list i)) (λ i h. subst (λ (k : ℕ). k ≤ 81) (sym (length-block 4 p (x + i % per * 4) (y + i / per * 4) (vector i))) (cost_most 4 (vector i)))))
      (sum_le b 8208 tile_tally (λ i h. tally_few i))

  -- the clips of all blocks are the square's: by their parts, a sample at a time
  abbrev clip_part : ℕ → ℕ → ℕ
  clip_part r c = part (predicted_clip set (image p) (pos (x + c)) (pos (y + r)) (vector (r / 4 * per + c / 4)))

  tile-tally : (b : ℕ) → b < per * per → tile_tally b ≡ sum_rows 4 4 (λ r c. clip_part (b / per * 4 + r) (b % per * 4 + c))
  unfolding block_clips clips_by
  tile-tally b h =
      sym (tally-totals 4 _)
      ∙ rows_ext 4 4 _ _
      (λ r c hr hc.
      let col : x + b % per * 4 + c ≡ x + (b % per * 4 + c) = omega arith in
      let row : y + b / per * 4 + r ≡ y + (b / per * 4 + r) = omega arith in
      let R : (b / per * 4 + r) / 4 ≡ b / per = omega arith in
      let C : (b % per * 4 + c) / 4 ≡ b % per = omega arith in
      let same : b ≡ (b / per * 4 + r) / 4 * per + (b % per * 4 + c) / 4 = sym (ap₂ (λ (k l : ℕ). k * per + l) R C ∙ div-add-mod' b per) in
      λ i. part (predicted_clip set (image p) (pos (col i)) (pos (row i)) (vector (same i))))

  tiles-tally : sum_to (per * per) tile_tally ≡ tally_of (clips_by (per * 4) set (image p) x y (λ r c. vector (r / 4 * per + c / 4)))
  unfolding clips_by
  tiles-tally = sum_ext (per * per) _ _ tile-tally ∙ sum_tiles per 4 clip_part ∙ tally-totals (per * 4) _

  pub taken-all : {k b : ℕ} → k ≡ taken_by b → b ≡ per * per → k ≡ tiles_take per set p x y vector
  unfolding tiles_of
  taken-all e h = e ∙ ap taken_by h ∙ ap (λ (t : ℕ). length (joined (per * per) tile_list) + 4294967296 * t) tiles-tally

-- the same blocks by vectors that are the same
tiles_same : (per : ℕ) (p : Plane) (x y : ℕ) (f g : ℕ → Mv) → ((b : ℕ) → b < per * per → f b ≡ g b) → length (tiles_of per p x y f) ≡ length (tiles_of per p x y g)
unfolding tiles_of
tiles_same per p x y f g h = joined_same (per * per) h
  where
    joined_same : (n : ℕ) → ((b : ℕ) → b < n → f b ≡ g b)
        → length (joined n (λ b. block_of 4 p (x + b % per * 4) (y + b / per * 4) (f b))) ≡ length (joined n (λ b. block_of 4 p (x + b % per * 4) (y + b / per * 4) (g b)))
    joined_same n h = length-joined n _ ∙ sum_ext n _ _ (λ b k. ap (λ (v : Mv). length (block_of 4 p (x + b % per * 4) (y + b / per * 4) v)) (h b k)) ∙ sym (length-joined n _)

pub takes_same : (per : ℕ) (set : FilterSet) (p : Plane) (x y : ℕ) (f g : ℕ → Mv) → ((b : ℕ) → b < per * per → f b ≡ g b)
    → tiles_take per set p x y f ≡ tiles_take per set p x y g
takes_same per set p x y f g h =
    ap₂ (λ (n : ℕ) (k : Clips). taken n k) (tiles_same per p x y f g h)
    (block_clips_ext (per * 4) set (image p) x y _ _ (λ r c hr hc. h (r / 4 * per + c / 4) (inside (r / 4) (c / 4) (omega arith) (omega arith))))
  where
    inside : (k l : ℕ) → k < per → l < per → k * per + l < per * per
    inside k l hk hl = omega (arith, row_fits k per per hk)

-- all of them, at most
pub tiles_few : (per : ℕ) (set : FilterSet) (p : Plane) (x y : ℕ) (f : ℕ → Mv) {k : ℕ} → k ≡ tiles_take per set p x y f → k ≤ per * per * 1000000000000000
tiles_few per set p x y f e =
    let j = clips_by (per * 4) set (image p) x y (λ r c. f (r / 4 * per + c / 4)) in
    let le = block_clips_le (per * 4) set (image p) x y (λ r c. f (r / 4 * per + c / 4)) in
    subst (λ (k : ℕ). k ≤ per * per * 1000000000000000) (sym e)
    (taken-most (per * per)
    (subst (λ (k : ℕ). k ≤ per * per * 81) (sym (length_tiles per p x y f)) (sum_le (per * per) 81 (λ b. cost 4 (f b)) (λ b h. cost_most 4 (f b))))
    (tally (per * per) j.low j.high (subst (λ (k : ℕ). j.low + j.high ≤ k) square le)))
  where
    square : per * 4 * (per * 4) ≡ 16 * (per * per)
    square = omega arith

    tally : (n low high : ℕ) → low + high ≤ 16 * n → low + high + 512 * low ≤ n * 8208
    tally n low high h = omega arith

-- of both chroma planes
pub takes_few : (set : FilterSet) (p q : Plane) (x y x' y' : ℕ) (f : ℕ → Mv) {k : ℕ} → k ≡ tiles_take 2 set p x y f + tiles_take 2 set q x' y' f → k ≤ 8000000000000000
takes_few set p q x y x' y' f e = omega (arith, e, tiles_few 2 set p x y f refl, tiles_few 2 set q x' y' f refl)
