-- How many samples are fetched, at least and at most: theorems of request K8. Assumes nothing.
use Rattle.std.specs.Prelude.{◌≡◌, Bool, ◌&&◌, List, ◌++◌, eqb, ℤ, pos, ◌+ℤ◌, ◌*ℤ◌}
use Rattle.std.proofs.Math.Path.{refl, ap, ap₂}
use Rattle.std.proofs.Common.{sym, ◌∙◌, le_of_eq}
use Rattle.std.proofs.Math.Bool.{true, false, cond}
use Prim.Native.Nat.{ℕ, ◌+◌, ◌*◌, ◌<◌, ◌≤◌}
use native.Mathlib.Omega.{arith}
use Rattle.std.proofs.Math.ListN.{length, length-append}
use Rattle.signed.specs.Int.{int, times, one_side}
use Rattle.rfc6386.specs.Number.{floor_div}
use Rattle.rfc6386.specs.Vector.{lowering_of, whole_part, fraction, stored, whole_chroma, lowered, each, is_whole, quarter_average, luma_vector, chroma_vector, quarter_vector, zero_vector, sent, One}
use Rattle.rfc6386.specs.declared.Lowering.{Lowering}
use Rattle.rfc6386.specs.Picture.{Plane}
use Rattle.rfc6386.specs.Macroblock.{Reference, plane_y, plane_u, plane_v, split}
use Rattle.rfc6386.specs.Clips.{no_clips}
use Rattle.rfc6386.specs.Sums.{sum_to}
use Rattle.rfc6386.specs.Fetched.{Coordinate, pixels_of, block_of, tiles_of}
use Rattle.rfc6386.specs.Report.{whole_of, whole_pixel_of, split_chroma_of, split_of, is_one, merging_of, luma, quarters_of, split_clips, reported, whole_report, split_report, merging_report}
use Rattle.rfc6386.specs.Telling.{sixteen}
use Rattle.rfc6386.proofs.Merging.{merge_alike}
use Rattle.rfc6386.proofs.Clipping as clipping
use Rattle.rfc6386.proofs.Laws.Vectors.{part, fraction-is, fraction-under}
use Rattle.rfc6386.proofs.Laws.Sums.{sum_least, sum_le}
use Rattle.rfc6386.proofs.Laws.Refusals.{done, refused}
use Rattle.rfc6386.proofs.Laws.Merging.{mergeable-true, sent_equal, chroma_equal, quarter_alike}
use Rattle.rfc6386.proofs.Laws.Fetched.{cost, length-square, length-block, length_tiles, cost_least, cost_most, cost_eight, cost_sixteen, is_one_lem, luma_most, luma_some}
use Rattle.rfc6386.specs.declared.Mv.{Mv}
use Rattle.rfc6386.specs.declared.FilterSet.{FilterSet}
use Rattle.rfc6386.specs.Answer.{Prediction, Report}
use Rattle.rfc6386.specs.declared.Clips.{Clips}

-- ---- the macroblock, whatever its number
module _ (low : Lowering) (ref : Reference) (col row : ℕ) where
  -- how long the lists are, in costs
  whole_length : (v : Mv) → length (whole_of low ref col row v) ≡ cost 16 (luma_vector low v) + (cost 8 (chroma_vector low v) + cost 8 (chroma_vector low v))
  unfolding whole_of
  whole_length v =
      let y = block_of 16 (plane_y ref) (col * 16) (row * 16) (luma_vector low v) in
      let u = block_of 8 (plane_u ref) (col * 8) (row * 8) (chroma_vector low v) in
      let w = block_of 8 (plane_v ref) (col * 8) (row * 8) (chroma_vector low v) in
      omega (
        arith,
        length-append y (u ++ w),
        length-append u w,
        length-block 16 (plane_y ref) (col * 16) (row * 16) (luma_vector low v),
        length-block 8 (plane_u ref) (col * 8) (row * 8) (chroma_vector low v),
        length-block 8 (plane_v ref) (col * 8) (row * 8) (chroma_vector low v),
      )

  abbrev luma_cost : List Mv → ℕ
  luma_cost vs = sum_to 16 (λ b. cost 4 (luma_vector low (sent vs b)))

  abbrev chroma_cost : List Mv → ℕ
  chroma_cost vs = sum_to 4 (λ q. cost 4 (quarter_vector low vs q))

  chroma-length : (vs : List Mv) → length (split_chroma_of low ref col row vs) ≡ chroma_cost vs + chroma_cost vs
  unfolding split_chroma_of
  chroma-length vs =
      length-append (tiles_of 2 (plane_u ref) (col * 8) (row * 8) (quarter_vector low vs)) (tiles_of 2 (plane_v ref) (col * 8) (row * 8) (quarter_vector low vs))
      ∙ ap₂ ◌+◌ (length_tiles 2 (plane_u ref) (col * 8) (row * 8) (quarter_vector low vs)) (length_tiles 2 (plane_v ref) (col * 8) (row * 8) (quarter_vector low vs))

  split-length : (vs : List Mv) → length (split_of low ref col row vs) ≡ luma_cost vs + (chroma_cost vs + chroma_cost vs)
  unfolding split_of
  split-length vs =
      length-append (tiles_of 4 (plane_y ref) (col * 16) (row * 16) (λ b. luma_vector low (sent vs b))) (split_chroma_of low ref col row vs)
      ∙ ap₂ ◌+◌ (length_tiles 4 (plane_y ref) (col * 16) (row * 16) (λ b. luma_vector low (sent vs b))) (chroma-length vs)

  quarters-length : (vs : List Mv) → length (quarters_of low ref col row vs) ≡ length (luma 2 low (plane_y ref) (col * 16) (row * 16) vs 0 0) + (chroma_cost vs + chroma_cost vs)
  unfolding quarters_of
  quarters-length vs =
      length-append (luma 2 low (plane_y ref) (col * 16) (row * 16) vs 0 0) (split_chroma_of low ref col row vs)
      ∙ ap (λ (n : ℕ). length (luma 2 low (plane_y ref) (col * 16) (row * 16) vs 0 0) + n) (chroma-length vs)

  -- THEOREM. Whole prediction fetches 384 to 779 samples,
  pub whole_range : (v : Mv) → let n = length (whole_of low ref col row v) in (384 ≤ n) × (n ≤ 779)
  whole_range v =
      let a = cost_least 16 (luma_vector low v) in
      let b = cost_least 8 (chroma_vector low v) in
      let c = cost_most 16 (luma_vector low v) in
      let d = cost_most 8 (chroma_vector low v) in
      (omega (arith, whole_length v), omega (arith, whole_length v))

  -- split prediction 384 to 1944,
  pub split_range : (vs : List Mv) → let n = length (split_of low ref col row vs) in (384 ≤ n) × (n ≤ 1944)
  split_range vs =
      let a = sum_least 16 16 (λ b. cost 4 (luma_vector low (sent vs b))) (λ b h. cost_least 4 (luma_vector low (sent vs b))) in
      let b = sum_least 4 16 (λ q. cost 4 (quarter_vector low vs q)) (λ q h. cost_least 4 (quarter_vector low vs q)) in
      let c = sum_le 16 81 (λ b. cost 4 (luma_vector low (sent vs b))) (λ b h. cost_most 4 (luma_vector low (sent vs b))) in
      let d = sum_le 4 81 (λ q. cost 4 (quarter_vector low vs q)) (λ q h. cost_most 4 (quarter_vector low vs q)) in
      (omega (arith, split-length vs), omega (arith, split-length vs))

  -- by quarters at most as many as split,
  pub quarters_most : (vs : List Mv) → length (quarters_of low ref col row vs) ≤ length (split_of low ref col row vs)
  quarters_most vs = omega (arith, quarters-length vs, split-length vs, luma_most low (plane_y ref) (col * 16) (row * 16) vs)

  quarters_least : (vs : List Mv) → 384 ≤ length (quarters_of low ref col row vs)
  quarters_least vs =
      let b = sum_least 4 16 (λ q. cost 4 (quarter_vector low vs q)) (λ q h. cost_least 4 (quarter_vector low vs q)) in
      omega (arith, quarters-length vs, luma_some low (plane_y ref) (col * 16) (row * 16) vs)

  -- and so merging: whole's where the sixteen vectors are one, else split's.
  merging_one : (vs : List Mv) → One vs → merging_of low ref col row vs ≡ whole_of low ref col row (sent vs 0)
  unfolding merging_of
  merging_one vs o = ap (λ (b : Bool). cond b (whole_of low ref col row (sent vs 0)) (split_of low ref col row vs)) ((is_one_lem vs).1 o)

  merging_apart : (vs : List Mv) → (One vs → ⊥) → merging_of low ref col row vs ≡ split_of low ref col row vs
  unfolding merging_of
  merging_apart vs h = ap (λ (b : Bool). cond b (whole_of low ref col row (sent vs 0)) (split_of low ref col row vs)) (at (is_one vs) refl)
    where
      at : (b : Bool) → is_one vs ≡ b → b ≡ false
      at true e = absurd (h ((is_one_lem vs).0 e))
      at false e = refl

  pub merging-whole : (set : FilterSet) (vs : List Mv) → One vs → whole_report set low ref col row (sent vs 0) ≡ merging_report set low ref col row vs
  unfolding whole_report merging_report
  merging-whole set vs o =
      let same = merge_alike set low ref col row vs (sent vs 0) o.alike o.mergeable_is in
      let clips = clipping.merge_alike set low ref col row vs (sent vs 0) o.alike o.mergeable_is in
      λ i. reported (same i) (sym (merging_one vs o) i) (clips i)

  pub merging-split : (set : FilterSet) (vs : List Mv) → (One vs → ⊥) → split_report set low ref col row vs ≡ merging_report set low ref col row vs
  unfolding split_report merging_report
  merging-split set vs h = λ i. reported (split set low ref col row vs) (sym (merging_apart vs h) i) (split_clips set low ref col row vs)

  whole_most : (vs : List Mv) → One vs → length (whole_of low ref col row (sent vs 0)) ≤ length (split_of low ref col row vs)
  whole_most vs o =
      let v = sent vs 0 in
      let chroma : (q : ℕ) → q < 4 → chroma_vector low v ≡ quarter_vector low vs q = (λ q h. chroma_equal low v q (mergeable-true v o.mergeable_is) h ∙ quarter_alike low (sixteen v) vs (λ b k. sent_equal v b k ∙ sym (o.alike b k)) q h) in
      let a = sum_least 16 (cost 4 (luma_vector low v)) (λ b. cost 4 (luma_vector low (sent vs b))) (λ b h. le_of_eq (ap (λ (w : Mv). cost 4 (luma_vector low w)) (sym (o.alike b h)))) in
      let b = sum_least 4 (cost 4 (chroma_vector low v)) (λ q. cost 4 (quarter_vector low vs q)) (λ q h. le_of_eq (ap (cost 4) (chroma q h))) in
      omega (arith, whole_length v, split-length vs, cost_sixteen (luma_vector low v), cost_eight (chroma_vector low v))

  pub merging_most : (vs : List Mv) → length (merging_of low ref col row vs) ≤ length (split_of low ref col row vs)
  unfolding merging_of
  merging_most vs = at (is_one vs) refl
    where
      at : (b : Bool) → is_one vs ≡ b → length (cond b (whole_of low ref col row (sent vs 0)) (split_of low ref col row vs)) ≤ length (split_of low ref col row vs)
      at true e = whole_most vs ((is_one_lem vs).0 e)
      at false e = omega arith

-- ---- full-pixel, as the Rust has it: no vector keeps a fraction
lowered-whole : (z : ℤ) → fraction (lowered true z) ≡ 0
lowered-whole z =
    let m = floor_div z 8 *ℤ pos 8 in omega (int, fraction-is m, fraction-under m, part m, part z, times (floor_div z 8) 8, one_side z)

is-whole : (f : ℤ → ℤ) (v : Mv) → is_whole (each (λ z. lowered true (f z)) v) ≡ true
is-whole f v = ap₂ (λ (a b : ℕ). eqb a 0 && eqb b 0) (lowered-whole (f v.row)) (lowered-whole (f v.col))

whole-cost : (n : ℕ) (v : Mv) → is_whole v ≡ true → cost n v ≡ n * n
whole-cost n v e = ap (λ (b : Bool). cond b (n * n) ((n + 5) * (n + 5))) e

module _ (ref : Reference) (col row : ℕ) where
  abbrev full : Lowering
  full = lowering_of true

  -- THEOREM. Every prediction then fetches 384,
  pub whole_full : (v : Mv) → length (whole_of full ref col row v) ≡ 384
  whole_full v =
      whole_length full ref col row v
      ∙ (λ i. whole-cost 16 (luma_vector full v) (is-whole stored v) i
      + (whole-cost 8 (chroma_vector full v) (is-whole (λ z. whole_chroma (stored z)) v) i + whole-cost 8 (chroma_vector full v) (is-whole (λ z. whole_chroma (stored z)) v) i))

  pub split_full : (vs : List Mv) → length (split_of full ref col row vs) ≡ 384
  split_full vs =
      let y = sum_le 16 16 (λ b. cost 4 (luma_vector full (sent vs b))) (λ b h. le_of_eq (whole-cost 4 (luma_vector full (sent vs b)) (is-whole stored (sent vs b)))) in
      let c = sum_le 4 16 (λ q. cost 4 (quarter_vector full vs q)) (λ q h. le_of_eq (whole-cost 4 (quarter_vector full vs q) (is-whole (λ z. z) (quarter_average vs q)))) in
      omega (arith, split-length full ref col row vs, (split_range full ref col row vs).0)

  pub quarters_full : (vs : List Mv) → length (quarters_of full ref col row vs) ≡ 384
  quarters_full vs = omega (arith, quarters_least full ref col row vs, quarters_most full ref col row vs, split_full vs)

  pub merging_full : (vs : List Mv) → length (merging_of full ref col row vs) ≡ 384
  unfolding merging_of
  merging_full vs = at (is_one vs)
    where
      at : (b : Bool) → length (cond b (whole_of full ref col row (sent vs 0)) (split_of full ref col row vs)) ≡ 384
      at true = whole_full (sent vs 0)
      at false = split_full vs

-- and prediction at whole pixels always.
pub whole_pixel_count : (low : Lowering) (ref : Reference) (col row : ℕ) (v : Mv) → length (whole_pixel_of low ref col row v) ≡ 384
unfolding whole_pixel_of
whole_pixel_count low ref col row v =
    let y = pixels_of 16 (plane_y ref) (col * 16) (row * 16) (luma_vector low v) in
    let u = pixels_of 8 (plane_u ref) (col * 8) (row * 8) (chroma_vector low v) in
    let w = pixels_of 8 (plane_v ref) (col * 8) (row * 8) (chroma_vector low v) in
    omega (arith, length-append y (u ++ w), length-append u w, size 16 (plane_y ref) (luma_vector low v), size 8 (plane_u ref) (chroma_vector low v), size 8 (plane_v ref) (chroma_vector low v))
  where
    size : (n : ℕ) (p : Plane) (w : Mv) → length (pixels_of n p (col * n) (row * n) w) ≡ n * n
    size n p w = length-square n p.width p.height (pos (col * n) +ℤ whole_part w.col) (pos (row * n) +ℤ whole_part w.row)

-- ---- both ends of each range are reached, on any picture
module _ (ref : Reference) (col row : ℕ) where
  abbrev plain : Lowering
  plain = lowering_of false

  -- a quarter of a pixel on each axis
  abbrev a_quarter : Mv
  a_quarter = record { row = pos 1; col = pos 1 }

  -- THEOREM. By the vector of zeros 384; a quarter of a pixel on each axis takes 779 whole, and 1944 split.
  pub whole_reaches_least : length (whole_of plain ref col row zero_vector) ≡ 384
  whole_reaches_least = whole_length plain ref col row zero_vector

  pub whole_reaches_most : length (whole_of plain ref col row a_quarter) ≡ 779
  whole_reaches_most = whole_length plain ref col row a_quarter

  pub split_reaches_least : length (split_of plain ref col row (sixteen zero_vector)) ≡ 384
  unfolding sum_to
  split_reaches_least = split-length plain ref col row (sixteen zero_vector)

  pub split_reaches_most : length (split_of plain ref col row (sixteen a_quarter)) ≡ 1944
  unfolding sum_to
  split_reaches_most = split-length plain ref col row (sixteen a_quarter)

-- ---- reports
-- THEOREM. An accepted call reports the length of its list and its totals of clipped samples, a refused one zeros.
pub record Accepted (r : Report) (l : List Coordinate) (k : Clips) : Type 0 where
  pub fetched_is : r.fetched ≡ length l
  pub clips_are : r.clips ≡ k

pub accepted_report : (p : Prediction) (l : List Coordinate) (k : Clips) → p.number ≡ 0 → Accepted (reported p l k) l k
accepted_report p l k e = record { fetched_is = done (length l) 0 e; clips_are = done k no_clips e }

pub record Zeros (r : Report) : Type 0 where
  pub fetched-zero : r.fetched ≡ 0
  pub clips-zero : r.clips ≡ no_clips

pub refused_report : (p : Prediction) (l : List Coordinate) (k : Clips) → (p.number ≡ 0 → ⊥) → Zeros (reported p l k)
refused_report p l k h = record { fetched-zero = refused (length l) 0 h; clips-zero = refused k no_clips h }
