-- K11: mirrored cameras. Mirror the picture, the macroblock's place and the vectors: the prediction is then the mirrored prediction, whole and
-- split, under both tables, with full-pixel off and the components on each axis that is turned round in -16383 .. 16383. Assumes nothing.
use Rattle.std.specs.Prelude.{◌≡◌, refl, Bool, true, false, List, ℕ, ◌+◌, ◌-◌, ◌*◌, ◌/◌, ◌<◌, get_or, ℤ, pos, negsuc, ◌-ℤ◌}
use Rattle.std.proofs.Math.Path.{sym, ap, ap₂, fun_ext}
use Rattle.std.proofs.Common.{◌∙◌, arith, SFits}
use Rattle.std.specs.Int.{w16}
use Rattle.signed.specs.Int.{int, neg}
use Rattle.rfc6386.specs.Number.{clamped}
use Rattle.rfc6386.specs.Raster.{tab}
use Rattle.rfc6386.specs.Picture.{Plane, Image, image, filtered, predicted, block_by, block}
use Rattle.rfc6386.specs.Refusal.{if_done}
use Rattle.rfc6386.specs.Vector.{lowering_of, sent}
use Rattle.rfc6386.specs.declared.Lowering.{Lowering}
use Rattle.rfc6386.specs.Macroblock.{Reference, refusal, whole_samples, split_samples, answered, whole, split}
use Rattle.rfc6386.specs.Channel.{Channel, side, plane_in, samples_in, whole_vector, tile_vector}
use Rattle.rfc6386.specs.Channel.Channel.{luma, chroma_u, chroma_v}
use Rattle.rfc6386.specs.Mirror.{Mirror, left_to_right, top_to_bottom, by_half, turn, negated, turnable, off, mirrored_bytes, mirrored_reference, mirrored_col, mirrored_row, mirrored_vector, mirrored_vectors, Turnable, mirrored_block, mirrored_mb, mirrored_prediction}
use Rattle.rfc6386.specs.Telling.{sixteen}
use Rattle.rfc6386.proofs.Seeing.{columns_of, three_accepted, columns-image}
use Rattle.rfc6386.proofs.Carried.{Place, lent_at, Word, OfTypes, WholeGives, SplitGives}
use Rattle.rfc6386.proofs.Laws.Raster.{get_or-raster}
use Rattle.rfc6386.specs.Refusal.{Fits}
use Rattle.rfc6386.proofs.Laws.Refusals.{Accepts, accepts, zero_for}
use Rattle.rfc6386.proofs.Laws.Channels.{by_channels, some_places, whole_channel, split_channel, whole_sample, split_sample}
use Rattle.rfc6386.proofs.Laws.Mirroring.{Opposite, col-opposite, row-opposite, opposite_inside, opposite_samples, length_mirrored, mirrored_bytes_lem, small, mirrored_plane, fits_mirrored, image_mirrored, mirrored-again, block_mirror, whole-vector, tile-vector}
use Rattle.rfc6386.specs.declared.Mv.{Mv}
use Rattle.rfc6386.specs.declared.FilterSet.{FilterSet}
use Rattle.rfc6386.specs.declared.ReconstructedMb.{ReconstructedMb}
use Rattle.rfc6386.specs.Answer.{Prediction}

-- ---- the mirrored call is accepted too
-- the samples of a macroblock, mirrored channel by channel
mirrored_in : (m : Mirror) (k : Channel) (s : ReconstructedMb) {l : List ℕ} → samples_in k s ≡ l → samples_in k (mirrored_mb m s) ≡ mirrored_block m (side k) l
mirrored_in m luma s e = ap (mirrored_block m 16) e
mirrored_in m chroma_u s e = ap (mirrored_block m 8) e
mirrored_in m chroma_v s e = ap (mirrored_block m 8) e

-- a sample's 4x4 block, and that of the mirrored sample
in_tiles : (k : Channel) (r : ℕ) → r < side k → r / 4 < side k / 4
in_tiles luma r h = omega arith
in_tiles chroma_u r h = omega arith
in_tiles chroma_v r h = omega arith

turn_tiles : (k : Channel) (b : Bool) (r : ℕ) → r < side k → turn b (side k / 4) (r / 4) ≡ turn b (side k) r / 4
turn_tiles k false r h = refl
turn_tiles luma true r h = omega arith
turn_tiles chroma_u true r h = omega arith
turn_tiles chroma_v true r h = omega arith

module _ (m : Mirror) (ref : Reference) (col row : ℕ) (ok : refusal ref col row ≡ 0) where
  A : Accepts ref col row
  A = accepts ref col row ok

  col_is : Opposite m.columns ref.cols col (mirrored_col m ref col)
  col_is = col-opposite m ref col A.col_inside

  row_is : Opposite m.rows ref.rows row (mirrored_row m ref row)
  row_is = row-opposite m ref row A.row_inside

  pub mirror-accepted : refusal (mirrored_reference m ref) (mirrored_col m ref col) (mirrored_row m ref row) ≡ 0
  mirror-accepted =
      zero_for (mirrored_reference m ref) (mirrored_col m ref col) (mirrored_row m ref row)
      (record {
        cols_least = A.cols_least;
        cols_most = A.cols_most;
        rows_least = A.rows_least;
        rows_most = A.rows_most;
        y = fits_mirrored m (plane_in luma ref) A.y;
        u = fits_mirrored m (plane_in chroma_u ref) A.u;
        v = fits_mirrored m (plane_in chroma_v ref) A.v;
        col_inside = opposite_inside m.columns ref.cols col (mirrored_col m ref col) col_is A.col_inside;
        row_inside = opposite_inside m.rows ref.rows row (mirrored_row m ref row) row_is A.row_inside;
      })

  fits_in : (k : Channel) → Fits (plane_in k ref)
  fits_in luma = A.y
  fits_in chroma_u = A.u
  fits_in chroma_v = A.v

  plane_mirrored : (k : Channel) → plane_in k (mirrored_reference m ref) ≡ mirrored_plane m (plane_in k ref)
  plane_mirrored luma = refl
  plane_mirrored chroma_u = refl
  plane_mirrored chroma_v = refl

  -- in one channel, by vectors that are mirrored
  channel_mirror : (k : Channel) (set : FilterSet) (f f' : ℕ → ℕ → Mv)
      → ((r c : ℕ) → r < side k → c < side k → f' r c ≡ mirrored_vector m (f (turn m.rows (side k) r) (turn m.columns (side k) c)))
      → block_by (side k) set (image (plane_in k (mirrored_reference m ref))) (mirrored_col m ref col * side k) (mirrored_row m ref row * side k) f'
      ≡ mirrored_block m (side k) (block_by (side k) set (image (plane_in k ref)) (col * side k) (row * side k) f)
  channel_mirror k set f f' e =
      ap (λ (p : Plane). block_by (side k) set (image p) (mirrored_col m ref col * side k) (mirrored_row m ref row * side k) f') (plane_mirrored k)
      ∙ block_mirror m (side k) set (plane_in k ref) (some_places k ref.cols A.cols_least) (some_places k ref.rows A.rows_least) (fits_in k)
      (col * side k) (row * side k) (mirrored_col m ref col * side k) (mirrored_row m ref row * side k) f f'
      (λ c hc. opposite_samples k m.columns ref.cols col (mirrored_col m ref col) c col_is hc)
      (λ r hr. opposite_samples k m.rows ref.rows row (mirrored_row m ref row) r row_is hr)
      e

  -- answers, where both calls are accepted
  mirrored_answer : (s t : ReconstructedMb) → s ≡ mirrored_mb m t
      → answered (refusal (mirrored_reference m ref) (mirrored_col m ref col) (mirrored_row m ref row)) s ≡ mirrored_prediction m (answered (refusal ref col row) t)
  unfolding answered if_done
  mirrored_answer s t e =
      ap (λ (n : ℕ). answered n s) mirror-accepted ∙ ap (answered 0) e ∙ sym (ap (λ (n : ℕ). mirrored_prediction m (answered n t)) ok)

  module _ (set : FilterSet) where
    -- THEOREM (K11, whole). The prediction at the mirrored place of the mirrored picture, by the mirrored vector, is the mirrored prediction.
    pub whole_mirror : (v : Mv) → Turnable m v
        → whole set off (mirrored_reference m ref) (mirrored_col m ref col) (mirrored_row m ref row) (mirrored_vector m v) ≡ mirrored_prediction m (whole set off ref col row v)
    unfolding whole block
    whole_mirror v T =
        mirrored_answer _ _
        (by_channels _ _
        (λ k.
        whole_channel off (mirrored_reference m ref) (mirrored_col m ref col) (mirrored_row m ref row) k set (mirrored_vector m v)
        ∙ channel_mirror k set (λ r c. whole_vector k off v) (λ r c. whole_vector k off (mirrored_vector m v)) (λ r c hr hc. whole-vector k m v T)
        ∙ sym (mirrored_in m k (whole_samples set off ref col row v) (whole_channel off ref col row k set v))))

    -- THEOREM (K11, split). And so by the sixteen mirrored vectors.
    pub split_mirror : (vs : List Mv) → ((b : ℕ) → b < 16 → Turnable m (sent vs b))
        → split set off (mirrored_reference m ref) (mirrored_col m ref col) (mirrored_row m ref row) (mirrored_vectors m vs) ≡ mirrored_prediction m (split set off ref col row vs)
    unfolding split
    split_mirror vs T =
        mirrored_answer _ _
        (by_channels _ _
        (λ k.
        split_channel off (mirrored_reference m ref) (mirrored_col m ref col) (mirrored_row m ref row) k set (mirrored_vectors m vs)
        ∙ channel_mirror k set (λ r c. tile_vector k off vs (r / 4) (c / 4)) (λ r c. tile_vector k off (mirrored_vectors m vs) (r / 4) (c / 4))
        (λ r c hr hc.
        tile-vector k m vs T (r / 4) (c / 4) (in_tiles k r hr) (in_tiles k c hc)
        ∙ ap₂ (λ (i j : ℕ). mirrored_vector m (tile_vector k off vs i j)) (turn_tiles k m.rows r hr) (turn_tiles k m.columns c hc))
        ∙ sym (mirrored_in m k (split_samples set off ref col row vs) (split_channel off ref col row k set vs))))

-- ---- the three mirrors
unlike : false ≡ true → ⊥
unlike e = let f : ◌≡◌ {A = ℕ} 0 1 = cc in omega arith

-- what is asked of a vector where columns are turned round, where rows are, and where both are
pub columns-turnable : (v : Mv) → turnable v.col ≡ true → Turnable left_to_right v
columns-turnable v h = record { columns = λ e. h; rows = λ e. absurd (unlike e) }

pub rows-turnable : (v : Mv) → turnable v.row ≡ true → Turnable top_to_bottom v
rows-turnable v h = record { columns = λ e. absurd (unlike e); rows = λ e. h }

pub both-turnable : (v : Mv) → turnable v.col ≡ true → turnable v.row ≡ true → Turnable by_half v
both-turnable v h k = record { columns = λ e. h; rows = λ e. k }

-- THEOREM (K11, both). A picture flipped from top to bottom and then from left to right is the picture turned by half,
pub half_is-both : (ref : Reference) (col row : ℕ) → refusal ref col row ≡ 0 → mirrored_reference left_to_right (mirrored_reference top_to_bottom ref) ≡ mirrored_reference by_half ref
half_is-both ref col row ok =
    λ i. record {
      cols = ref.cols;
      rows = ref.rows;
      y = record { bytes = both luma i; stride = ref.y.stride };
      u = record { bytes = both chroma_u i; stride = ref.u.stride };
      v = record { bytes = both chroma_v i; stride = ref.v.stride };
    }
  where
    both : (k : Channel) → mirrored_bytes left_to_right (mirrored_plane top_to_bottom (plane_in k ref)) ≡ mirrored_bytes by_half (plane_in k ref)
    both k = mirrored-again left_to_right top_to_bottom by_half (plane_in k ref) (fits_in by_half ref col row ok k) (λ i h. refl) (λ i h. refl)

-- and its predictions are those turned by half.
module _ (set : FilterSet) (ref : Reference) (col row : ℕ) (ok : refusal ref col row ≡ 0) where
  pub whole_half : (v : Mv) → turnable v.col ≡ true → turnable v.row ≡ true
      → whole set off (mirrored_reference left_to_right (mirrored_reference top_to_bottom ref)) (ref.cols - 1 - col) (ref.rows - 1 - row) (mirrored_vector by_half v)
      ≡ mirrored_prediction by_half (whole set off ref col row v)
  whole_half v h k =
      ap (λ (x : Reference). whole set off x (ref.cols - 1 - col) (ref.rows - 1 - row) (mirrored_vector by_half v)) (half_is-both ref col row ok)
      ∙ whole_mirror by_half ref col row ok set v (both-turnable v h k)

  pub split_half : (vs : List Mv) → ((b : ℕ) → b < 16 → Turnable by_half (sent vs b))
      → split set off (mirrored_reference left_to_right (mirrored_reference top_to_bottom ref)) (ref.cols - 1 - col) (ref.rows - 1 - row) (mirrored_vectors by_half vs)
      ≡ mirrored_prediction by_half (split set off ref col row vs)
  split_half vs T =
      ap (λ (x : Reference). split set off x (ref.cols - 1 - col) (ref.rows - 1 - row) (mirrored_vectors by_half vs)) (half_is-both ref col row ok)
      ∙ split_mirror by_half ref col row ok set vs T

-- ---- carried to the functions
-- what the mirrored call is lent
abbrev pub mirrored_place : Mirror → Place → Place
mirrored_place m p =
    record {
      y = mirrored_bytes m (plane_in luma (lent_at p));
      u = mirrored_bytes m (plane_in chroma_u (lent_at p));
      v = mirrored_bytes m (plane_in chroma_v (lent_at p));
      sizes = p.sizes;
      col = mirrored_col m (lent_at p) p.col;
      row = mirrored_row m (lent_at p) p.row;
    }

module _ (set : FilterSet) (m : Mirror) (p : Place) (r s : Prediction) (ok : r.number ≡ 0) where
  -- THEOREM (K11, of results). Where a call of predict_inter_mb is accepted, the mirrored call is, and answers the mirrored answer;
  pub whole_results_mirror : (v : Mv) → Turnable m v → WholeGives set off p v r → WholeGives set off (mirrored_place m p) (mirrored_vector m v) s → s ≡ mirrored_prediction m r
  unfolding whole answered
  whole_results_mirror v T a b =
      b ∙ whole_mirror m (lent_at p) p.col p.row (sym (ap (λ (o : Prediction). o.number) a) ∙ ok) set v T ∙ ap (mirrored_prediction m) (sym a)

  -- and so with predict_split_mv, or predict_merging.
  pub split_results_mirror : (vs : List Mv) → ((b : ℕ) → b < 16 → Turnable m (sent vs b)) → SplitGives set off p vs r
      → SplitGives set off (mirrored_place m p) (mirrored_vectors m vs) s → s ≡ mirrored_prediction m r
  unfolding split answered
  split_results_mirror vs T a b =
      b ∙ split_mirror m (lent_at p) p.col p.row (sym (ap (λ (o : Prediction). o.number) a) ∙ ok) set vs T ∙ ap (mirrored_prediction m) (sym a)

-- what it is lent has the functions' types, where the call that is mirrored is of those types
pub mirrored_typed : (m : Mirror) (p : Place) → OfTypes p → OfTypes (mirrored_place m p)
mirrored_typed m p T =
    record {
      bytes = record { y = mirrored_bytes_lem m (plane_in luma (lent_at p)) T.bytes.y; u = mirrored_bytes_lem m (plane_in chroma_u (lent_at p)) T.bytes.u; v = mirrored_bytes_lem m (plane_in chroma_v (lent_at p)) T.bytes.v };
      y-length = omega (arith, length_mirrored m (plane_in luma (lent_at p)), T.y-length);
      u-length = omega (arith, length_mirrored m (plane_in chroma_u (lent_at p)), T.u-length);
      v-length = omega (arith, length_mirrored m (plane_in chroma_v (lent_at p)), T.v-length);
      y_stride = T.y_stride;
      u_stride = T.u_stride;
      v_stride = T.v_stride;
      cols = T.cols;
      rows = T.rows;
      col = turned_word m.columns (lent_at p).cols p.col T.cols T.col;
      row = turned_word m.rows (lent_at p).rows p.row T.rows T.row;
    }
  where
    turned_word : (b : Bool) (n i : ℕ) → Word n → Word i → Word (turn b n i)
    turned_word false n i h k = k
    turned_word true n i h k = omega arith

pub mirrored_fits : (b : Bool) (z : ℤ) → SFits w16 z → (b ≡ true → turnable z ≡ true) → SFits w16 (negated b z)
mirrored_fits false z f h = f
mirrored_fits true z f h = let S = small z (h refl) in omega (int, neg z, S.most, S.least)

-- ---- the premises are needed
-- three macroblocks in a row, the left half black and the right half white
abbrev pub halves : Reference
halves = columns_of (λ c. c / 24 * 255)

pub halves-accepted : refusal halves 1 0 ≡ 0
halves-accepted = three_accepted (λ c. c / 24 * 255)

-- what the picture and the mirrored picture hold
abbrev here : Image
here a b = clamped a 48 / 24 * 255

abbrev there : Image
there a b = clamped (pos 47 -ℤ a) 48 / 24 * 255

halves_mirrored : image (plane_in luma (mirrored_reference left_to_right halves)) ≡ there
halves_mirrored =
    fun_ext (λ a. fun_ext (λ b.
    image_mirrored left_to_right (plane_in luma halves) (omega arith) (omega arith) (fits_in left_to_right halves 1 0 halves-accepted luma) a b
    ∙ ap (λ (img : Image). img (pos 47 -ℤ a) b) (columns-image (λ c. c / 24 * 255))))

-- a prediction that is not another mirrored: by a sample in the first row of luma
unlike_mirrored : (p q : Prediction) (c s t : ℕ) → c < 16 → get_or p.samples.y (0 * 16 + c) 0 ≡ s → get_or q.samples.y (0 * 16 + (16 - 1 - c)) 0 ≡ t → (s ≡ t → ⊥)
    → p ≡ mirrored_prediction left_to_right q → ⊥
unlike_mirrored p q c s t h a b n e =
    n (sym a ∙ ap (λ (o : Prediction). get_or o.samples.y (0 * 16 + c) 0) e ∙ get_or-raster 16 16 (λ r c. get_or q.samples.y (r * 16 + (16 - 1 - c)) 0) 0 c (omega arith) h ∙ b)

module _ (set : FilterSet) (low : Lowering) (c s t : ℕ) (h : c < 16) (n : s ≡ t → ⊥) where
  abbrev mirrored_halves : Reference
  mirrored_halves = mirrored_reference left_to_right halves

  accepted : refusal mirrored_halves 1 0 ≡ 0
  accepted = mirror-accepted left_to_right halves 1 0 halves-accepted

  whole_unlike : (v w : Mv) → predicted set there (pos (16 + c)) (pos 0) (whole_vector luma low w) ≡ s → predicted set here (pos (16 + (16 - 1 - c))) (pos 0) (whole_vector luma low v) ≡ t
      → whole set low mirrored_halves 1 0 w ≡ mirrored_prediction left_to_right (whole set low halves 1 0 v) → ⊥
  whole_unlike v w a b =
      unlike_mirrored (whole set low mirrored_halves 1 0 w) (whole set low halves 1 0 v) c s t h
      (whole_sample set low mirrored_halves 1 0 accepted luma 0 c (omega arith) h w
      ∙ ap (λ (img : Image). predicted set img (pos (16 + c)) (pos 0) (whole_vector luma low w)) halves_mirrored
      ∙ a)
      (whole_sample set low halves 1 0 halves-accepted luma 0 (16 - 1 - c) (omega arith) (omega arith) v
      ∙ ap (λ (img : Image). predicted set img (pos (16 + (16 - 1 - c))) (pos 0) (whole_vector luma low v)) (columns-image (λ c. c / 24 * 255))
      ∙ b)
      n

  split_unlike : (vs ws : List Mv) → predicted set there (pos (16 + c)) (pos 0) (tile_vector luma low ws 0 (c / 4)) ≡ s
      → predicted set here (pos (16 + (16 - 1 - c))) (pos 0) (tile_vector luma low vs 0 ((16 - 1 - c) / 4)) ≡ t
      → split set low mirrored_halves 1 0 ws ≡ mirrored_prediction left_to_right (split set low halves 1 0 vs) → ⊥
  split_unlike vs ws a b =
      unlike_mirrored (split set low mirrored_halves 1 0 ws) (split set low halves 1 0 vs) c s t h
      (split_sample set low mirrored_halves 1 0 accepted luma 0 c (omega arith) h ws
      ∙ ap (λ (img : Image). predicted set img (pos (16 + c)) (pos 0) (tile_vector luma low ws 0 (c / 4))) halves_mirrored
      ∙ a)
      (split_sample set low halves 1 0 halves-accepted luma 0 (16 - 1 - c) (omega arith) (omega arith) vs
      ∙ ap (λ (img : Image). predicted set img (pos (16 + (16 - 1 - c))) (pos 0) (tile_vector luma low vs 0 ((16 - 1 - c) / 4))) (columns-image (λ c. c / 24 * 255))
      ∙ b)
      n

-- THEOREM (K11, the range). With a column component of -16384 the mirrored call, by 16384, looks to the same side and not to the other.
abbrev pub far_left : Mv
far_left = record { row = pos 0; col = negsuc 16383 }

pub range_needed : (set : FilterSet)
    → whole set off (mirrored_reference left_to_right halves) (mirrored_col left_to_right halves 1) (mirrored_row left_to_right halves 0) (mirrored_vector left_to_right far_left)
    ≡ mirrored_prediction left_to_right (whole set off halves 1 0 far_left) → ⊥
unfolding predicted filtered
range_needed set = whole_unlike set off 0 255 0 (omega arith) (omega arith) far_left (mirrored_vector left_to_right far_left) refl refl

pub range_needed-split : (set : FilterSet)
    → split set off (mirrored_reference left_to_right halves) (mirrored_col left_to_right halves 1) (mirrored_row left_to_right halves 0) (mirrored_vectors left_to_right (sixteen far_left))
    ≡ mirrored_prediction left_to_right (split set off halves 1 0 (sixteen far_left)) → ⊥
unfolding predicted filtered mirrored_vectors tab
range_needed-split set = split_unlike set off 0 255 0 (omega arith) (omega arith) (sixteen far_left) (mirrored_vectors left_to_right (sixteen far_left)) refl refl

-- THEOREM (K11, full-pixel off). With it on, a quarter of a pixel to the right is lowered to none, and one to the left to a whole pixel.
abbrev pub quarter_right : Mv
quarter_right = record { row = pos 0; col = pos 1 }

pub full_pixel_needed : (set : FilterSet)
    → whole set (lowering_of true) (mirrored_reference left_to_right halves) (mirrored_col left_to_right halves 1) (mirrored_row left_to_right halves 0)
    (mirrored_vector left_to_right quarter_right)
    ≡ mirrored_prediction left_to_right (whole set (lowering_of true) halves 1 0 quarter_right) → ⊥
unfolding predicted filtered
full_pixel_needed set = whole_unlike set (lowering_of true) 8 255 0 (omega arith) (omega arith) quarter_right (mirrored_vector left_to_right quarter_right) refl refl

pub full_pixel_needed-split : (set : FilterSet)
    → split set (lowering_of true) (mirrored_reference left_to_right halves) (mirrored_col left_to_right halves 1) (mirrored_row left_to_right halves 0)
    (mirrored_vectors left_to_right (sixteen quarter_right))
    ≡ mirrored_prediction left_to_right (split set (lowering_of true) halves 1 0 (sixteen quarter_right)) → ⊥
unfolding predicted filtered mirrored_vectors tab
full_pixel_needed-split set =
    split_unlike set (lowering_of true) 8 255 0 (omega arith) (omega arith) (sixteen quarter_right) (mirrored_vectors left_to_right (sixteen quarter_right)) refl refl

-- these inputs meet every other premise
pub quarter_right-turnable : Turnable left_to_right quarter_right
quarter_right-turnable = columns-turnable quarter_right refl
