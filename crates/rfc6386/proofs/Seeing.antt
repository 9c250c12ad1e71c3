-- K13: which samples a prediction may see. Two references that agree wherever `Seen` says give the same prediction, whatever else they hold; so
-- do a picture and the same picture with a strip blanked, where the prediction misses the strip. Assumes nothing.
use Rattle.std.specs.Prelude.{◌≡◌, refl, false, cond, List, ℕ, suc, ◌+◌, ◌*◌, ◌<◌, eqb, get_or, replicate, pos}
use Rattle.std.proofs.Math.Path.{sym, fun_ext}
use Rattle.std.proofs.Common.{ap, ap₂, ◌∙◌, arith}
use Rattle.std.proofs.lemmas.List.{length-replicate}
use Rattle.rfc6386.specs.Number.{clamped}
use Rattle.rfc6386.specs.Vector.{lowering_of, luma_vector}
use Rattle.rfc6386.specs.declared.Lowering.{Lowering}
use Rattle.rfc6386.specs.Filter.{taps_of, dot, rounded, clamp255, step}
use Rattle.rfc6386.specs.Raster.{raster}
use Rattle.rfc6386.specs.Picture.{Image, image, across, two_steps, filtered, predicted}
use Rattle.rfc6386.specs.Macroblock.{Reference, refusal, answered, whole, split}
use Rattle.rfc6386.specs.Channel.{Channel, side, plane_in, samples_in, whole_vector, tile_vector}
use Rattle.rfc6386.specs.Channel.Channel.{luma}
use Rattle.rfc6386.specs.Seen.{first_seen, last_seen, WholeSame, TileSame, SplitSame, Strip, BlankedIn, WholeMisses, TileMisses}
use Rattle.rfc6386.proofs.Carried.{Place, lent_at, WholeGives, SplitGives}
use Rattle.rfc6386.proofs.Laws.Raster.{length-raster, get_or-raster}
use Rattle.rfc6386.proofs.Laws.Vectors.{clamped-is}
use Rattle.rfc6386.proofs.Laws.Refusals.{accepts, zero_for}
use Rattle.rfc6386.proofs.Laws.Channels.{by_channels, some_places, whole_channel, split_channel, whole_sample, split_sample}
use Rattle.rfc6386.proofs.Laws.Outcomes.{answered-same}
use Rattle.rfc6386.proofs.Laws.Seeing.{block_seen, tile_seen, tiles_seen, strip_same}
use Rattle.rfc6386.specs.declared.Mv.{Mv}
use Rattle.rfc6386.specs.declared.FilterSet.{FilterSet}
use Rattle.rfc6386.specs.declared.FilterSet.TheVariants.{Sixtap, Bilinear}
use Rattle.rfc6386.specs.Answer.{Prediction}

module _ (set : FilterSet) (low : Lowering) (ref ref' : Reference) (col row : ℕ) (ok : refusal ref col row ≡ 0) (ok' : refusal ref' col row ≡ 0) where
  -- THEOREM (K13, whole). For both tables, every rule of full-pixel and every vector.
  pub whole_seen : (v : Mv) → WholeSame set low col row v ref ref' → whole set low ref col row v ≡ whole set low ref' col row v
  unfolding whole
  whole_seen v S =
      answered-same _ _ _ _ (ok ∙ sym ok')
      (λ e. by_channels _ _
      (λ k.
      whole_channel low ref col row k set v
      ∙ block_seen set (side k) (plane_in k ref) (plane_in k ref') (col * side k) (row * side k) (whole_vector k low v) (S k)
      ∙ sym (whole_channel low ref' col row k set v)))

  -- THEOREM (K13, split). And so for merging, whose contract is split's.
  pub split_seen : (vs : List Mv) → SplitSame set low col row vs ref ref' → split set low ref col row vs ≡ split set low ref' col row vs
  unfolding split
  split_seen vs S =
      answered-same _ _ _ _ (ok ∙ sym ok')
      (λ e. by_channels _ _
      (λ k.
      split_channel low ref col row k set vs
      ∙ tiles_seen set (plane_in k ref) (plane_in k ref') (col * side k) (row * side k) (tile_vector k low vs) (side k) (S k)
      ∙ sym (split_channel low ref' col row k set vs)))

  -- THEOREM (K13, each block of a split macroblock). The block in row i and column j of its blocks depends on its own places alone.
  pub tile_seen_alone : (vs : List Mv) (k : Channel) (i j : ℕ) → TileSame k set low col row vs i j ref ref'
      → (r c : ℕ) → r < 4 → c < 4 → i * 4 + r < side k → j * 4 + c < side k
      → get_or (samples_in k (split set low ref col row vs).samples) ((i * 4 + r) * side k + (j * 4 + c)) 0
      ≡ get_or (samples_in k (split set low ref' col row vs).samples) ((i * 4 + r) * side k + (j * 4 + c)) 0
  tile_seen_alone vs k i j S r c hr hc kr kc =
      split_sample set low ref col row ok k (i * 4 + r) (j * 4 + c) kr kc vs
      ∙ tile_seen set (plane_in k ref) (plane_in k ref') (col * side k) (row * side k) (tile_vector k low vs) i j r c hr hc S
      ∙ sym (split_sample set low ref' col row ok' k (i * 4 + r) (j * 4 + c) kr kc vs)

  -- THEOREM (K13, the strip). A picture, and the same with a strip of columns or rows replaced by anything: a whole prediction that misses the
  -- strip is the same,
  module _ (s : Strip) (B : BlankedIn s ref ref') where
    pub whole_strip : (v : Mv) → WholeMisses s set low col row v ref → whole set low ref col row v ≡ whole set low ref' col row v
    whole_strip v M =
        let A = accepts ref col row ok in
        whole_seen v
        (λ k.
        strip_same s (side k) set (side k) (col * side k) (row * side k) (whole_vector k low v) (plane_in k ref) (plane_in k ref')
        (some_places k ref.cols A.cols_least) (some_places k ref.rows A.rows_least) (B k) (M k))

    -- and so is each block of a split one that misses it.
    pub tile_strip : (vs : List Mv) (k : Channel) (i j : ℕ) → TileMisses k s set low col row vs i j ref
        → (r c : ℕ) → r < 4 → c < 4 → i * 4 + r < side k → j * 4 + c < side k
        → get_or (samples_in k (split set low ref col row vs).samples) ((i * 4 + r) * side k + (j * 4 + c)) 0
        ≡ get_or (samples_in k (split set low ref' col row vs).samples) ((i * 4 + r) * side k + (j * 4 + c)) 0
    tile_strip vs k i j M =
        let A = accepts ref col row ok in
        tile_seen_alone vs k i j
        (strip_same s (side k) set 4 (col * side k + j * 4) (row * side k + i * 4) (tile_vector k low vs i j) (plane_in k ref) (plane_in k ref')
        (some_places k ref.cols A.cols_least) (some_places k ref.rows A.rows_least) (B k) M)

-- ---- carried to the functions
-- two calls at one position
pub record OnePosition (p q : Place) : Type 0 where
  pub col : p.col ≡ q.col
  pub row : p.row ≡ q.row

module _ (p q : Place) (P : OnePosition p q) (r s : Prediction) (ok : r.number ≡ 0) (ok' : s.number ≡ 0) where
  -- of a call that answers f, whose number is that of the reference and the position: what g shows of it
  results : {A : Type 0} (g : Prediction → A) (f : Reference → ℕ → ℕ → Prediction) → ((x : Reference) (col row : ℕ) → (f x col row).number ≡ refusal x col row)
      → r ≡ f (lent_at p) p.col p.row → s ≡ f (lent_at q) q.col q.row
      → (refusal (lent_at p) p.col p.row ≡ 0 → refusal (lent_at q) p.col p.row ≡ 0 → g (f (lent_at p) p.col p.row) ≡ g (f (lent_at q) p.col p.row))
      → g r ≡ g s
  results g f number a b same =
      let c = b ∙ ap₂ (f (lent_at q)) (sym P.col) (sym P.row) in
      ap g a
      ∙ same (sym (number _ _ _) ∙ sym (ap (λ (o : Prediction). o.number) a) ∙ ok) (sym (number _ _ _) ∙ sym (ap (λ (o : Prediction). o.number) c) ∙ ok')
      ∙ ap g (sym c)

  -- THEOREM (K13, of results). Two accepted calls of predict_inter_mb answer alike, whatever their planes hold elsewhere, or in a strip.
  module _ (set : FilterSet) (low : Lowering) (v : Mv) (a : WholeGives set low p v r) (b : WholeGives set low q v s) where
    pub whole-results_seen : WholeSame set low p.col p.row v (lent_at p) (lent_at q) → r ≡ s
    unfolding whole answered
    whole-results_seen S =
        results (λ o. o) (λ x col row. whole set low x col row v) (λ x col row. refl) a b
        (λ e f. whole_seen set low (lent_at p) (lent_at q) p.col p.row e f v S)

    pub whole-results_strip : (t : Strip) → BlankedIn t (lent_at p) (lent_at q) → WholeMisses t set low p.col p.row v (lent_at p) → r ≡ s
    unfolding whole answered
    whole-results_strip t B M =
        results (λ o. o) (λ x col row. whole set low x col row v) (λ x col row. refl) a b
        (λ e f. whole_strip set low (lent_at p) (lent_at q) p.col p.row e f t B v M)

  -- And so do two of predict_split_mv or predict_merging, as a whole and block by block.
  module _ (set : FilterSet) (low : Lowering) (vs : List Mv) (a : SplitGives set low p vs r) (b : SplitGives set low q vs s) where
    pub split-results_seen : SplitSame set low p.col p.row vs (lent_at p) (lent_at q) → r ≡ s
    unfolding split answered
    split-results_seen S =
        results (λ o. o) (λ x col row. split set low x col row vs) (λ x col row. refl) a b
        (λ e f. split_seen set low (lent_at p) (lent_at q) p.col p.row e f vs S)

    module _ (k : Channel) (i j x y : ℕ) (hy : y < 4) (hx : x < 4) (ky : i * 4 + y < side k) (kx : j * 4 + x < side k) where
      abbrev sample : Prediction → ℕ
      sample o = get_or (samples_in k o.samples) ((i * 4 + y) * side k + (j * 4 + x)) 0

      pub tile-results_seen : TileSame k set low p.col p.row vs i j (lent_at p) (lent_at q)
          → get_or (samples_in k r.samples) ((i * 4 + y) * side k + (j * 4 + x)) 0 ≡ get_or (samples_in k s.samples) ((i * 4 + y) * side k + (j * 4 + x)) 0
      unfolding split answered
      tile-results_seen S =
          results sample (λ x col row. split set low x col row vs) (λ x col row. refl) a b
          (λ e f. tile_seen_alone set low (lent_at p) (lent_at q) p.col p.row e f vs k i j S y x hy hx ky kx)

      pub tile-results_strip : (t : Strip) → BlankedIn t (lent_at p) (lent_at q) → TileMisses k t set low p.col p.row vs i j (lent_at p)
          → get_or (samples_in k r.samples) ((i * 4 + y) * side k + (j * 4 + x)) 0 ≡ get_or (samples_in k s.samples) ((i * 4 + y) * side k + (j * 4 + x)) 0
      unfolding split answered
      tile-results_strip t B M =
          results sample (λ x col row. split set low x col row vs) (λ x col row. refl) a b
          (λ e f. tile_strip set low (lent_at p) (lent_at q) p.col p.row e f t B vs k i j M y x hy hx ky kx)

-- ---- the bound is reached
-- a picture of three macroblocks in a row by the columns of its luma; its chroma is 0
abbrev pub columns_of : (ℕ → ℕ) → Reference
columns_of f =
    record {
      cols = 3;
      rows = 1;
      y = record { bytes = raster 16 48 (λ r c. f c); stride = 48 };
      u = record { bytes = replicate 192 0; stride = 24 };
      v = record { bytes = replicate 192 0; stride = 24 };
    }

-- all black, and one column white
abbrev pub black : Reference
black = columns_of (λ c. 0)

abbrev pub lit : ℕ → Reference
lit q = columns_of (λ c. cond (eqb c q) 255 0)

pub three_accepted : (f : ℕ → ℕ) → refusal (columns_of f) 1 0 ≡ 0
three_accepted f =
    zero_for (columns_of f) 1 0
    (record {
      cols_least = omega arith;
      cols_most = omega arith;
      rows_least = omega arith;
      rows_most = omega arith;
      y = record { stride_least = omega arith; stride_most = omega arith; bytes = omega (arith, length-raster 16 48 (λ r c. f c)) };
      u = record { stride_least = omega arith; stride_most = omega arith; bytes = omega (arith, length-replicate {A = ℕ} 192 0) };
      v = record { stride_least = omega arith; stride_most = omega arith; bytes = omega (arith, length-replicate {A = ℕ} 192 0) };
      col_inside = omega arith;
      row_inside = omega arith;
    })

pub columns-image : (f : ℕ → ℕ) → image (plane_in luma (columns_of f)) ≡ (λ a b. f (clamped a 48))
unfolding image
columns-image f = fun_ext (λ a. fun_ext (λ b. get_or-raster 16 48 (λ r c. f c) (clamped b 16) (clamped a 48) (omega (arith, clamped-is b 16)) (omega (arith, clamped-is a 48))))

-- luma sample c, in the first row, of the whole prediction for the middle macroblock, full-pixel off
abbrev pub middle : FilterSet → Reference → Mv → ℕ → ℕ
middle set ref v c = get_or (whole set (lowering_of false) ref 1 0 v).samples.y c 0

middle_is : (set : FilterSet) (f : ℕ → ℕ) (v : Mv) (c : ℕ) → c < 16 → middle set (columns_of f) v c ≡ predicted set (λ a b. f (clamped a 48)) (pos (16 + c)) (pos 0) (luma_vector (lowering_of false) v)
middle_is set f v c h =
    let e : c ≡ 0 * 16 + c = omega arith in
    ap (λ (i : ℕ). get_or (whole set (lowering_of false) (columns_of f) 1 0 v).samples.y i 0) e
    ∙ whole_sample set (lowering_of false) (columns_of f) 1 0 (three_accepted f) luma 0 c (omega arith) h v
    ∙ ap (λ (img : Image). predicted set img (pos (16 + c)) (pos 0) (luma_vector (lowering_of false) v)) (columns-image f)

-- the first and the last column that the middle macroblock may see under a vector: to make one of them white changes a sample
pub record Reached (set : FilterSet) (v : Mv) : Type 0 where
  pub first : middle set black v 0 ≡ middle set (lit (first_seen set 16 (luma_vector (lowering_of false) v).col 48)) v 0 → ⊥
  pub last : middle set black v 15 ≡ middle set (lit (last_seen set 16 16 (luma_vector (lowering_of false) v).col 48)) v 15 → ⊥

reached : (set : FilterSet) (v : Mv) (q c s : ℕ) → c < 16 → predicted set (λ a b. 0) (pos (16 + c)) (pos 0) (luma_vector (lowering_of false) v) ≡ 0
    → predicted set (λ a b. cond (eqb (clamped a 48) q) 255 0) (pos (16 + c)) (pos 0) (luma_vector (lowering_of false) v) ≡ suc s
    → middle set black v c ≡ middle set (lit q) v c → ⊥
reached set v q c s h dark light e =
    let z : 0 ≡ suc s = sym dark ∙ sym (middle_is set (λ c. 0) v c h) ∙ e ∙ middle_is set (λ c. cond (eqb c q) 255 0) v c h ∙ light in
    omega arith

-- THEOREM (K13). Under six-tap with fraction 2 (columns 14 and 34), and under bilinear with fraction 4 (columns 16 and 32).
pub reached_sixtap : Reached Sixtap (record { row = pos 0; col = pos 1 })
unfolding predicted filtered two_steps across step rounded dot clamp255 taps_of
reached_sixtap = record { first = reached Sixtap _ _ 0 3 (omega arith) refl refl; last = reached Sixtap _ _ 15 1 (omega arith) refl refl }

pub reached_bilinear : Reached Bilinear (record { row = pos 0; col = pos 2 })
unfolding predicted filtered two_steps across step rounded dot clamp255 taps_of
reached_bilinear = record { first = reached Bilinear _ _ 0 127 (omega arith) refl refl; last = reached Bilinear _ _ 15 127 (omega arith) refl refl }
