-- K10: the two full-pixel modes of prediction by version. They differ in version 3 alone, there in luma alone, and there only under a vector
-- with a fraction; and there they do differ. Assumes nothing.
use Rattle.std.specs.Prelude.{◌≡◌, Bool, List, ℕ, zero, suc, ◌+◌, ◌*◌, ◌<◌, eqb, ltb, get_or, replicate, pos}
use Rattle.std.proofs.Math.Path.{refl, sym, ap, fun_ext}
use Rattle.std.proofs.Common.{◌∙◌, arith, eqb-true, ne_eqb}
use Rattle.std.proofs.Math.Bool.{true, false, cond}
use Rattle.std.proofs.lemmas.List.{length-replicate}
use Rattle.rfc6386.specs.Number.{clamped}
use Rattle.rfc6386.specs.Vector.{fraction, stored, each, luma_vector, chroma_vector, is_whole, sent}
use Rattle.rfc6386.specs.declared.Lowering.{Lowering}
use Rattle.rfc6386.specs.Filter.{version_set, taps_of, dot, rounded, clamp255, step}
use Rattle.rfc6386.specs.Raster.{raster}
use Rattle.rfc6386.specs.Picture.{Image, image, across, two_steps, filtered, predicted, block}
use Rattle.rfc6386.specs.Refusal.{if_done}
use Rattle.rfc6386.specs.Macroblock.{Reference, plane_y, plane_u, plane_v, refusal, subblock, whole_samples, split_samples, answered, whole, split}
use Rattle.rfc6386.specs.Version.{reserved_version, in_mode, whole_by_version, split_by_version}
use Rattle.rfc6386.specs.Channel.{plane_in}
use Rattle.rfc6386.specs.Channel.Channel.{luma}
use Rattle.rfc6386.specs.Telling.{sixteen}
use Rattle.rfc6386.proofs.Laws.Tests.{and-true}
use Rattle.rfc6386.proofs.Laws.Raster.{length-raster, get_or-raster}
use Rattle.rfc6386.proofs.Laws.Vectors.{vector, clamped-is, lowered-whole}
use Rattle.rfc6386.proofs.Laws.Refusals.{zero_for}
use Rattle.rfc6386.proofs.Laws.Blocks.{block_at}
use Rattle.rfc6386.proofs.Laws.Channels.{whole_sample, split_sample}
use Rattle.rfc6386.specs.declared.Mv.{Mv}
use Rattle.rfc6386.specs.declared.FilterSet.TheVariants.{Bilinear}
use Rattle.rfc6386.specs.declared.ReconstructedMb.{ReconstructedMb}
use Rattle.rfc6386.specs.Answer.{Prediction}

-- ---- version 3
-- two answers that are the same but for luma
pub record ButForLuma (p q : Prediction) : Type 0 where
  pub number_same : p.number ≡ q.number
  pub u_same : p.samples.u ≡ q.samples.u
  pub v_same : p.samples.v ≡ q.samples.v

but_for-luma : (n : ℕ) (s t : ReconstructedMb) → s.u ≡ t.u → s.v ≡ t.v → ButForLuma (answered n s) (answered n t)
unfolding answered if_done
but_for-luma zero s t p q = record { number_same = refl; u_same = p; v_same = q }
but_for-luma (suc n) s t p q = record { number_same = refl; u_same = refl; v_same = refl }

luma_sample : (n i : ℕ) (s t : ReconstructedMb) → get_or s.y i 0 ≡ get_or t.y i 0 → get_or (answered n s).samples.y i 0 ≡ get_or (answered n t).samples.y i 0
unfolding answered if_done
luma_sample zero i s t e = e
luma_sample (suc n) i s t e = refl

-- a stored vector without a fraction is what it is lowered to
not_lowered : (v : Mv) → is_whole (each stored v) ≡ true → luma_vector (in_mode true true) v ≡ luma_vector (in_mode false true) v
not_lowered v e =
    let p = and-true (eqb (fraction (stored v.row)) 0) (eqb (fraction (stored v.col)) 0) e in
    vector (sym (lowered-whole true (stored v.row) (eqb-true _ _ p.0))) (sym (lowered-whole true (stored v.col) (eqb-true _ _ p.1)))

module _ (ref : Reference) (col row : ℕ) where
  -- THEOREM. The modes agree in number, U and V on every input,
  pub whole_chroma_lem : (v : Mv) → ButForLuma (whole_by_version 3 true ref col row v) (whole_by_version 3 false ref col row v)
  unfolding whole_by_version whole whole_samples
  whole_chroma_lem v = but_for-luma (refusal ref col row) (whole_samples Bilinear (in_mode true true) ref col row v) (whole_samples Bilinear (in_mode false true) ref col row v) refl refl

  pub split_chroma_lem : (vs : List Mv) → ButForLuma (split_by_version 3 true ref col row vs) (split_by_version 3 false ref col row vs)
  unfolding split_by_version split split_samples
  split_chroma_lem vs = but_for-luma (refusal ref col row) (split_samples Bilinear (in_mode true true) ref col row vs) (split_samples Bilinear (in_mode false true) ref col row vs) refl refl

  -- and in Y wherever the luma vector has no fraction: the one of a whole macroblock, or that of the block of a split one.
  pub whole-luma : (v : Mv) → is_whole (each stored v) ≡ true → whole_by_version 3 true ref col row v ≡ whole_by_version 3 false ref col row v
  unfolding whole_by_version whole whole_samples
  whole-luma v e =
      ap (λ (m : Mv). answered (refusal ref col row)
      (record {
        y = block 16 Bilinear (image (plane_y ref)) (col * 16) (row * 16) m;
        u = block 8 Bilinear (image (plane_u ref)) (col * 8) (row * 8) (chroma_vector (in_mode false true) v);
        v = block 8 Bilinear (image (plane_v ref)) (col * 8) (row * 8) (chroma_vector (in_mode false true) v);
      })) (not_lowered v e)

  pub split-luma : (vs : List Mv) (r c : ℕ) → r < 16 → c < 16 → is_whole (each stored (sent vs (subblock r c))) ≡ true
      → get_or (split_by_version 3 true ref col row vs).samples.y (r * 16 + c) 0 ≡ get_or (split_by_version 3 false ref col row vs).samples.y (r * 16 + c) 0
  unfolding split_by_version split split_samples
  split-luma vs r c hr hc e =
      let img = image (plane_y ref) in
      luma_sample (refusal ref col row) (r * 16 + c) (split_samples Bilinear (in_mode true true) ref col row vs) (split_samples Bilinear (in_mode false true) ref col row vs)
      (block_at 16 Bilinear img (col * 16) (row * 16) (λ r c. luma_vector (in_mode true true) (sent vs (subblock r c))) r c hr hc
      ∙ ap (predicted Bilinear img (pos (col * 16 + c)) (pos (row * 16 + r))) (not_lowered (sent vs (subblock r c)) e)
      ∙ sym (block_at 16 Bilinear img (col * 16) (row * 16) (λ r c. luma_vector (in_mode false true) (sent vs (subblock r c))) r c hr hc))

-- ---- and they differ in Y
-- a picture of one macroblock, black but for its luma column 1
abbrev pub one_column : Reference
one_column =
    record {
      cols = 1;
      rows = 1;
      y = record { bytes = raster 16 16 (λ r c. cond (eqb c 1) 255 0); stride = 16 };
      u = record { bytes = replicate 64 0; stride = 8 };
      v = record { bytes = replicate 64 0; stride = 8 };
    }

one_accepted : refusal one_column 0 0 ≡ 0
one_accepted =
    zero_for one_column 0 0
    (record {
      cols_least = omega arith;
      cols_most = omega arith;
      rows_least = omega arith;
      rows_most = omega arith;
      y = record { stride_least = omega arith; stride_most = omega arith; bytes = omega (arith, length-raster 16 16 (λ r c. cond (eqb c 1) 255 0)) };
      u = record { stride_least = omega arith; stride_most = omega arith; bytes = omega (arith, length-replicate {A = ℕ} 64 0) };
      v = record { stride_least = omega arith; stride_most = omega arith; bytes = omega (arith, length-replicate {A = ℕ} 64 0) };
      col_inside = omega arith;
      row_inside = omega arith;
    })

abbrev column : Image
column a b = cond (eqb (clamped a 16) 1) 255 0

one-image : image (plane_in luma one_column) ≡ column
unfolding image
one-image = fun_ext (λ a. fun_ext (λ b. get_or-raster 16 16 (λ r c. cond (eqb c 1) 255 0) (clamped b 16) (clamped a 16) (omega (arith, clamped-is b 16)) (omega (arith, clamped-is a 16))))

-- a quarter of a luma pixel to the right
abbrev pub quarter_right : Mv
quarter_right = record { row = pos 0; col = pos 1 }

-- the first luma sample
abbrev pub first_of : Prediction → ℕ
first_of p = get_or p.samples.y 0 0

module _ (low : Lowering) (n : ℕ) (e : predicted Bilinear column (pos 0) (pos 0) (luma_vector low quarter_right) ≡ n) where
  whole_first : first_of (whole Bilinear low one_column 0 0 quarter_right) ≡ n
  whole_first =
      whole_sample Bilinear low one_column 0 0 one_accepted luma 0 0 (omega arith) (omega arith) quarter_right
      ∙ ap (λ (img : Image). predicted Bilinear img (pos 0) (pos 0) (luma_vector low quarter_right)) one-image
      ∙ e

  split_first : first_of (split Bilinear low one_column 0 0 (sixteen quarter_right)) ≡ n
  split_first =
      split_sample Bilinear low one_column 0 0 one_accepted luma 0 0 (omega arith) (omega arith) (sixteen quarter_right)
      ∙ ap (λ (img : Image). predicted Bilinear img (pos 0) (pos 0) (luma_vector low quarter_right)) one-image
      ∙ e

first_mode : predicted Bilinear column (pos 0) (pos 0) (luma_vector (in_mode false true) quarter_right) ≡ 0
unfolding predicted filtered two_steps across step rounded dot clamp255 taps_of
first_mode = refl

second_mode : predicted Bilinear column (pos 0) (pos 0) (luma_vector (in_mode true true) quarter_right) ≡ 64
unfolding predicted filtered two_steps across step rounded dot clamp255 taps_of
second_mode = refl

-- THEOREM. On that picture, under that vector, once or sixteen times, the first luma sample is 0 in the first mode and 64 in the second.
pub record Differ : Type 0 where
  pub whole_by_rust : first_of (whole_by_version 3 false one_column 0 0 quarter_right) ≡ 0
  pub whole_by_standard : first_of (whole_by_version 3 true one_column 0 0 quarter_right) ≡ 64
  pub split_by_rust : first_of (split_by_version 3 false one_column 0 0 (sixteen quarter_right)) ≡ 0
  pub split_by_standard : first_of (split_by_version 3 true one_column 0 0 (sixteen quarter_right)) ≡ 64

pub modes_differ : Differ
unfolding whole_by_version split_by_version
modes_differ =
    record {
      whole_by_rust = whole_first (in_mode false true) 0 first_mode;
      whole_by_standard = whole_first (in_mode true true) 64 second_mode;
      split_by_rust = split_first (in_mode false true) 0 first_mode;
      split_by_standard = split_first (in_mode true true) 64 second_mode;
    }

-- ---- every version but 3
-- with the flag off the modes are one rule
flag_off : (full : Bool) → full ≡ false → in_mode true full ≡ in_mode false full
flag_off full e = λ i. record { luma = sym e i; chroma = full }

module _ (version : ℕ) (other : version ≡ 3 → ⊥) (ref : Reference) (col row : ℕ) where
  -- THEOREM. In versions 0 to 2, and in the reserved ones, the modes answer alike on every input.
  pub whole_alike : (v : Mv) → whole_by_version version true ref col row v ≡ whole_by_version version false ref col row v
  unfolding whole_by_version
  whole_alike v =
      ap (λ (low : Lowering). cond (ltb 3 version) reserved_version (whole (version_set version) low ref col row v)) (flag_off (eqb version 3) (ne_eqb version 3 other))

  pub split_alike : (vs : List Mv) → split_by_version version true ref col row vs ≡ split_by_version version false ref col row vs
  unfolding split_by_version
  split_alike vs =
      ap (λ (low : Lowering). cond (ltb 3 version) reserved_version (split (version_set version) low ref col row vs)) (flag_off (eqb version 3) (ne_eqb version 3 other))
