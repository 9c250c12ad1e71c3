-- How many samples of a macroblock are clipped (request K14), and what is proved of it: no more than there are, none under bilinear or at whole
-- pixels, and as many under one vector as under the same sixteen times, inside demand 3's range. Assumes nothing.
use Rattle.std.specs.Prelude.{◌≡◌, refl, true, ◌&&◌, List, ℕ, ◌+◌, ◌*◌, ◌<◌, ◌≤◌, ℤ, pos, negsuc, ◌*ℤ◌}
use Rattle.std.proofs.Common.{sym, ap, ap₂, ◌∙◌, arith, eq-eqb}
use Rattle.signed.specs.Int.{int, times, one_side}
use Rattle.rfc6386.specs.Number.{floor_div}
use Rattle.rfc6386.specs.Vector.{stored, fraction, whole_chroma, lowered, lowering_of, each, luma_vector, chroma_vector, is_whole, sent, quarter_average, quarter_vector, mergeable}
use Rattle.rfc6386.specs.declared.Lowering.{Lowering}
use Rattle.rfc6386.specs.Picture.{image}
use Rattle.rfc6386.specs.Clips.{clip_of, no_clips, both_clips, clips_by, block_clips}
use Rattle.rfc6386.specs.Macroblock.{Reference, plane_y, plane_u, plane_v, subblock, quarter}
use Rattle.rfc6386.specs.Report.{whole_clips, split_clips}
use Rattle.rfc6386.specs.Telling.{sixteen}
use Rattle.rfc6386.proofs.Laws.Vectors.{part, fraction-is}
use Rattle.rfc6386.proofs.Laws.Blocks.{AllBytes, image_bytes}
use Rattle.rfc6386.proofs.Laws.Merging.{mergeable-true, sent_equal, chroma_equal, quarter_alike}
use Rattle.rfc6386.proofs.Laws.Clipping.{block_clips_le, block_clips_ext, block_clips_whole, block_clips_bilinear}
use Rattle.rfc6386.specs.declared.Mv.{Mv}
use Rattle.rfc6386.specs.declared.FilterSet.{FilterSet}
use Rattle.rfc6386.specs.declared.FilterSet.TheVariants.{Bilinear}
use Rattle.rfc6386.specs.declared.Clip.TheVariants.{Low, High, None}
use Rattle.rfc6386.specs.declared.Clips.{Clips}

-- ---- one step: 0 and 255 are not clipped, their neighbours outside are
pub record Exactly : Type 0 where
  pub least : clip_of (pos 0) ≡ None
  pub most : clip_of (pos 255) ≡ None
  pub below : clip_of (negsuc 0) ≡ Low
  pub above : clip_of (pos 256) ≡ High

pub exactly : Exactly
unfolding clip_of
exactly = record { least = refl; most = refl; below = refl; above = refl }

-- ---- the totals of a macroblock
-- either is three blocks, each with a vector for each of its samples
abbrev three_clips : FilterSet → Reference → ℕ → ℕ → (ℕ → ℕ → Mv) → (ℕ → ℕ → Mv) → Clips
three_clips set ref col row luma chroma =
    both_clips (clips_by 16 set (image (plane_y ref)) (col * 16) (row * 16) luma)
    (both_clips (clips_by 8 set (image (plane_u ref)) (col * 8) (row * 8) chroma) (clips_by 8 set (image (plane_v ref)) (col * 8) (row * 8) chroma))

whole_three : (set : FilterSet) (low : Lowering) (ref : Reference) (col row : ℕ) (v : Mv)
    → whole_clips set low ref col row v ≡ three_clips set ref col row (λ r c. luma_vector low v) (λ r c. chroma_vector low v)
unfolding whole_clips block_clips
whole_three set low ref col row v = refl

split_three : (set : FilterSet) (low : Lowering) (ref : Reference) (col row : ℕ) (vs : List Mv)
    → split_clips set low ref col row vs ≡ three_clips set ref col row (λ r c. luma_vector low (sent vs (subblock r c))) (λ r c. quarter_vector low vs (quarter r c))
unfolding split_clips
split_three set low ref col row vs = refl

none_in_three : {a b c : Clips} → a ≡ no_clips → b ≡ no_clips → c ≡ no_clips → both_clips a (both_clips b c) ≡ no_clips
none_in_three p q r = λ i. both_clips (p i) (both_clips (q i) (r i))

-- ---- THEOREM. No more than 384.
abbrev pub Most : Clips → Type 0
Most k = k.low + k.high ≤ 384

three_le : (set : FilterSet) (ref : Reference) (col row : ℕ) (f g : ℕ → ℕ → Mv) → Most (three_clips set ref col row f g)
three_le set ref col row f g =
    omega (
      arith,
      block_clips_le 16 set (image (plane_y ref)) (col * 16) (row * 16) f,
      block_clips_le 8 set (image (plane_u ref)) (col * 8) (row * 8) g,
      block_clips_le 8 set (image (plane_v ref)) (col * 8) (row * 8) g,
    )

pub whole_le : (set : FilterSet) (low : Lowering) (ref : Reference) (col row : ℕ) (v : Mv) → Most (whole_clips set low ref col row v)
whole_le set low ref col row v = rw whole_three (three_le set ref col row _ _)

pub split_le : (set : FilterSet) (low : Lowering) (ref : Reference) (col row : ℕ) (vs : List Mv) → Most (split_clips set low ref col row vs)
split_le set low ref col row vs = rw split_three (three_le set ref col row _ _)

-- ---- THEOREM. None under bilinear.
module _ (low : Lowering) (ref : Reference) (col row : ℕ) (B : AllBytes ref) where
  three_bilinear : (f g : ℕ → ℕ → Mv) → three_clips Bilinear ref col row f g ≡ no_clips
  three_bilinear f g =
      none_in_three
      (block_clips_bilinear 16 _ (col * 16) (row * 16) f (image_bytes (plane_y ref) B.y))
      (block_clips_bilinear 8 _ (col * 8) (row * 8) g (image_bytes (plane_u ref) B.u))
      (block_clips_bilinear 8 _ (col * 8) (row * 8) g (image_bytes (plane_v ref) B.v))

  pub whole_bilinear : (v : Mv) → whole_clips Bilinear low ref col row v ≡ no_clips
  whole_bilinear v = whole_three Bilinear low ref col row v ∙ three_bilinear _ _

  pub split_bilinear : (vs : List Mv) → split_clips Bilinear low ref col row vs ≡ no_clips
  split_bilinear vs = split_three Bilinear low ref col row vs ∙ three_bilinear _ _

-- ---- THEOREM. None at whole pixels: where no vector has a fraction, and so with the flag on, that lowers luma and chroma.
lowered-fraction : (z : ℤ) → fraction (lowered true z) ≡ 0
lowered-fraction z = let m = floor_div z 8 *ℤ pos 8 in omega (int, fraction-is m, part m, times (floor_div z 8) 8, one_side (floor_div z 8))

lowered-whole : (v : Mv) → is_whole (each (lowered true) v) ≡ true
lowered-whole v = ap₂ ◌&&◌ (eq-eqb _ _ (lowered-fraction v.row)) (eq-eqb _ _ (lowered-fraction v.col))

module _ (set : FilterSet) (ref : Reference) (col row : ℕ) where
  three_whole : (f g : ℕ → ℕ → Mv) → ((r c : ℕ) → is_whole (f r c) ≡ true) → ((r c : ℕ) → is_whole (g r c) ≡ true) → three_clips set ref col row f g ≡ no_clips
  three_whole f g h k =
      none_in_three
      (block_clips_whole 16 set _ (col * 16) (row * 16) f (λ r c hr hc. h r c))
      (block_clips_whole 8 set _ (col * 8) (row * 8) g (λ r c hr hc. k r c))
      (block_clips_whole 8 set _ (col * 8) (row * 8) g (λ r c hr hc. k r c))

  pub whole_pixels : (low : Lowering) (v : Mv) → is_whole (luma_vector low v) ≡ true → is_whole (chroma_vector low v) ≡ true → whole_clips set low ref col row v ≡ no_clips
  whole_pixels low v h k = whole_three set low ref col row v ∙ three_whole _ _ (λ r c. h) (λ r c. k)

  pub whole_full_pixel : (v : Mv) → whole_clips set (lowering_of true) ref col row v ≡ no_clips
  whole_full_pixel v = whole_pixels (lowering_of true) v (lowered-whole (each stored v)) (lowered-whole (each whole_chroma (each stored v)))

  pub split_full_pixel : (vs : List Mv) → split_clips set (lowering_of true) ref col row vs ≡ no_clips
  split_full_pixel vs = split_three set (lowering_of true) ref col row vs ∙ three_whole _ _ (λ r c. lowered-whole (each stored (sent vs (subblock r c)))) (λ r c. lowered-whole (quarter_average vs (quarter r c)))

-- ---- by the sixteen vectors alone
three_ext : (set : FilterSet) (ref : Reference) (col row : ℕ) (f f' g g' : ℕ → ℕ → Mv) → ((r c : ℕ) → r < 16 → c < 16 → f r c ≡ f' r c)
    → ((r c : ℕ) → r < 8 → c < 8 → g r c ≡ g' r c) → three_clips set ref col row f g ≡ three_clips set ref col row f' g'
three_ext set ref col row f f' g g' h k =
    let y = block_clips_ext 16 set (image (plane_y ref)) (col * 16) (row * 16) f f' h in
    let u = block_clips_ext 8 set (image (plane_u ref)) (col * 8) (row * 8) g g' k in
    let v = block_clips_ext 8 set (image (plane_v ref)) (col * 8) (row * 8) g g' k in
    λ i. both_clips (y i) (both_clips (u i) (v i))

pub split_alike : (set : FilterSet) (low : Lowering) (ref : Reference) (col row : ℕ) (vs vs' : List Mv) → ((b : ℕ) → b < 16 → sent vs b ≡ sent vs' b)
    → split_clips set low ref col row vs ≡ split_clips set low ref col row vs'
split_alike set low ref col row vs vs' e =
    split_three set low ref col row vs
    ∙ three_ext set ref col row _ _ _ _ (λ r c hr hc. ap (luma_vector low) (e (subblock r c) (omega arith))) (λ r c hr hc. quarter_alike low vs vs' e (quarter r c) (omega arith))
    ∙ sym (split_three set low ref col row vs')

-- ---- THEOREM (demand 3, inside). As many are clipped, low and high, on every picture and at every position.
pub merge_inside : (set : FilterSet) (low : Lowering) (ref : Reference) (col row : ℕ) (v : Mv) → mergeable v ≡ true
    → whole_clips set low ref col row v ≡ split_clips set low ref col row (sixteen v)
merge_inside set low ref col row v e =
    whole_three set low ref col row v
    ∙ three_ext set ref col row _ _ _ _
    (λ r c hr hc. ap (luma_vector low) (sym (sent_equal v (subblock r c) (omega arith))))
    (λ r c hr hc. chroma_equal low v (quarter r c) (mergeable-true v e) (omega arith))
    ∙ sym (split_three set low ref col row (sixteen v))

pub merge_alike : (set : FilterSet) (low : Lowering) (ref : Reference) (col row : ℕ) (vs : List Mv) (v : Mv) → ((b : ℕ) → b < 16 → sent vs b ≡ v) → mergeable v ≡ true
    → whole_clips set low ref col row v ≡ split_clips set low ref col row vs
merge_alike set low ref col row vs v alike e =
    merge_inside set low ref col row v e ∙ split_alike set low ref col row (sixteen v) vs (λ b h. sent_equal v b h ∙ sym (alike b h))
