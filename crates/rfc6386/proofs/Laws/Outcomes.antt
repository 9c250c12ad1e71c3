-- The laws of a sample, carried to what each call answers: bytes outside the picture alter nothing, one value gives that value, bilinear lies
-- between. Each is one law over the block, and a line for each call. Merging and the calls by version answer what split and whole answer under
-- some table and rule of full-pixel, and these laws are over all of them. Assumes nothing.
use Rattle.std.specs.Prelude.{◌≡◌, cond, List, ltb, length, get_or, replicate, ℤ, pos, ◌+ℤ◌}
use Rattle.std.proofs.Math.Path.{refl, sym, ap, subst}
use Rattle.std.proofs.Common.{ap₂, ◌∙◌, arith, ltb-false}
use Prim.Native.Nat.{ℕ, zero, suc, ◌+◌, ◌*◌, ◌/◌, ◌<◌, ◌≤◌}
use Rattle.rfc6386.specs.Number.{clamped}
use Rattle.rfc6386.specs.Vector.{whole_part}
use Rattle.rfc6386.specs.declared.Lowering.{Lowering}
use Rattle.rfc6386.specs.Raster.{raster, written}
use Rattle.rfc6386.specs.Picture.{Plane, Image, image, predicted, block_by, block, square, pixels, halo, halo_block}
use Rattle.rfc6386.specs.Clips.{no_clips, block_clips, halo_clips}
use Rattle.rfc6386.specs.Refusal.{or_else, if_done, plane_refusal, fraction_refusal, no_room}
use Rattle.rfc6386.specs.Block.{shown, counted, fractions_refusal, filtered4, filtered8, filtered16, pixels4, pixels8, pixels16, halo9, halo13, halo21, block4, into_number, into_bytes, Into}
use Rattle.rfc6386.specs.Macroblock.{Reference, refusal, whole_samples, split_samples, pixel_samples, answered, fraction_left, whole, split, whole_pixel}
use Rattle.rfc6386.specs.Answer.{no_samples, BlockAnswer}
use Rattle.rfc6386.specs.Channel.{Channel, side, plane_in, samples_in, whole_vector, tile_vector}
use Rattle.rfc6386.specs.Channel.Channel.{luma, chroma_u, chroma_v}
use Rattle.rfc6386.proofs.Laws.Raster.{raster-plain, written_ext}
use Rattle.rfc6386.proofs.Laws.Vectors.{clamped-is}
use Rattle.rfc6386.proofs.Laws.Steps.{Between}
use Rattle.rfc6386.proofs.Laws.Samples.{Bytes, predicted_flat, least4, most4, bilinear_bound, Agree, image_agree}
use Rattle.rfc6386.proofs.Laws.Refusals.{if-zero, or_else-zero, or_else_next, done, plane_accepts, accepts}
use Rattle.rfc6386.proofs.Laws.Blocks.{AllBytes, image_bytes, block_flat, square_flat, block_at, pixel_at}
use Rattle.rfc6386.proofs.Laws.Channels.{by_channels, some_places, channel_bytes, whole_channel, split_channel, pixel_channel}
use Rattle.rfc6386.proofs.Laws.Fetched.{as_pixels4, as_pixels8, as_pixels16, as_halo9, as_halo13, as_halo21, pixels4_is, pixels8_is, pixels16_is, halo9_is, halo13_is, halo21_is}
use Rattle.rfc6386.proofs.Laws.Halos.{halo_flat, halo_between, list_image}
use Rattle.rfc6386.proofs.Laws.Clipping.{block_clips_flat, halo_clips_flat}
use Rattle.rfc6386.specs.declared.Mv.{Mv}
use Rattle.rfc6386.specs.declared.FilterSet.{FilterSet}
use Rattle.rfc6386.specs.declared.FilterSet.TheVariants.{Bilinear}
use Rattle.rfc6386.specs.declared.Clips.{Clips}
use Rattle.rfc6386.specs.declared.ReconstructedMb.{ReconstructedMb}

-- ---- answers, by their numbers
-- two are one where their numbers are, and where their samples are whenever those are 0
if-done : {A : Type 0} (n m : ℕ) (a b c : A) → n ≡ m → (n ≡ 0 → a ≡ b) → if_done n a c ≡ if_done m b c
unfolding if_done
if-done zero zero a b c e h = h refl
if-done zero (suc m) a b c e h = absurd (omega arith)
if-done (suc n) zero a b c e h = absurd (omega arith)
if-done (suc n) (suc m) a b c e h = refl

shown-same : {A : Type 0} (answer : ℕ → List ℕ → A) (count : ℕ) {n m : ℕ} {s t : List ℕ} → n ≡ m → (n ≡ 0 → s ≡ t)
    → answer n (shown count n s) ≡ answer m (shown count m t)
shown-same answer count e h = ap₂ answer e (if-done _ _ _ _ _ e h)

pub answered-same : (n m : ℕ) (s t : ReconstructedMb) → n ≡ m → (n ≡ 0 → s ≡ t) → answered n s ≡ answered m t
unfolding answered
answered-same n m s t e h = let z = if-done n m s t no_samples e h in λ i. record { number = e i; samples = z i }

-- a call with nothing to count, answered or refused
none-clipped : (n : ℕ) (k : Clips) → (n ≡ 0 → k ≡ no_clips) → counted n k ≡ no_clips
unfolding if_done
none-clipped zero k h = h refl
none-clipped (suc n) k h = refl

-- squares of which none is clipped, and halos
abbrev as_block4 : ℕ → List ℕ → BlockAnswer
as_block4 n l = record { number = n; clips = no_clips; samples = l }

abbrev as_block8 : ℕ → List ℕ → BlockAnswer
as_block8 n l = record { number = n; clips = no_clips; samples = l }

abbrev as_block16 : ℕ → List ℕ → BlockAnswer
as_block16 n l = record { number = n; clips = no_clips; samples = l }

-- ---- bytes outside the picture alter nothing
-- two planes that no call at column x, row y tells apart: one number, and one picture wherever that is 0
pub record SamePlane (p q : Plane) (x y : ℕ) : Type 0 where
  pub number : plane_refusal p x y ≡ plane_refusal q x y
  pub picture : plane_refusal p x y ≡ 0 → image p ≡ image q

-- THEOREM. So are two planes of one size, stride and length with the same samples inside the picture, accepted or refused;
pub record Alike (p q : Plane) : Type 0 where
  pub agree : Agree p q
  pub stride : p.stride ≡ q.stride
  pub bytes : length p.bytes ≡ length q.bytes

pictures : (p q : Plane) (x y : ℕ) → Agree p q → plane_refusal p x y ≡ 0 → image p ≡ image q
pictures p q x y A e = let P = plane_accepts p x y e in image_agree p q A P.width_least P.height_least

pub same_plane : (p q : Plane) (x y : ℕ) → Alike p q → SamePlane p q x y
unfolding plane_refusal
same_plane p q x y A = record { number = cc (A.agree.width, A.agree.height, A.stride, A.bytes); picture = pictures p q x y A.agree }

-- and two whose strides and lengths differ, where both are accepted.
pub same_accepted : (p q : Plane) (x y : ℕ) → Agree p q → plane_refusal p x y ≡ 0 → plane_refusal q x y ≡ 0 → SamePlane p q x y
same_accepted p q x y A e f = record { number = e ∙ sym f; picture = pictures p q x y A }

module _ (p q : Plane) (x y : ℕ) (S : SamePlane p q x y) where
  same : {A : Type 0} (answer : ℕ → List ℕ → A) (count : ℕ) (samples : Image → List ℕ)
      → answer (plane_refusal p x y) (shown count (plane_refusal p x y) (samples (image p))) ≡ answer (plane_refusal q x y) (shown count (plane_refusal q x y) (samples (image q)))
  same answer count samples = shown-same answer count S.number (λ e. ap samples (S.picture e))

  pub pixels4-same : (v : Mv) → pixels4 p x y v ≡ pixels4 q x y v
  pixels4-same v = pixels4_is p x y v ∙ same as_pixels4 16 (λ img. pixels 4 img x y v) ∙ sym (pixels4_is q x y v)

  pub pixels8-same : (v : Mv) → pixels8 p x y v ≡ pixels8 q x y v
  pixels8-same v = pixels8_is p x y v ∙ same as_pixels8 64 (λ img. pixels 8 img x y v) ∙ sym (pixels8_is q x y v)

  pub pixels16-same : (v : Mv) → pixels16 p x y v ≡ pixels16 q x y v
  pixels16-same v = pixels16_is p x y v ∙ same as_pixels16 256 (λ img. pixels 16 img x y v) ∙ sym (pixels16_is q x y v)

  pub halo9-same : (v : Mv) → halo9 p x y v ≡ halo9 q x y v
  halo9-same v = halo9_is p x y v ∙ same as_halo9 81 (λ img. halo 4 img x y v) ∙ sym (halo9_is q x y v)

  pub halo13-same : (v : Mv) → halo13 p x y v ≡ halo13 q x y v
  halo13-same v = halo13_is p x y v ∙ same as_halo13 169 (λ img. halo 8 img x y v) ∙ sym (halo13_is q x y v)

  pub halo21-same : (v : Mv) → halo21 p x y v ≡ halo21 q x y v
  halo21-same v = halo21_is p x y v ∙ same as_halo21 441 (λ img. halo 16 img x y v) ∙ sym (halo21_is q x y v)

  pub block4-same : (set : FilterSet) (v : Mv) → block4 set p x y v ≡ block4 set q x y v
  unfolding block4
  block4-same set v =
      let clips = if-done _ _ _ _ no_clips S.number (λ e. ap (λ (img : Image). block_clips 4 set img x y v) (S.picture e)) in
      let samples = if-done _ _ _ _ (replicate 16 0) S.number (λ e. ap (λ (img : Image). block 4 set img x y v) (S.picture e)) in
      λ i. record { number = S.number i; clips = clips i; samples = samples i }

  -- filter_block_4x4_into: the number, and the destination's final bytes, that its contract allows
  pub into-same : {set : FilterSet} {v : Mv} {dst : List ℕ} {stride dx dy r r' : ℕ} {dst' dst'' : List ℕ}
      → Into set p x y v dst stride dx dy r dst' → Into set q x y v dst stride dx dy r' dst'' → (r ≡ r') × (dst' ≡ dst'')
  unfolding into_number into_bytes
  into-same {set} {v} {dst} {stride} {dx} {dy} I J =
      let n = ap (λ (k : ℕ). or_else k (cond (no_room (length dst) stride dx dy) 7 0)) S.number in (
        I.number_is ∙ n ∙ sym J.number_is,
        I.bytes_are
            ∙ if-done _ _ _ _ _ n
            (λ e. ap (λ (img : Image). written dst stride dx dy 4 4 (λ r c. predicted set img (pos (x + c)) (pos (y + r)) v)) (S.picture (or_else-zero _ _ e)))
            ∙ sym J.bytes_are,
      )

-- two references that no call on the macroblock at column col, row row tells apart
pub record SameReference (ref ref' : Reference) (col row : ℕ) : Type 0 where
  pub number : refusal ref col row ≡ refusal ref' col row
  pub picture : refusal ref col row ≡ 0 → (k : Channel) → image (plane_in k ref) ≡ image (plane_in k ref')

pictures_in : (ref ref' : Reference) (col row : ℕ) → ((k : Channel) → Agree (plane_in k ref) (plane_in k ref')) → refusal ref col row ≡ 0
    → (k : Channel) → image (plane_in k ref) ≡ image (plane_in k ref')
pictures_in ref ref' col row A e k =
    let P = accepts ref col row e in
    image_agree (plane_in k ref) (plane_in k ref') (A k) (some_places k ref.cols P.cols_least) (some_places k ref.rows P.rows_least)

-- THEOREM. So are two references whose planes are alike, accepted or refused;
pub same_reference : (ref ref' : Reference) (col row : ℕ) → ((k : Channel) → Alike (plane_in k ref) (plane_in k ref')) → SameReference ref ref' col row
unfolding refusal
same_reference ref ref' col row A =
    let cols : ref.cols ≡ ref'.cols = omega (arith, (A luma).agree.width) in
    let rows : ref.rows ≡ ref'.rows = omega (arith, (A luma).agree.height) in
    record {
      number = cc (
        cols,
        rows,
        (A luma).stride,
        (A chroma_u).stride,
        (A chroma_v).stride,
        (A luma).bytes,
        (A chroma_u).bytes,
        (A chroma_v).bytes,
      );
      picture = pictures_in ref ref' col row (λ k. (A k).agree);
    }

-- and two whose strides and lengths differ, where both are accepted.
pub same_both_accepted : (ref ref' : Reference) (col row : ℕ) → ((k : Channel) → Agree (plane_in k ref) (plane_in k ref'))
    → refusal ref col row ≡ 0 → refusal ref' col row ≡ 0 → SameReference ref ref' col row
same_both_accepted ref ref' col row A e f = record { number = e ∙ sym f; picture = pictures_in ref ref' col row A }

module _ (ref ref' : Reference) (col row : ℕ) (S : SameReference ref ref' col row) (low : Lowering) where
  pub whole_same : (set : FilterSet) (v : Mv) → whole set low ref col row v ≡ whole set low ref' col row v
  unfolding whole whole_samples
  whole_same set v = answered-same _ _ _ _ S.number (λ z. cc (S.picture z luma, S.picture z chroma_u, S.picture z chroma_v))

  pub split-same : (set : FilterSet) (vs : List Mv) → split set low ref col row vs ≡ split set low ref' col row vs
  unfolding split split_samples
  split-same set vs = answered-same _ _ _ _ S.number (λ z. cc (S.picture z luma, S.picture z chroma_u, S.picture z chroma_v))

  pub whole_pixel-same : (v : Mv) → whole_pixel low ref col row v ≡ whole_pixel low ref' col row v
  unfolding whole_pixel pixel_samples
  whole_pixel-same v =
      answered-same _ _ _ _ (ap (λ (n : ℕ). or_else n (fraction_left low v)) S.number)
      (λ e. let z = or_else-zero (refusal ref col row) (fraction_left low v) e in cc (S.picture z luma, S.picture z chroma_u, S.picture z chroma_v))

-- ---- a plane of one value
-- a plane whose samples are all s, a byte, whatever stands past its width and its end
pub record Flat (p : Plane) (s : ℕ) : Type 0 where
  pub byte : s ≤ 255
  pub samples : (x y : ℕ) → x < p.width → y < p.height → get_or p.bytes (y * p.stride + x) 0 ≡ s

flat-image : (p : Plane) (s : ℕ) → Flat p s → 1 ≤ p.width → 1 ≤ p.height → (a b : ℤ) → image p a b ≡ s
unfolding image
flat-image p s F wide high a b =
    F.samples (clamped a p.width) (clamped b p.height) (omega (arith, clamped-is a p.width)) (omega (arith, clamped-is b p.height))

module _ (p : Plane) (x y s : ℕ) (F : Flat p s) where
  one_value : plane_refusal p x y ≡ 0 → (a b : ℤ) → image p a b ≡ s
  one_value e = let P = plane_accepts p x y e in flat-image p s F P.width_least P.height_least

  -- samples that are s wherever the picture is
  flat : {A : Type 0} (answer : ℕ → List ℕ → A) (count : ℕ) (samples : List ℕ) → (((a b : ℤ) → image p a b ≡ s) → samples ≡ replicate count s)
      → answer (plane_refusal p x y) (shown count (plane_refusal p x y) samples) ≡ answer (plane_refusal p x y) (shown count (plane_refusal p x y) (replicate count s))
  flat answer count samples h = shown-same answer count refl (λ e. h (one_value e))

  squared : (n : ℕ) (X Y : ℤ) → ((a b : ℤ) → image p a b ≡ s) → square n (image p) X Y ≡ replicate (n * n) s
  squared n X Y h = square_flat n (image p) X Y s h ∙ raster-plain n n s

  -- THEOREM. A call on a plane of one value answers that value, none of it clipped, or refuses.
  pub pixels4-flat : (v : Mv) → pixels4 p x y v ≡ as_pixels4 (plane_refusal p x y) (shown 16 (plane_refusal p x y) (replicate 16 s))
  pixels4-flat v = pixels4_is p x y v ∙ flat as_pixels4 16 _ (squared 4 _ _)

  pub pixels8-flat : (v : Mv) → pixels8 p x y v ≡ as_pixels8 (plane_refusal p x y) (shown 64 (plane_refusal p x y) (replicate 64 s))
  pixels8-flat v = pixels8_is p x y v ∙ flat as_pixels8 64 _ (squared 8 _ _)

  pub pixels16-flat : (v : Mv) → pixels16 p x y v ≡ as_pixels16 (plane_refusal p x y) (shown 256 (plane_refusal p x y) (replicate 256 s))
  pixels16-flat v = pixels16_is p x y v ∙ flat as_pixels16 256 _ (squared 16 _ _)

  pub halo9-flat : (v : Mv) → halo9 p x y v ≡ as_halo9 (plane_refusal p x y) (shown 81 (plane_refusal p x y) (replicate 81 s))
  halo9-flat v = halo9_is p x y v ∙ flat as_halo9 81 _ (squared 9 _ _)

  pub halo13-flat : (v : Mv) → halo13 p x y v ≡ as_halo13 (plane_refusal p x y) (shown 169 (plane_refusal p x y) (replicate 169 s))
  halo13-flat v = halo13_is p x y v ∙ flat as_halo13 169 _ (squared 13 _ _)

  pub halo21-flat : (v : Mv) → halo21 p x y v ≡ as_halo21 (plane_refusal p x y) (shown 441 (plane_refusal p x y) (replicate 441 s))
  halo21-flat v = halo21_is p x y v ∙ flat as_halo21 441 _ (squared 21 _ _)

  pub block4-flat : (set : FilterSet) (v : Mv) → block4 set p x y v ≡ as_block4 (plane_refusal p x y) (shown 16 (plane_refusal p x y) (replicate 16 s))
  unfolding block4 block block_clips
  block4-flat set v =
      flat (λ n l. record { number = n; clips = clipped n; samples = l }) 16 _ (λ h. block_flat 4 set (image p) x y s (λ r c. v) F.byte h ∙ raster-plain 4 4 s)
      ∙ ap (λ (k : Clips). record { number = plane_refusal p x y; clips = k; samples = shown 16 (plane_refusal p x y) (replicate 16 s) })
      (none-clipped (plane_refusal p x y) _ (λ e. block_clips_flat 4 set (image p) x y s (λ r c. v) F.byte (one_value e)))
    where
      clipped : ℕ → Clips
      clipped n = counted n (block_clips 4 set (image p) x y v)

  -- filter_block_4x4_into leaves that value in its sixteen bytes, or refuses and keeps every byte
  pub into-flat : {set : FilterSet} {v : Mv} {dst : List ℕ} {stride dx dy r : ℕ} {dst' : List ℕ}
      → Into set p x y v dst stride dx dy r dst' → dst' ≡ if_done r (written dst stride dx dy 4 4 (λ r c. s)) dst
  unfolding into_bytes into_number
  into-flat {set} {v} {dst} {stride} {dx} {dy} I =
      I.bytes_are
      ∙ if-done _ _ _ _ _ (sym I.number_is)
      (λ e. written_ext dst stride dx dy 4 4 _ _
      (λ r c hr hc. predicted_flat set (image p) (pos (x + c)) (pos (y + r)) v s F.byte (one_value (or_else-zero _ _ e))))

-- a macroblock of one value for each channel
abbrev pub plain : (Channel → ℕ) → ReconstructedMb
plain s = record { y = replicate 256 (s luma); u = replicate 64 (s chroma_u); v = replicate 64 (s chroma_v) }

plain_in : (k : Channel) (s : Channel → ℕ) → raster (side k) (side k) (λ r c. s k) ≡ samples_in k (plain s)
plain_in luma s = raster-plain 16 16 (s luma)
plain_in chroma_u s = raster-plain 8 8 (s chroma_u)
plain_in chroma_v s = raster-plain 8 8 (s chroma_v)

-- THEOREM. Where each plane has one value, a prediction answers those values, or refuses, under both tables, by any vectors.
module _ (ref : Reference) (col row : ℕ) (s : Channel → ℕ) (F : (k : Channel) → Flat (plane_in k ref) (s k)) (low : Lowering) where
  one_value_in : refusal ref col row ≡ 0 → (k : Channel) (a b : ℤ) → image (plane_in k ref) a b ≡ s k
  one_value_in e k =
      let P = accepts ref col row e in
      flat-image (plane_in k ref) (s k) (F k) (some_places k ref.cols P.cols_least) (some_places k ref.rows P.rows_least)

  vectors-flat : refusal ref col row ≡ 0 → (k : Channel) (set : FilterSet) (f : ℕ → ℕ → Mv)
      → block_by (side k) set (image (plane_in k ref)) (col * side k) (row * side k) f ≡ samples_in k (plain s)
  vectors-flat e k set f = block_flat (side k) set (image (plane_in k ref)) (col * side k) (row * side k) (s k) f (F k).byte (one_value_in e k) ∙ plain_in k s

  pub whole-flat : (set : FilterSet) (v : Mv) → whole set low ref col row v ≡ answered (refusal ref col row) (plain s)
  unfolding whole block
  whole-flat set v =
      answered-same _ _ _ _ refl
      (λ e. by_channels _ _ (λ k. whole_channel low ref col row k set v ∙ vectors-flat e k set (λ r c. whole_vector k low v)))

  pub split-flat : (set : FilterSet) (vs : List Mv) → split set low ref col row vs ≡ answered (refusal ref col row) (plain s)
  unfolding split
  split-flat set vs =
      answered-same _ _ _ _ refl
      (λ e. by_channels _ _ (λ k. split_channel low ref col row k set vs ∙ vectors-flat e k set (λ r c. tile_vector k low vs (r / 4) (c / 4))))

  pub whole_pixel-flat : (v : Mv) → whole_pixel low ref col row v ≡ answered (or_else (refusal ref col row) (fraction_left low v)) (plain s)
  unfolding whole_pixel
  whole_pixel-flat v =
      answered-same _ _ _ _ refl
      (λ e. by_channels _ _
      (λ k.
      pixel_channel low ref col row k v
      ∙ square_flat (side k) (image (plane_in k ref)) _ _ (s k) (one_value_in (or_else-zero (refusal ref col row) (fraction_left low v) e) k)
      ∙ plain_in k s))

-- ---- the filters, over a halo of one value
fractions-zero : (mx my : ℕ) → fractions_refusal mx my ≡ 0 → (mx < 8) × (my < 8)
fractions-zero mx my e =
    let z = or_else-zero (fraction_refusal mx) (fraction_refusal my) e in
    let h = ltb-false 7 mx (if-zero (ltb 7 mx) 4 0 z).0 in
    let k = ltb-false 7 my (if-zero (ltb 7 my) 4 0 (sym (or_else_next (fraction_refusal mx) (fraction_refusal my) z) ∙ e)).0 in
    (omega arith, omega arith)

module _ (set : FilterSet) (l : List ℕ) (mx my s : ℕ) (byte : s ≤ 255) where
  filters : {A : Type 0} (answer : ℕ → Clips → List ℕ → A) (n : ℕ) → ((i : ℕ) → i < (n + 5) * (n + 5) → get_or l i 0 ≡ s)
      → answer (fractions_refusal mx my) (counted (fractions_refusal mx my) (halo_clips n set l mx my)) (shown (n * n) (fractions_refusal mx my) (halo_block n set l mx my))
      ≡ answer (fractions_refusal mx my) no_clips (shown (n * n) (fractions_refusal mx my) (replicate (n * n) s))
  filters answer n h =
      ap₂ (answer (fractions_refusal mx my))
      (none-clipped (fractions_refusal mx my) _ (λ e. let f = fractions-zero mx my e in halo_clips_flat n set l mx my s f.0 f.1 byte h))
      (if-done _ _ _ _ _ refl (λ e. let f = fractions-zero mx my e in halo_flat n set l mx my s f.0 f.1 byte h ∙ raster-plain n n s))

  -- THEOREM. A filter over a halo of one value answers that value, none of it clipped, or refuses.
  pub filtered4-flat : ((i : ℕ) → i < 81 → get_or l i 0 ≡ s) → filtered4 set l mx my ≡ as_block4 (fractions_refusal mx my) (shown 16 (fractions_refusal mx my) (replicate 16 s))
  unfolding filtered4
  filtered4-flat = filters (λ n k l. record { number = n; clips = k; samples = l }) 4

  pub filtered8-flat : ((i : ℕ) → i < 169 → get_or l i 0 ≡ s) → filtered8 set l mx my ≡ as_block8 (fractions_refusal mx my) (shown 64 (fractions_refusal mx my) (replicate 64 s))
  unfolding filtered8
  filtered8-flat = filters (λ n k l. record { number = n; clips = k; samples = l }) 8

  pub filtered16-flat : ((i : ℕ) → i < 441 → get_or l i 0 ≡ s) → filtered16 set l mx my ≡ as_block16 (fractions_refusal mx my) (shown 256 (fractions_refusal mx my) (replicate 256 s))
  unfolding filtered16
  filtered16-flat = filters (λ n k l. record { number = n; clips = k; samples = l }) 16

-- ---- bilinear lies between
-- each of the n by n samples in l stays within four samples of a picture, those at its place and one on, on both axes; the sample at row r,
-- column c has its place at column X r c, row Y r c
pub record Lies (n : ℕ) (img : Image) (X Y : ℕ → ℕ → ℤ) (l : List ℕ) : Type 0 where
  pub each : (r c : ℕ) → r < n → c < n → Between (least4 img (X r c) (Y r c)) (most4 img (X r c) (Y r c)) (get_or l (r * n + c) 0)

-- the place of the samples of a block at column x, row y: at the whole parts of their vectors
abbrev pub column_of : ℕ → (ℕ → ℕ → Mv) → ℕ → ℕ → ℤ
column_of x f r c = pos (x + c) +ℤ whole_part (f r c).col

abbrev pub row_of : ℕ → (ℕ → ℕ → Mv) → ℕ → ℕ → ℤ
row_of y f r c = pos (y + r) +ℤ whole_part (f r c).row

-- THEOREM. So do the samples of a block with any vectors, and at whole pixels,
pub block_lies : (n : ℕ) (img : Image) (x y : ℕ) (f : ℕ → ℕ → Mv) → Bytes img → Lies n img (column_of x f) (row_of y f) (block_by n Bilinear img x y f)
block_lies n img x y f B =
    record {
      each = λ r c hr hc.
          subst (Between (least4 img (column_of x f r c) (row_of y f r c)) (most4 img (column_of x f r c) (row_of y f r c)))
          (sym (block_at n Bilinear img x y f r c hr hc)) (bilinear_bound img (pos (x + c)) (pos (y + r)) (f r c) B);
    }

pub pixels-lie : (n : ℕ) (img : Image) (x y : ℕ) (v : Mv) → Lies n img (column_of x (λ r c. v)) (row_of y (λ r c. v)) (pixels n img x y v)
pixels-lie n img x y v =
    record {
      each = λ r c hr hc.
          subst (Between (least4 img (column_of x (λ r c. v) r c) (row_of y (λ r c. v) r c)) (most4 img (column_of x (λ r c. v) r c) (row_of y (λ r c. v) r c)))
          (sym (pixel_at n img x y v r c hr hc)) (omega arith);
    }

-- of filter_block_4x4,
pub block4_lies : (p : Plane) (x y : ℕ) (v : Mv) → plane_refusal p x y ≡ 0 → ((i : ℕ) → get_or p.bytes i 0 ≤ 255)
    → Lies 4 (image p) (column_of x (λ r c. v)) (row_of y (λ r c. v)) (block4 Bilinear p x y v).samples
unfolding block4 block
block4_lies p x y v e h = subst (Lies 4 (image p) (column_of x (λ r c. v)) (row_of y (λ r c. v))) (sym (done _ _ e)) (block_lies 4 (image p) x y (λ r c. v) (image_bytes p h))

-- of a macroblock, in each channel,
module _ (ref : Reference) (col row : ℕ) (low : Lowering) where
  -- by the vectors f
  abbrev LiesIn : (k : Channel) → (ℕ → ℕ → Mv) → List ℕ → Type 0
  LiesIn k f l = Lies (side k) (image (plane_in k ref)) (column_of (col * side k) f) (row_of (row * side k) f) l

  -- the samples that an accepted answer shows
  lie : (k : Channel) (f : ℕ → ℕ → Mv) (n : ℕ) (s : ReconstructedMb) (l : List ℕ) → n ≡ 0 → samples_in k s ≡ l → LiesIn k f l → LiesIn k f (samples_in k (answered n s).samples)
  unfolding answered
  lie k f n s l e h = subst (LiesIn k f) (sym (ap (samples_in k) (done s no_samples e) ∙ h))

  pub whole_lies : AllBytes ref → refusal ref col row ≡ 0 → (v : Mv) (k : Channel)
      → Lies (side k) (image (plane_in k ref)) (column_of (col * side k) (λ r c. whole_vector k low v)) (row_of (row * side k) (λ r c. whole_vector k low v))
      (samples_in k (whole Bilinear low ref col row v).samples)
  unfolding whole block
  whole_lies B e v k =
      lie k (λ r c. whole_vector k low v) _ _ _ e (whole_channel low ref col row k Bilinear v)
      (block_lies (side k) (image (plane_in k ref)) (col * side k) (row * side k) (λ r c. whole_vector k low v) (image_bytes (plane_in k ref) (channel_bytes k ref B)))

  pub split_lies : AllBytes ref → refusal ref col row ≡ 0 → (vs : List Mv) (k : Channel)
      → Lies (side k) (image (plane_in k ref)) (column_of (col * side k) (λ r c. tile_vector k low vs (r / 4) (c / 4)))
      (row_of (row * side k) (λ r c. tile_vector k low vs (r / 4) (c / 4))) (samples_in k (split Bilinear low ref col row vs).samples)
  unfolding split
  split_lies B e vs k =
      lie k (λ r c. tile_vector k low vs (r / 4) (c / 4)) _ _ _ e (split_channel low ref col row k Bilinear vs)
      (block_lies (side k) (image (plane_in k ref)) (col * side k) (row * side k) (λ r c. tile_vector k low vs (r / 4) (c / 4))
      (image_bytes (plane_in k ref) (channel_bytes k ref B)))

  pub whole_pixel_lies : (v : Mv) (k : Channel) → (whole_pixel low ref col row v).number ≡ 0
      → Lies (side k) (image (plane_in k ref)) (column_of (col * side k) (λ r c. whole_vector k low v)) (row_of (row * side k) (λ r c. whole_vector k low v))
      (samples_in k (whole_pixel low ref col row v).samples)
  unfolding whole_pixel answered
  whole_pixel_lies v k e =
      lie k (λ r c. whole_vector k low v) _ _ _ e (pixel_channel low ref col row k v)
      (pixels-lie (side k) (image (plane_in k ref)) (col * side k) (row * side k) (whole_vector k low v))

-- and of the filters over any halo of bytes: the sample at row r, column c stands at row r + 2, column c + 2 of the halo.
abbrev pub in_halo : ℕ → ℤ
in_halo i = pos (i + 2)

module _ (l : List ℕ) (mx my : ℕ) (e : fractions_refusal mx my ≡ 0) (h : (i : ℕ) → get_or l i 0 ≤ 255) where
  filter_lies : (n : ℕ) → Lies n (list_image l (n + 5)) (λ r c. in_halo c) (λ r c. in_halo r) (shown (n * n) (fractions_refusal mx my) (halo_block n Bilinear l mx my))
  filter_lies n =
      let f = fractions-zero mx my e in
      subst (Lies n (list_image l (n + 5)) (λ r c. in_halo c) (λ r c. in_halo r)) (sym (done _ _ e))
      (record { each = λ r c hr hc. halo_between n l mx my f.0 f.1 h r c hr hc })

  pub filtered4_lies : Lies 4 (list_image l 9) (λ r c. in_halo c) (λ r c. in_halo r) (filtered4 Bilinear l mx my).samples
  unfolding filtered4
  filtered4_lies = filter_lies 4

  pub filtered8_lies : Lies 8 (list_image l 13) (λ r c. in_halo c) (λ r c. in_halo r) (filtered8 Bilinear l mx my).samples
  unfolding filtered8
  filtered8_lies = filter_lies 8

  pub filtered16_lies : Lies 16 (list_image l 21) (λ r c. in_halo c) (λ r c. in_halo r) (filtered16 Bilinear l mx my).samples
  unfolding filtered16
  filtered16_lies = filter_lies 16
