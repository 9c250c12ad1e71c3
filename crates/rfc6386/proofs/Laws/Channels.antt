-- A macroblock's samples and planes, channel by channel. Assumes nothing.
use Rattle.std.specs.Prelude.{◌≡◌, ℕ, ◌+◌, ◌*◌, ◌/◌, ◌<◌, ◌≤◌, pos}
use Rattle.std.proofs.Math.Path.{refl, ap}
use Rattle.std.proofs.Common.{◌∙◌, arith}
use mathlib.Core.List.{List}
use Rattle.std.proofs.Math.ListN.{get_or}
use Rattle.rfc6386.specs.declared.Lowering.{Lowering}
use Rattle.rfc6386.specs.Picture.{image, predicted, block_by, block, pixels}
use Rattle.rfc6386.specs.Macroblock.{Reference, refusal, whole_samples, split_samples, pixel_samples, answered, whole, split}
use Rattle.rfc6386.specs.Answer.{no_samples}
use Rattle.rfc6386.specs.Channel.{Channel, side, plane_in, samples_in, whole_vector, tile_vector}
use Rattle.rfc6386.specs.Channel.Channel.{luma, chroma_u, chroma_v}
use Rattle.rfc6386.proofs.Laws.Refusals.{done}
use Rattle.rfc6386.proofs.Laws.Blocks.{AllBytes, block_at}
use Rattle.rfc6386.specs.declared.Mv.{Mv}
use Rattle.rfc6386.specs.declared.FilterSet.{FilterSet}
use Rattle.rfc6386.specs.declared.ReconstructedMb.{ReconstructedMb}

-- samples that agree in each channel are the same
pub by_channels : (s t : ReconstructedMb) → ((k : Channel) → samples_in k s ≡ samples_in k t) → s ≡ t
by_channels s t h = λ i. record { y = h luma i; u = h chroma_u i; v = h chroma_v i }

-- a plane of a picture with n macroblocks on an axis has places on it
pub some_places : (k : Channel) (n : ℕ) → 1 ≤ n → 1 ≤ n * side k
some_places luma n h = omega arith
some_places chroma_u n h = omega arith
some_places chroma_v n h = omega arith

pub channel_bytes : (k : Channel) (ref : Reference) → AllBytes ref → (i : ℕ) → get_or (plane_in k ref).bytes i 0 ≤ 255
channel_bytes luma ref B = B.y
channel_bytes chroma_u ref B = B.u
channel_bytes chroma_v ref B = B.v

-- THEOREM. In each channel a whole prediction is the block under its vector, a split one has a vector for each of its 4x4 blocks, and one at
-- whole pixels is those.
module _ (low : Lowering) (ref : Reference) (col row : ℕ) where
  pub whole_channel : (k : Channel) (set : FilterSet) (v : Mv)
      → samples_in k (whole_samples set low ref col row v) ≡ block (side k) set (image (plane_in k ref)) (col * side k) (row * side k) (whole_vector k low v)
  unfolding whole_samples
  whole_channel luma set v = refl
  whole_channel chroma_u set v = refl
  whole_channel chroma_v set v = refl

  pub split_channel : (k : Channel) (set : FilterSet) (vs : List Mv)
      → samples_in k (split_samples set low ref col row vs)
      ≡ block_by (side k) set (image (plane_in k ref)) (col * side k) (row * side k) (λ r c. tile_vector k low vs (r / 4) (c / 4))
  unfolding split_samples
  split_channel luma set vs = refl
  split_channel chroma_u set vs = refl
  split_channel chroma_v set vs = refl

  pub pixel_channel : (k : Channel) (v : Mv)
      → samples_in k (pixel_samples low ref col row v) ≡ pixels (side k) (image (plane_in k ref)) (col * side k) (row * side k) (whole_vector k low v)
  unfolding pixel_samples
  pixel_channel luma v = refl
  pixel_channel chroma_u v = refl
  pixel_channel chroma_v v = refl

-- THEOREM. A sample of an accepted prediction, in row r and column c of the macroblock.
module _ (set : FilterSet) (low : Lowering) (ref : Reference) (col row : ℕ) (ok : refusal ref col row ≡ 0) (k : Channel) (r c : ℕ) (hr : r < side k) (hc : c < side k) where
  shown_in : (s : ReconstructedMb) (f : ℕ → ℕ → Mv) → samples_in k s ≡ block_by (side k) set (image (plane_in k ref)) (col * side k) (row * side k) f
      → get_or (samples_in k (answered (refusal ref col row) s).samples) (r * side k + c) 0
      ≡ predicted set (image (plane_in k ref)) (pos (col * side k + c)) (pos (row * side k + r)) (f r c)
  unfolding answered
  shown_in s f e =
      ap (λ (l : List ℕ). get_or l (r * side k + c) 0) (ap (samples_in k) (done s no_samples ok) ∙ e)
      ∙ block_at (side k) set (image (plane_in k ref)) (col * side k) (row * side k) f r c hr hc

  pub whole_sample : (v : Mv)
      → get_or (samples_in k (whole set low ref col row v).samples) (r * side k + c) 0
      ≡ predicted set (image (plane_in k ref)) (pos (col * side k + c)) (pos (row * side k + r)) (whole_vector k low v)
  unfolding whole block
  whole_sample v = shown_in (whole_samples set low ref col row v) (λ r c. whole_vector k low v) (whole_channel low ref col row k set v)

  pub split_sample : (vs : List Mv)
      → get_or (samples_in k (split set low ref col row vs).samples) (r * side k + c) 0
      ≡ predicted set (image (plane_in k ref)) (pos (col * side k + c)) (pos (row * side k + r)) (tile_vector k low vs (r / 4) (c / 4))
  unfolding split
  split_sample vs = shown_in (split_samples set low ref col row vs) (λ r c. tile_vector k low vs (r / 4) (c / 4)) (split_channel low ref col row k set vs)
