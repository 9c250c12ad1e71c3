-- Mirrored cameras: a picture, the place of a macroblock, its vectors and its samples, with the columns counted from the other side, the rows
-- counted from the other end, or both.
use Rattle.std.specs.Prelude.{ℕ, ◌+◌, ◌-◌, ◌*◌, ◌/◌, ◌%◌, ◌≡◌, Bool, true, false, ◌&&◌, List, get_or, ℤ, pos, negsuc, neg_ℤ}
use Rattle.std.specs.Int.Signed.{le_z}
use Rattle.rfc6386.specs.Vector.{lowering_of, sent}
use Rattle.rfc6386.specs.declared.Lowering.{Lowering}
use Rattle.rfc6386.specs.Raster.{tab, raster, written}
use Rattle.rfc6386.specs.Picture.{Plane, sample_at}
use Rattle.rfc6386.specs.Macroblock.{Reference}
use Rattle.rfc6386.specs.Channel.{plane_in}
use Rattle.rfc6386.specs.Channel.Channel.{luma, chroma_u, chroma_v}
use Rattle.rfc6386.specs.declared.Mv.{Mv}
use Rattle.rfc6386.specs.declared.ReconstructedMb.{ReconstructedMb}
use Rattle.rfc6386.specs.Answer.{Prediction}

-- which axes are turned round
pub record Mirror : Type 0 where
  pub columns : Bool
  pub rows : Bool

abbrev pub left_to_right : Mirror
left_to_right = record { columns = true; rows = false }

abbrev pub top_to_bottom : Mirror
top_to_bottom = record { columns = false; rows = true }

-- a picture turned by half
abbrev pub by_half : Mirror
by_half = record { columns = true; rows = true }

-- full-pixel off
abbrev pub off : Lowering
off = lowering_of false

-- ---- one axis, turned round or not
-- place i of n
abbrev pub turn : Bool → ℕ → ℕ → ℕ
turn false n i = i
turn true n i = n - 1 - i

-- a component of a vector
abbrev pub negated : Bool → ℤ → ℤ
negated false z = z
negated true z = neg_ℤ z

-- components whose double, and its negation, fit sixteen bits: -16383 .. 16383
abbrev pub least_turnable : ℤ
least_turnable = negsuc 16382

abbrev pub most_turnable : ℤ
most_turnable = pos 16383

abbrev pub turnable : ℤ → Bool
turnable z = le_z least_turnable z && le_z z most_turnable

-- ---- pictures
-- a plane's bytes with every sample at its mirrored place; bytes past the width and past the last sample stay
unfoldable pub mirrored_bytes : Mirror → Plane → List ℕ
mirrored_bytes m p =
    written p.bytes p.stride 0 0 p.width p.height (λ r c. sample_at p (turn m.columns p.width c) (turn m.rows p.height r))

abbrev pub mirrored_reference : Mirror → Reference → Reference
mirrored_reference m ref =
    record {
      cols = ref.cols;
      rows = ref.rows;
      y = record { bytes = mirrored_bytes m (plane_in luma ref); stride = ref.y.stride };
      u = record { bytes = mirrored_bytes m (plane_in chroma_u ref); stride = ref.u.stride };
      v = record { bytes = mirrored_bytes m (plane_in chroma_v ref); stride = ref.v.stride };
    }

-- ---- a macroblock: its column and row in a picture
abbrev pub mirrored_col : Mirror → Reference → ℕ → ℕ
mirrored_col m ref col = turn m.columns ref.cols col

abbrev pub mirrored_row : Mirror → Reference → ℕ → ℕ
mirrored_row m ref row = turn m.rows ref.rows row

-- its vector
abbrev pub mirrored_vector : Mirror → Mv → Mv
mirrored_vector m v = record { row = negated m.rows v.row; col = negated m.columns v.col }

-- its sixteen vectors, reversed within each row of four, the rows of four in reversed order: block b gets that of this block
abbrev pub mirrored_subblock : Mirror → ℕ → ℕ
mirrored_subblock m b = turn m.rows 4 (b / 4) * 4 + turn m.columns 4 (b % 4)

unfoldable pub mirrored_vectors : Mirror → List Mv → List Mv
mirrored_vectors m vs = tab 16 (λ b. mirrored_vector m (sent vs (mirrored_subblock m b)))

-- a vector that can be mirrored: its components on the axes that are turned round lie in -16383 .. 16383
pub record Turnable (m : Mirror) (v : Mv) : Type 0 where
  pub columns : m.columns ≡ true → turnable v.col ≡ true
  pub rows : m.rows ≡ true → turnable v.row ≡ true

-- its samples, n to a side, and in each plane
abbrev pub mirrored_block : Mirror → ℕ → List ℕ → List ℕ
mirrored_block m n l = raster n n (λ r c. get_or l (turn m.rows n r * n + turn m.columns n c) 0)

abbrev pub mirrored_mb : Mirror → ReconstructedMb → ReconstructedMb
mirrored_mb m s = record { y = mirrored_block m 16 s.y; u = mirrored_block m 8 s.u; v = mirrored_block m 8 s.v }

abbrev pub mirrored_prediction : Mirror → Prediction → Prediction
mirrored_prediction m p = record { number = p.number; samples = mirrored_mb m p.samples }
