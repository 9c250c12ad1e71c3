-- The three planes of a picture and of a macroblock by name, so that one statement speaks of each.
use Rattle.std.specs.Prelude.{ℕ, ◌+◌, ◌*◌, List}
use Rattle.rfc6386.specs.Vector.{luma_vector, chroma_vector, quarter_vector, sent}
use Rattle.rfc6386.specs.declared.Lowering.{Lowering}
use Rattle.rfc6386.specs.Picture.{Plane}
use Rattle.rfc6386.specs.Macroblock.{Source, Reference, side_plane}
use Rattle.rfc6386.specs.declared.Mv.{Mv}
use Rattle.rfc6386.specs.declared.ReconstructedMb.{ReconstructedMb}

pub data Channel : Type 0 where
  luma : Channel
  chroma_u : Channel
  chroma_v : Channel

-- samples to a macroblock's side
abbrev pub side : Channel → ℕ
side luma = 16
side chroma_u = 8
side chroma_v = 8

abbrev pub source_in : Channel → Reference → Source
source_in luma ref = ref.y
source_in chroma_u ref = ref.u
source_in chroma_v ref = ref.v

abbrev pub plane_in : Channel → Reference → Plane
plane_in k ref = side_plane ref (source_in k ref) (side k)

abbrev pub samples_in : Channel → ReconstructedMb → List ℕ
samples_in luma s = s.y
samples_in chroma_u s = s.u
samples_in chroma_v s = s.v

-- the vector of a whole macroblock
abbrev pub whole_vector : Channel → Lowering → Mv → Mv
whole_vector luma low v = luma_vector low v
whole_vector chroma_u low v = chroma_vector low v
whole_vector chroma_v low v = chroma_vector low v

-- the vector of the 4x4 block in row i and column j of a split macroblock's blocks
abbrev pub tile_vector : Channel → Lowering → List Mv → ℕ → ℕ → Mv
tile_vector luma low vs i j = luma_vector low (sent vs (i * 4 + j))
tile_vector chroma_u low vs i j = quarter_vector low vs (i * 2 + j)
tile_vector chroma_v low vs i j = quarter_vector low vs (i * 2 + j)
