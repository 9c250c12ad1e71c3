-- A split macroblock whose luma is left to do.
use Rattle.std.specs.Prelude.{◌≡◌, Bool, List, ◌++◌, ℕ, ◌+◌, ◌*◌, ◌≤◌, length}
use Rattle.rfc6386.specs.Vector.{luma_vector, sent}
use Rattle.rfc6386.specs.declared.Lowering.{Lowering}
use Rattle.rfc6386.specs.Picture.{image, block_by}
use Rattle.rfc6386.specs.Fetched.{Coordinate}
use Rattle.rfc6386.specs.Clips.{clips_by}
use Rattle.rfc6386.specs.Macroblock.{Reference, plane_y, subblock, split}
use Rattle.rfc6386.specs.Report.{split_chroma_of, split_clips}
use Rattle.rfc6386.specs.declared.Mv.{Mv}
use Rattle.rfc6386.specs.declared.FilterSet.{FilterSet}
use Rattle.rfc6386.specs.declared.Clips.{Clips}
use Rattle.rfc6386.specs.Answer.{Prediction}
use Rattle.blocks.specs.Places.{plane_at}
use Rattle.blocks.specs.Taken.{taken}
use Rattle.prediction.specs.Stands.{Stands}
use Rattle.prediction.specs.declared.predict.Rest.{Rest}
use Rattle.blocks.specs.declared.place.Place.{Place}

-- the sixteen luma blocks of the macroblock at a place, each by its own vector
abbrev pub luma_block_at : FilterSet → Lowering → List ℕ → List Mv → Place → List ℕ
luma_block_at set low bytes vs at = block_by 16 set (image (plane_at bytes at)) at.x at.y (λ r c. luma_vector low (sent vs (subblock r c)))

abbrev pub luma_clips : FilterSet → Lowering → Reference → ℕ → ℕ → List Mv → Clips
luma_clips set low ref col row vs = clips_by 16 set (image (plane_y ref)) (col * 16) (row * 16) (λ r c. luma_vector low (sent vs (subblock r c)))

-- with its luma, predicted where it stands, and with what that takes this is split prediction, whatever luma is lowered to
pub record ButLuma (set : FilterSet) (chroma : Bool) (ref : Reference) (col row : ℕ) (vs : List Mv) (rest : Rest) (all : ℕ) : Type 0 where
  pub stands : Stands ref ref.y 16 col row rest.luma.lent
  pub few : all ≤ 8000000000000000
  pub completes : (luma : Bool) {number : ℕ} {samples : List ℕ} → number ≡ 0
      → let low : Lowering = record { luma = luma; chroma = chroma } in samples ≡ luma_block_at set low rest.luma.lent.plane.now vs rest.luma.lent.at
      → ◌≡◌ {A = Prediction} (record { number = number; samples = record { y = samples; u = rest.chroma.u; v = rest.chroma.v } }) (split set low ref col row vs)
  pub sums : (luma : Bool) {count : ℕ} (l : List Coordinate) → let low : Lowering = record { luma = luma; chroma = chroma } in
      count ≡ taken (length l) (luma_clips set low ref col row vs) → count + all ≡ taken (length (l ++ split_chroma_of low ref col row vs)) (split_clips set low ref col row vs)
