-- Squares of a macroblock's sixteen by sixteen luma samples.
use Rattle.std.specs.Prelude.{◌≡◌, List, ℕ, ◌+◌, ◌*◌, ◌/◌, ◌%◌, ◌<◌, ◌≤◌, length, get_or, pos}
use Rattle.rfc6386.specs.Raster.{written}
use Rattle.rfc6386.specs.Vector.{luma_vector, sent}
use Rattle.rfc6386.specs.declared.Lowering.{Lowering}
use Rattle.rfc6386.specs.Picture.{Plane, Image, image}
use Rattle.rfc6386.specs.Clips.{predicted_clip, totals}
use Rattle.rfc6386.specs.Macroblock.{subblock}
use Rattle.rfc6386.specs.Report.{luma}
use Rattle.rfc6386.specs.declared.Mv.{Mv}
use Rattle.rfc6386.specs.declared.FilterSet.{FilterSet}
use Rattle.rfc6386.specs.declared.Clips.{Clips}
use Rattle.steps.specs.Side.{Side}
use Rattle.blocks.specs.Taken.{taken}

-- a square of 4, 8 or 16 samples a side at column x, row y, made of whole 4x4 blocks
pub record Square (x y n : ℕ) : Type 0 where
  pub side : Side n
  pub column : x % 4 ≡ 0
  pub row : y % 4 ≡ 0
  pub across : x + n ≤ 16
  pub down : y + n ≤ 16

-- out with that square of all the macroblock's samples
unfoldable pub part : List ℕ → List ℕ → ℕ → ℕ → ℕ → List ℕ
part all out x y n = written out 16 x y n n (λ r c. get_or all ((y + r) * 16 + (x + c)) 0)

-- every sample of the square has the vector of its first
pub record OneVector (mvs : List Mv) (x y n : ℕ) : Type 0 where
  pub alike : (r c : ℕ) → r < n → c < n → sent mvs (subblock (y + r) (x + c)) ≡ sent mvs (subblock y x)

-- what is clipped in it, where the luma stands at column at_x, row at_y of the plane, and what it takes
unfoldable pub square_clips : FilterSet → Lowering → Image → ℕ → ℕ → List Mv → ℕ → ℕ → ℕ → Clips
square_clips set low img at_x at_y mvs x y n = totals n (λ r c. predicted_clip set img (pos (at_x + (x + c))) (pos (at_y + (y + r))) (luma_vector low (sent mvs (subblock (y + r) (x + c)))))

abbrev pub square_takes : FilterSet → Lowering → Plane → ℕ → ℕ → List Mv → ℕ → ℕ → ℕ → ℕ
square_takes set low p at_x at_y mvs x y n = taken (length (luma (n / 8) low p at_x at_y mvs x y)) (square_clips set low (image p) at_x at_y mvs x y n)
