-- What the planes of a split macroblock ask, and what they take.
use Rattle.std.specs.Prelude.{◌≡◌, ℕ, ◌+◌, ◌*◌, ◌/◌, ◌<◌, ◌≤◌, length}
use Rattle.rfc6386.specs.Picture.{Plane, image}
use Rattle.rfc6386.specs.Fetched.{tiles_of}
use Rattle.rfc6386.specs.Clips.{clips_by}
use Rattle.rfc6386.specs.Refusal.{plane_refusal}
use Rattle.rfc6386.specs.declared.Mv.{Mv}
use Rattle.rfc6386.specs.declared.FilterSet.{FilterSet}
use Rattle.blocks.specs.Taken.{taken}

-- every block that starts in the n by n samples from column x, row y on is accepted, and that place is small
pub record Starts (p : Plane) (x y n : ℕ) : Type 0 where
  pub accepted : (a b : ℕ) → a < n → b < n → plane_refusal p (x + a) (y + b) ≡ 0
  pub x_small : x ≤ 16384
  pub y_small : y ≤ 16384

-- the 4x4 blocks of a square, so many to a row, each by its own vector
abbrev pub tiles_take : ℕ → FilterSet → Plane → ℕ → ℕ → (ℕ → Mv) → ℕ
tiles_take per set p x y vector = taken (length (tiles_of per p x y vector)) (clips_by (per * 4) set (image p) x y (λ r c. vector (r / 4 * per + c / 4)))
