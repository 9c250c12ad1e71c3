-- What is fetched from a plane: the coordinates of the samples, in order, one that is fetched twice standing there twice. How many samples a call
-- fetches is the length of such a list (request K8).
use Rattle.std.specs.Prelude.{ℕ, zero, suc, ◌+◌, ◌*◌, ◌/◌, ◌%◌, cond, List, [], ◌++◌, ℤ, pos, ◌+ℤ◌, ◌-ℤ◌}
use Rattle.rfc6386.specs.Number.{clamped}
use Rattle.rfc6386.specs.Vector.{whole_part, is_whole}
use Rattle.rfc6386.specs.Raster.{tab}
use Rattle.rfc6386.specs.Picture.{Plane}
use Rattle.rfc6386.specs.declared.Mv.{Mv}

-- the column and the row of a sample in its plane
pub record Coordinate : Type 0 where
  pub col : ℕ
  pub row : ℕ

-- the n by n from column x, row y on, each clamped to a plane of w by h samples
unfoldable pub square_of : ℕ → ℕ → ℕ → ℤ → ℤ → List Coordinate
square_of n w h x y = tab (n * n) (λ i. record { col = clamped (x +ℤ pos (i % n)) w; row = clamped (y +ℤ pos (i / n)) h })

-- those of a block of n samples a side by its vector: at whole pixels, and with the two before it and the three after it that the taps reach
abbrev pub pixels_of : ℕ → Plane → ℕ → ℕ → Mv → List Coordinate
pixels_of n p x y v = square_of n p.width p.height (pos x +ℤ whole_part v.col) (pos y +ℤ whole_part v.row)

abbrev pub halo_of : ℕ → Plane → ℕ → ℕ → Mv → List Coordinate
halo_of n p x y v = square_of (n + 5) p.width p.height (pos x +ℤ whole_part v.col -ℤ pos 2) (pos y +ℤ whole_part v.row -ℤ pos 2)

-- a predicted block's: the first where neither component has a fraction, else the second, under either table
unfoldable pub block_of : ℕ → Plane → ℕ → ℕ → Mv → List Coordinate
block_of n p x y v = cond (is_whole v) (pixels_of n p x y v) (halo_of n p x y v)

-- f 0, f 1, .., f (n - 1), one list after the other
unfoldable pub joined : {A : Type 0} → ℕ → (ℕ → List A) → List A
joined zero f = []
joined (suc n) f = joined n f ++ f n

-- the 4x4 blocks of a square, so many to a row, each by its own vector
unfoldable pub tiles_of : ℕ → Plane → ℕ → ℕ → (ℕ → Mv) → List Coordinate
tiles_of per p x y vector = joined (per * per) (λ b. block_of 4 p (x + b % per * 4) (y + b / per * 4) (vector b))
