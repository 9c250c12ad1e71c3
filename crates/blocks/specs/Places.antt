-- What the fetch of a square asks and leaves, and where a square lies inside.
use Rattle.std.specs.Prelude.{◌≡◌, List, ℕ, ◌+◌, ◌≤◌, get_or, ℤ, pos, ◌+ℤ◌, ◌-ℤ◌}
use Rattle.signed.specs.Int.{up, dn}
use Rattle.signed.specs.Held.{Within}
use Rattle.rfc6386.specs.Number.{clamped}
use Rattle.rfc6386.specs.Vector.{whole_part, fraction}
use Rattle.rfc6386.specs.Raster.{written}
use Rattle.rfc6386.specs.Picture.{Plane, image}
use Rattle.rfc6386.specs.Refusal.{plane_refusal}
use Rattle.rfc6386.specs.Block.{plane_of}
use Rattle.rfc6386.specs.Refusal.{Fits}
use Rattle.rfc6386.specs.declared.Mv.{Mv}
use Rattle.rfc6386.specs.declared.FilterSet.{FilterSet}
use Rattle.steps.specs.Rows.{laid}
use Rattle.steps.specs.declared.way.Way.{Way}
use Rattle.blocks.specs.declared.place.Place.{Place}

-- a coordinate so near that nothing added to it here leaves 64 bits
abbrev pub Near : ℤ → Type 0
Near z = Within z 1048576 1048576

-- n places from z on, all in 0 .. size - 1
pub record Inside (z : ℤ) (n size : ℕ) : Type 0 where
  pub first : dn z ≡ 0
  pub last : up z + n ≤ size

-- a plane with samples that can be read, and a square's column x, row y
pub record Source (p : Plane) (x y : ℤ) : Type 0 where
  pub width_least : 1 ≤ p.width
  pub width_most : p.width ≤ 16384
  pub height_least : 1 ≤ p.height
  pub height_most : p.height ≤ 16384
  pub fits : Fits p
  pub near_x : Near x
  pub near_y : Near y

abbrev pub clamped_row : List ℕ → ℕ → ℕ → ℤ → ℕ → List ℕ → ℕ → List ℕ
clamped_row bytes at w x n out to = laid out to n (λ c. get_or bytes (at + clamped (x +ℤ pos c) w) 0)

-- out with `rows` rows of `cols` samples from column x, row y on in its first rows * cols places
abbrev pub clamped_rect : Plane → ℤ → ℤ → ℕ → ℕ → List ℕ → List ℕ
clamped_rect p x y cols rows out = written out cols 0 0 cols rows (λ r c. image p (x +ℤ pos c) (y +ℤ pos r))

-- ---- a block's plane and place, as one record
abbrev pub plane_at : List ℕ → Place → Plane
plane_at bytes at = plane_of bytes at.stride at.w at.h

abbrev pub Accepted : List ℕ → Place → Type 0
Accepted bytes at = plane_refusal (plane_at bytes at) at.x at.y ≡ 0

-- U's and V's: the same but for the stride
pub record Alike (a b : Place) : Type 0 where
  pub width : a.w ≡ b.w
  pub height : a.h ≡ b.h
  pub column : a.x ≡ b.x
  pub row : a.y ≡ b.y

-- n places from z on are i, i + 1, .., all below size
pub record Lies (z : ℤ) (n size i : ℕ) : Type 0 where
  pub is : z ≡ pos i
  pub room : i + n ≤ size

-- where the halo of a block starts on one axis: two before the vector's whole part
abbrev pub halo_start : ℕ → ℤ → ℤ
halo_start at m = pos at +ℤ whole_part m -ℤ pos 2

-- a halo of n samples a side lies inside, from column i, row j on
pub record HaloAt (at : Place) (v : Mv) (n i j : ℕ) : Type 0 where
  pub across : Lies (halo_start at.x v.col) n at.w i
  pub down : Lies (halo_start at.y v.row) n at.h j

-- how the block of a vector is filtered
pub record WayOf (v : Mv) (set : FilterSet) (w : Way) : Type 0 where
  pub set_is : w.set ≡ set
  pub mx_is : w.mx ≡ fraction v.col
  pub my_is : w.my ≡ fraction v.row
