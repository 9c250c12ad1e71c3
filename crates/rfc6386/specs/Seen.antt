-- Which samples a prediction may see, on one axis at a time; and the strip of a picture that someone has blanked.
use Rattle.std.specs.Prelude.{ℕ, zero, suc, ◌+◌, ◌-◌, ◌*◌, ◌/◌, ◌<◌, ◌≤◌, ◌≡◌, ◌⊎◌, List, ℤ, pos, ◌+ℤ◌, ◌-ℤ◌}
use Rattle.rfc6386.specs.Number.{clamped}
use Rattle.rfc6386.specs.Vector.{whole_part, fraction}
use Rattle.rfc6386.specs.declared.Lowering.{Lowering}
use Rattle.rfc6386.specs.Picture.{Plane, sample_at}
use Rattle.rfc6386.specs.Macroblock.{Reference}
use Rattle.rfc6386.specs.Channel.{Channel, side, plane_in, whole_vector, tile_vector}
use Rattle.rfc6386.specs.declared.Mv.{Mv}
use Rattle.rfc6386.specs.declared.FilterSet.{FilterSet}
use Rattle.rfc6386.specs.declared.FilterSet.TheVariants.{Sixtap, Bilinear}

-- ---- the places
-- what a fraction of k eighths adds to them: nothing where it is 0; else under six-tap two places before and three after, under bilinear one after
abbrev pub before : FilterSet → ℕ → ℕ
before Sixtap zero = 0
before Sixtap (suc k) = 2
before Bilinear k = 0

abbrev pub after : FilterSet → ℕ → ℕ
after Sixtap zero = 0
after Sixtap (suc k) = 3
after Bilinear zero = 0
after Bilinear (suc k) = 1

-- the n samples from `at` on, under a component m, of a plane that has the places 0 .. size - 1: they may see their own places, moved by the
-- whole part, and those that the fraction adds, each clamped to the plane. That is every place from this one
abbrev pub first_seen : FilterSet → ℕ → ℤ → ℕ → ℕ
first_seen set at m size = clamped (pos at +ℤ whole_part m -ℤ pos (before set (fraction m))) size

-- to this one
abbrev pub last_seen : FilterSet → ℕ → ℕ → ℤ → ℕ → ℕ
last_seen set n at m size = clamped (pos at +ℤ whole_part m +ℤ pos (n - 1 + after set (fraction m))) size

pub record Seen (set : FilterSet) (n at : ℕ) (m : ℤ) (size q : ℕ) : Type 0 where
  pub from : first_seen set at m size ≤ q
  pub to : q ≤ last_seen set n at m size

-- ---- two pictures that agree there
-- two planes of one size that agree wherever the n by n block at column x, row y may see under a vector; strides and lengths may differ
pub record SameSeen (set : FilterSet) (n x y : ℕ) (v : Mv) (p q : Plane) : Type 0 where
  pub width : p.width ≡ q.width
  pub height : p.height ≡ q.height
  pub samples : (a b : ℕ) → Seen set n x v.col p.width a → Seen set n y v.row p.height b → sample_at p a b ≡ sample_at q a b

-- two references that agree wherever a whole prediction may see, in each plane
abbrev pub WholeSame : FilterSet → Lowering → ℕ → ℕ → Mv → Reference → Reference → Type 0
WholeSame set low col row v ref ref' =
    (k : Channel) → SameSeen set (side k) (col * side k) (row * side k) (whole_vector k low v) (plane_in k ref) (plane_in k ref')

-- wherever the 4x4 block of a split macroblock may see that stands in row i and column j of its blocks, in one plane
abbrev pub TileSame : Channel → FilterSet → Lowering → ℕ → ℕ → List Mv → ℕ → ℕ → Reference → Reference → Type 0
TileSame k set low col row vs i j ref ref' =
    SameSeen set 4 (col * side k + j * 4) (row * side k + i * 4) (tile_vector k low vs i j) (plane_in k ref) (plane_in k ref')

-- wherever any of its blocks may see
abbrev pub SplitSame : FilterSet → Lowering → ℕ → ℕ → List Mv → Reference → Reference → Type 0
SplitSame set low col row vs ref ref' = (k : Channel) (i j : ℕ) → i * 4 < side k → j * 4 < side k → TileSame k set low col row vs i j ref ref'

-- ---- a strip
pub data Axis : Type 0 where
  horizontal : Axis
  vertical : Axis

-- of what belongs to columns and what belongs to rows, that of an axis
abbrev pub on : {A : Type 0} → Axis → A → A → A
on horizontal a b = a
on vertical a b = b

-- columns of luma, or rows, from `first` to `last`
pub record Strip : Type 0 where
  pub axis : Axis
  pub first : ℕ
  pub last : ℕ

-- the first and the last place of a plane that the strip touches, with n samples to a macroblock's side, 16 or 8
abbrev pub first_in : Strip → ℕ → ℕ
first_in s n = s.first * n / 16

abbrev pub last_in : Strip → ℕ → ℕ
last_in s n = s.last * n / 16

-- two planes of one size that agree outside the strip, whatever stands in it
pub record Blanked (s : Strip) (n : ℕ) (p q : Plane) : Type 0 where
  pub width : p.width ≡ q.width
  pub height : p.height ≡ q.height
  pub samples : (a b : ℕ) → a < p.width → b < p.height → (on s.axis a b < first_in s n) ⊎ (last_in s n < on s.axis a b) → sample_at p a b ≡ sample_at q a b

-- two references that do, in each plane
abbrev pub BlankedIn : Strip → Reference → Reference → Type 0
BlankedIn s ref ref' = (k : Channel) → Blanked s (side k) (plane_in k ref) (plane_in k ref')

-- the m by m block at column x, row y misses the strip: the last place that it may see on the strip's axis comes before it, or the first after it
abbrev pub Misses : Strip → ℕ → FilterSet → ℕ → ℕ → ℕ → Mv → Plane → Type 0
Misses s n set m x y v p =
    (last_seen set m (on s.axis x y) (on s.axis v.col v.row) (on s.axis p.width p.height) < first_in s n)
    ⊎ (last_in s n < first_seen set (on s.axis x y) (on s.axis v.col v.row) (on s.axis p.width p.height))

-- a whole prediction does, in each plane
abbrev pub WholeMisses : Strip → FilterSet → Lowering → ℕ → ℕ → Mv → Reference → Type 0
WholeMisses s set low col row v ref = (k : Channel) → Misses s (side k) set (side k) (col * side k) (row * side k) (whole_vector k low v) (plane_in k ref)

-- the 4x4 block of a split macroblock in row i and column j of its blocks does, in one plane
abbrev pub TileMisses : Channel → Strip → FilterSet → Lowering → ℕ → ℕ → List Mv → ℕ → ℕ → Reference → Type 0
TileMisses k s set low col row vs i j ref =
    Misses s (side k) set 4 (col * side k + j * 4) (row * side k + i * 4) (tile_vector k low vs i j) (plane_in k ref)
