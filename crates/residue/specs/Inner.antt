-- What private functions of this crate promise each other: a pass of a transform in records of four, the sizes of numbers, and samples of which a
-- part is finished.
use Rattle.std.specs.Prelude.{ℕ, ◌+◌, ◌*◌, ◌%◌, ◌<◌, ◌≤◌, ◌≡◌, List, length, get_or, ℤ, pos, nat_abs}
use Rattle.rfc6386.specs.Raster.{tab}
use Rattle.residue.specs.Transform.{Kernel, at, down, along, eighth}
use Rattle.residue.specs.declared.spot.Spot.{Spot}
use Rattle.residue.specs.declared.transform.Four.{Four}
use Rattle.residue.specs.declared.transform.Row.{Row}

-- ---- blocks
-- all sixteen numbers but the first are 0
pub record OnlyFirst (x : List ℤ) : Type 0 where
  pub rest : (i : ℕ) → 1 ≤ i → i < 16 → at x i ≡ pos 0

-- ---- four numbers
abbrev pub points : Kernel → ℤ → ℤ → ℤ → ℤ → Four
points f a b c d = record { 0 = f 0 a b c d; 1 = f 1 a b c d; 2 = f 2 a b c d; 3 = f 3 a b c d }

-- four numbers from -n to n
pub record Small (n : ℕ) (a b c d : ℤ) : Type 0 where
  pub first : nat_abs a ≤ n
  pub second : nat_abs b ≤ n
  pub third : nat_abs c ≤ n
  pub fourth : nat_abs d ≤ n

-- column j of a block
abbrev pub in_column : List ℤ → ℕ → Four
in_column x j = record { 0 = at x j; 1 = at x (4 + j); 2 = at x (8 + j); 3 = at x (12 + j) }

-- an eighth of each
abbrev pub eighths : ℕ → Four → Row
eighths n q = record { 0 = eighth n q.0; 1 = eighth n q.1; 2 = eighth n q.2; 3 = eighth n q.3 }

-- of sixteen numbers each from number s on lies in -n .. n
pub record Bounded (s n : ℕ) (x : List ℤ) : Type 0 where
  pub small : (i : ℕ) → s ≤ i → i < 16 → nat_abs (at x i) ≤ n

-- a kernel that takes numbers from -m to m takes the columns of a block and then the rows of what they give, and what it gives for those leaves
-- room for sixteen bits once an eighth is taken
pub record Fits (f : Kernel) (m : ℕ) (x : List ℤ) : Type 0 where
  pub most : m ≤ 65532
  pub columns : (j : ℕ) → j < 4 → Small m (at x j) (at x (4 + j)) (at x (8 + j)) (at x (12 + j))
  pub rows : (i : ℕ) → Small m (down f x i 0) (down f x i 1) (down f x i 2) (down f x i 3)
  pub results : (i : ℕ) → Small 262128 (along f x i 0) (along f x i 1) (along f x i 2) (along f x i 3)

-- n numbers of c from number i on lie in -m .. m
pub record Low (c : List ℤ) (i n m : ℕ) : Type 0 where
  pub low : (k : ℕ) → k < n → nat_abs (at c (i + k)) ≤ m

-- and those that no block begins with, of n from number i on where a block begins
pub record Open (c : List ℤ) (i n : ℕ) : Type 0 where
  pub low : (k : ℕ) → k < n → (k % 16 ≡ 0 → ⊥) → nat_abs (at c (i + k)) ≤ 4095

-- ---- samples
-- the 4x4 block at s lies in n samples. Row r, column q stands at s.i + (r * s.w + q)
pub record Room (n : ℕ) (s : Spot) : Type 0 where
  pub across : s.x + 4 ≤ s.w
  pub down : s.i + ((s.y + 3) * s.w + (s.x + 4)) ≤ n

-- row r, column q lies in the rows y to z - 1, the columns a to b - 1
pub record Inside (y z a b r q : ℕ) : Type 0 where
  pub from_row : y ≤ r
  pub to_row : r < z
  pub from-column : a ≤ q
  pub to-column : q < b

-- d' is d but for those rows and columns, which are f's
pub record Area (d d' : List ℕ) (i w y z a b : ℕ) (f : ℕ → ℕ → ℕ) : Type 0 where
  pub size : length d' ≡ length d
  pub done : (r q : ℕ) → Inside y z a b r q → get_or d' (i + (r * w + q)) 0 ≡ f r q
  pub rest : (j : ℕ) → ((r q : ℕ) → Inside y z a b r q → j ≡ i + (r * w + q) → ⊥) → get_or d' j 0 ≡ get_or d j 0

-- the area that a block is
abbrev pub BlockArea : List ℕ → List ℕ → Spot → (ℕ → ℕ → ℕ) → Type 0
BlockArea d d' s f = Area d d' s.i s.w s.y (s.y + 4) s.x (s.x + 4) f

-- n samples of d from i on
unfoldable pub piece : List ℕ → ℕ → ℕ → List ℕ
piece d i n = tab n (λ k. get_or d (i + k) 0)
