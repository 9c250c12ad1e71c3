-- A row of taps by the sizes of its taps, those at places -1 and 2 being subtracted, and what holds of every row of the two tables.
use Rattle.std.specs.Prelude.{◌≡◌, List, [], ◌∷◌, ℕ, ◌+◌, ◌≤◌, get_or, ℤ, pos, nat_abs, ◌+ℤ◌}
use Rattle.rfc6386.specs.Filter.{taps6, less}

pub record Sizes : Type 0 where
  pub a : ℕ
  pub b : ℕ
  pub c : ℕ
  pub d : ℕ
  pub e : ℕ
  pub f : ℕ

abbrev pub sizes6 : ℕ → ℕ → ℕ → ℕ → ℕ → ℕ → Sizes
sizes6 a b c d e f = record { a = a; b = b; c = c; d = d; e = e; f = f }

unfoldable pub signed : Sizes → List ℤ
signed t = taps6 (pos t.a) (less t.b) (pos t.c) (pos t.d) (less t.e) (pos t.f)

-- the sizes of a row's taps; what of them is added, and what is subtracted; the taps' sum
abbrev pub sizes_of : List ℤ → Sizes
sizes_of row =
    sizes6 (nat_abs (get_or row 0 (pos 0))) (nat_abs (get_or row 1 (pos 0))) (nat_abs (get_or row 2 (pos 0)))
    (nat_abs (get_or row 3 (pos 0))) (nat_abs (get_or row 4 (pos 0))) (nat_abs (get_or row 5 (pos 0)))

abbrev pub added : Sizes → ℕ
added t = t.a + t.c + t.d + t.f

abbrev pub taken : Sizes → ℕ
taken t = t.b + t.e

abbrev pub total : List ℤ → ℤ
total [] = pos 0
total (t ∷ ts) = t +ℤ total ts

-- what holds of each row: only the taps at places -1 and 2 are subtracted, all sum to 128, and those that are added to 160 at most, so that
-- products with bytes fit sixteen bits
pub record Row (row : List ℤ) : Type 0 where
  pub signs : row ≡ signed (sizes_of row)
  pub sums : total row ≡ pos 128
  pub balanced : added (sizes_of row) ≡ 128 + taken (sizes_of row)
  pub small : added (sizes_of row) ≤ 160
