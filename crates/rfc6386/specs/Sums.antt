-- Sums of so many numbers, and of rows of them.
use Rattle.std.specs.Prelude.{ℕ, zero, suc, ◌+◌}

-- f 0 + f 1 + .. + f (n - 1)
unfoldable pub sum_to : ℕ → (ℕ → ℕ) → ℕ
sum_to zero f = 0
sum_to (suc n) f = sum_to n f + f n

-- f r c at row r, column c, in so many rows of w
abbrev pub sum_rows : ℕ → ℕ → (ℕ → ℕ → ℕ) → ℕ
sum_rows rows w f = sum_to rows (λ r. sum_to w (f r))
