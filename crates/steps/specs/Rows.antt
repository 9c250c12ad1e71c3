-- A row laid into a list, and the room that copies need.
use Rattle.std.specs.Prelude.{cond, List, ℕ, ◌+◌, ◌-◌, ◌*◌, ◌<◌, ◌≤◌, length, get_or}
use Rattle.rfc6386.specs.Raster.{tab, within}

-- d with f 0, .., f (n - 1) from `to` on
unfoldable pub laid : List ℕ → ℕ → ℕ → (ℕ → ℕ) → List ℕ
laid d to n f = tab (length d) (λ i. cond (within to n i) (f (i - to)) (get_or d i 0))

-- d with f 0, .., f (w - 1) from `to` on, and g 0, .., g (w - 1) `off` behind them
abbrev pub laid_twice : List ℕ → ℕ → ℕ → ℕ → (ℕ → ℕ) → (ℕ → ℕ) → List ℕ
laid_twice d to off w f g = laid (laid d to w f) (to + off) w g

-- w columns, one or more, and so many rows, from column x, row y of a list of so many bytes, and from `from` on of another
pub record Room (bytes stride x y w rows : ℕ) : Type 0 where
  pub some : 1 ≤ w
  pub across : x + w ≤ stride
  pub down : (r : ℕ) → r < rows → (y + r) * stride + x + w ≤ bytes

abbrev pub Held : ℕ → ℕ → ℕ → ℕ → ℕ → Type 0
Held bytes from pitch w rows = (r : ℕ) → r < rows → from + r * pitch + w ≤ bytes

-- every element is a byte, in whatever width it is kept
pub record Low (l : List ℕ) : Type 0 where
  pub each : (i : ℕ) → i < length l → get_or l i 0 ≤ 255
