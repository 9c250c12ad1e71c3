-- A tally in eight lanes, each of which counts every eighth column.
use Rattle.std.specs.Prelude.{◌≡◌, List, ℕ, ◌+◌, ◌<◌, ◌≤◌, length, get_or}

-- with room for the parts of two samples more in each
pub record Roomy (l : List ℕ) : Type 0 where
  pub size : length l ≡ 8
  pub each : (c : ℕ) → c < 8 → get_or l c 0 ≤ 64509

-- l is l₀ with h 0, .., h 7 added
pub record Added (l₀ : List ℕ) (h : ℕ → ℕ) (l : List ℕ) : Type 0 where
  pub size : length l ≡ length l₀
  pub each : (c : ℕ) → c < 8 → get_or l c 0 ≡ get_or l₀ c 0 + h c
