-- Two rows of what calls gave, laid into a list.
use Rattle.std.specs.Prelude.{◌≡◌, List, ℕ, ◌+◌, ◌<◌, ◌≤◌, length, get_or}

-- d is d₀ with n elements from `to` on, and n more `off` behind them: the c-th of the first is one that `one` allows at c, that of the second one that `other` does
pub record LaidTwo {A : Type 0} (one other : ℕ → A → Type 0) (d₀ : List A) (to off n : ℕ) (d : List A) : Type 0 where
  pub size : length d ≡ length d₀
  pub first : (c : ℕ) → c < n → (x : A) → one c (get_or d (to + c) x)
  pub second : (c : ℕ) → c < n → (x : A) → other c (get_or d (to + off + c) x)
  pub rest : (i : ℕ) → (to ≤ i → i < to + n → ⊥) → (to + off ≤ i → i < to + off + n → ⊥) → (x : A) → get_or d i x ≡ get_or d₀ i x
