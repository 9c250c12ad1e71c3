-- The sides that a luma block may have.
use Rattle.std.specs.Prelude.{◌≡◌, ◌⊎◌, ℕ}

abbrev pub Side : ℕ → Type 0
Side n = (n ≡ 4) ⊎ ((n ≡ 8) ⊎ (n ≡ 16))
