-- That a square is one has one proof at most, as the field of a struct asks. Assumes nothing.
use Rattle.std.specs.Prelude.{◌≡◌, ℕ, ◌%◌}
use Rattle.std.proofs.Common.{ap, inl, inr, arith}
use Rattle.std.proofs.Math.Nat.{ℕ_set}
use Rattle.std.proofs.Math.Bridge.{le_prop}
use Rattle.steps.specs.Side.{Side}
use Rattle.quarters.specs.Parts.{Square}

side_prop : (n : ℕ) (a b : Side n) → a ≡ b
side_prop n (inl e) (inl f) = ap inl (ℕ_set n 4 e f)
side_prop n (inl e) (inr (inl f)) = absurd (omega arith)
side_prop n (inl e) (inr (inr f)) = absurd (omega arith)
side_prop n (inr (inl e)) (inl f) = absurd (omega arith)
side_prop n (inr (inl e)) (inr (inl f)) = ap inr (ap inl (ℕ_set n 8 e f))
side_prop n (inr (inl e)) (inr (inr f)) = absurd (omega arith)
side_prop n (inr (inr e)) (inl f) = absurd (omega arith)
side_prop n (inr (inr e)) (inr (inl f)) = absurd (omega arith)
side_prop n (inr (inr e)) (inr (inr f)) = ap inr (ap inr (ℕ_set n 16 e f))

pub square_prop : (x y n : ℕ) → IsProp (Square x y n)
square_prop x y n a b =
    λ i. record {
      side = side_prop n a.side b.side i;
      column = ℕ_set (x % 4) 0 a.column b.column i;
      row = ℕ_set (y % 4) 0 a.row b.row i;
      across = le_prop a.across b.across i;
      down = le_prop a.down b.down i;
    }
