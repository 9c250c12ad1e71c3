-- What the functions of this crate promise each other, and those above: products in sixteen bits, lists of which a part is written, and coefficients
-- that do for others.
use Rattle.std.specs.Prelude.{ℕ, ◌+◌, ◌*◌, ◌<◌, ◌≤◌, min, ◌≡◌, Bool, false, List, length, ℤ, pos, negsuc}
use Rattle.residue.specs.Transform.{at}
use Rattle.residue.specs.Coefficients.{seeded, whole_refusal, split_refusal}

-- the number from -32768 to 32767 that is nearest to z
abbrev pub sixteen : ℤ → ℤ
sixteen (pos n) = pos (min n 32767)
sixteen (negsuc n) = negsuc (min n 32767)

-- d' is d but for n numbers from i on, which are f's
pub record Part (d d' : List ℤ) (i n : ℕ) (f : ℕ → ℤ) : Type 0 where
  pub size : length d' ≡ length d
  pub done : (k : ℕ) → k < n → at d' (i + k) ≡ f k
  pub before : (j : ℕ) → j < i → at d' j ≡ at d j
  pub after : (j : ℕ) → i + n ≤ j → at d' j ≡ at d j

-- d' is d but for n numbers from i on, each `step` after the one before, which are f's
pub record Spaced (d d' : List ℤ) (i step n : ℕ) (f : ℕ → ℤ) : Type 0 where
  pub size : length d' ≡ length d
  pub done : (k : ℕ) → k < n → at d' (i + step * k) ≡ f k
  pub rest : (j : ℕ) → ((k : ℕ) → k < n → j ≡ i + step * k → ⊥) → at d' j ≡ at d j

-- c does for the coefficients p: it is refused where p is, and where it is used it is as good
pub record Offered (refusal : Bool → List ℤ → ℕ) (used : List ℤ → List ℤ) (skip : Bool) (p c : List ℤ) : Type 0 where
  pub refused_alike : refusal skip c ≡ refusal skip p
  pub used_alike : skip ≡ false → refusal skip p ≡ 0 → used c ≡ used p

abbrev pub WholeOffered : Bool → List ℤ → List ℤ → Type 0
WholeOffered = Offered whole_refusal seeded

abbrev pub SplitOffered : Bool → List ℤ → List ℤ → Type 0
SplitOffered = Offered split_refusal (λ c. c)
