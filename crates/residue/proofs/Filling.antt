-- A loop that fills a list from the front, one element a turn. Assumes nothing.
use mathlib.Core.Path.{◌≡◌}
use mathlib.Core.List.{List}
use Prim.Native.Nat.{ℕ, ◌<◌, ◌≤◌}
use native.Mathlib.Omega.{arith}
use lib.ListN.{length, get_or}
use Rattle.rfc6386.specs.Raster.{tab}
use Rattle.rfc6386.proofs.Laws.Raster.{is-tab}

-- l has n elements, and the first i are f's; d stands where there is none
pub record Filled {A : Type 0} (d : A) (n : ℕ) (f : ℕ → A) (l : List A) (i : ℕ) : Type 0 where
  pub size : length l ≡ n
  pub most : i ≤ n
  pub done : (k : ℕ) → k < i → get_or l k d ≡ f k

module _ {A : Type 0} {d : A} {n : ℕ} {f : ℕ → A} {l : List A} where
  pub filled_none : length l ≡ n → Filled d n f l 0
  filled_none e = record { size = e; most = omega arith; done = λ k h. absurd (omega arith) }

  pub filled_all : {i : ℕ} → Filled d n f l i → n ≤ i → l ≡ tab n f
  filled_all F h = is-tab d n f l F.size (λ k m. F.done k (omega arith))
