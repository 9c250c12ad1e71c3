-- Running totals of clipped samples (request K14): one macroblock's two added, or number 16 where either sum would leave 64 bits.
use Rattle.std.specs.Prelude.{◌≡◌, cond, ◌||◌, ℕ, ◌+◌, ltb, Result}
use Rattle.numbers.specs.declared.Refusal.{Refusal}
use Rattle.numbers.specs.Outcome.{outcome}
use Rattle.rfc6386.specs.Refusal.{if_done}
use Rattle.rfc6386.proofs.Laws.Refusals.{done, refused}
use Rattle.prediction.specs.declared.totals.Totals.{Totals}

-- the number, and the totals that a host has then
pub record TotalsAnswer : Type 0 where
  pub number : ℕ
  pub low : ℕ
  pub high : ℕ

-- a result, told by number to a host that keeps its totals, low and high, where the call refuses
abbrev pub totals_told : ℕ → ℕ → Result Totals Refusal → TotalsAnswer
totals_told low high r = outcome (λ t. record { number = 0; low = t.low; high = t.high }) (λ n. record { number = n; low = low; high = high }) r

-- above the last number of 64 bits
abbrev pub totals_refusal : ℕ → ℕ → ℕ
totals_refusal low high = cond (ltb 18446744073709551615 low || ltb 18446744073709551615 high) 16 0

abbrev pub added : ℕ → ℕ → ℕ → ℕ → TotalsAnswer
added low high mb-low mb-high =
    let n = totals_refusal (low + mb-low) (high + mb-high) in
    record { number = n; low = if_done n (low + mb-low) low; high = if_done n (high + mb-high) high }

-- THEOREM. Both sums, exactly, or both totals as they were.
module _ (low high mb-low mb-high : ℕ) where
  pub added_exactly : totals_refusal (low + mb-low) (high + mb-high) ≡ 0 → ((added low high mb-low mb-high).low ≡ low + mb-low) × ((added low high mb-low mb-high).high ≡ high + mb-high)
  added_exactly z = (done (low + mb-low) low z, done (high + mb-high) high z)

  pub added_kept : (totals_refusal (low + mb-low) (high + mb-high) ≡ 0 → ⊥) → ((added low high mb-low mb-high).low ≡ low) × ((added low high mb-low mb-high).high ≡ high)
  added_kept h = (refused (low + mb-low) low h, refused (high + mb-high) high h)
