-- Two results of a call that are told alike are one: so its contract, on how its result is told, allows no two.
use Rattle.std.proofs.Common.{◌≡◌, refl, ap, ℕ, List, Result}
use Rattle.numbers.specs.declared.Refusal.{Refusal}
use Rattle.numbers.proofs.Laws.{one_outcome}
use Rattle.prediction.specs.Totals.{TotalsAnswer, totals_told}
use Rattle.prediction.specs.declared.totals.Totals.{Totals}

-- THEOREM.
pub one_total : (low high : ℕ) (r r' : Result Totals Refusal) → totals_told low high r ≡ totals_told low high r' → r ≡ r'
one_total low high r r' e =
    one_outcome {refused = λ n. record { number = n; low = low; high = high }} (λ (a : TotalsAnswer). a.number) (λ v. refl) (λ n. refl)
    (λ v v' h. ap (λ (a : TotalsAnswer). record { low = a.low; high = a.high }) h) r r' e
