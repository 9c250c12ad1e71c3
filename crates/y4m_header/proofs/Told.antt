-- Two results of a call that are told alike are one: so its contract, on how its result is told, allows no two.
use Rattle.std.proofs.Common.{◌≡◌, refl, ap, ℕ, List, Result}
use Rattle.numbers.specs.declared.Refusal.{Refusal}
use Rattle.numbers.proofs.Laws.{one_outcome}
use Rattle.y4m_header.specs.HeaderLine.{HeaderAnswer, header_told}
use Rattle.y4m_header.specs.declared.Header.{Header}

-- THEOREM.
pub one_header_told : (r r' : Result Header Refusal) → header_told r ≡ header_told r' → r ≡ r'
one_header_told r r' e =
    one_outcome {refused = λ n. record { number = n; width = 0; height = 0; taken = 0 }} (λ (a : HeaderAnswer). a.number) (λ v. refl) (λ n. refl)
    (λ v v' h. ap (λ (a : HeaderAnswer). record { width = a.width; height = a.height; taken = a.taken }) h) r r' e
