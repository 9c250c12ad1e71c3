-- Two results of a call that are told alike are one: so its contract, on how its result is told, allows no two.
use Rattle.std.proofs.Common.{◌≡◌, refl, ap, ℕ, List, Result}
use Rattle.numbers.specs.declared.Refusal.{Refusal}
use Rattle.numbers.proofs.Laws.{one_outcome}
use Rattle.std.proofs.Common.{replicate}
use Rattle.rfc6386.specs.Vector.{zero_vector}
use Rattle.rfc6386.specs.declared.Mv.{Mv}
use Rattle.entries.specs.Lists.{ListAnswer, list_told}

-- THEOREM.
pub one_list : (r r' : Result (List Mv) Refusal) → list_told r ≡ list_told r' → r ≡ r'
one_list r r' e =
    one_outcome {refused = λ n. record { number = n; mvs = replicate 16 zero_vector }} (λ (a : ListAnswer). a.number) (λ v. refl) (λ n. refl)
    (λ v v' h. ap (λ (a : ListAnswer). a.mvs) h) r r' e
