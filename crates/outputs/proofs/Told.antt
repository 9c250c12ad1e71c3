-- Two results of a call that are told alike are one: so its contract, on how its result is told, allows no two.
use Rattle.std.proofs.Common.{◌≡◌, refl, ap, ℕ, List, Result}
use Rattle.numbers.specs.declared.Refusal.{Refusal}
use Rattle.numbers.proofs.Laws.{one_outcome}
use Rattle.rfc6386.specs.Clips.{no_clips}
use Rattle.outputs.specs.Output.{EndedAnswer, ended_told}
use Rattle.outputs.specs.declared.into.Ended.{Ended}

-- THEOREM.
pub one_ended : (r r' : Result Ended Refusal) → ended_told r ≡ ended_told r' → r ≡ r'
one_ended r r' e =
    one_outcome {refused = λ n. record { number = n; fetched = 0; clips = no_clips }} (λ (a : EndedAnswer). a.number) (λ v. refl) (λ n. refl)
    (λ v v' h. ap (λ (a : EndedAnswer). record { fetched = a.fetched; clips = a.clips }) h) r r' e
