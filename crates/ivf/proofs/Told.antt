-- Two results of a call that are told alike are one: so its contract, on how its result is told, allows no two.
use Rattle.std.proofs.Common.{◌≡◌, refl, ap, ℕ, List, Result}
use Rattle.numbers.specs.declared.Refusal.{Refusal}
use Rattle.numbers.proofs.Laws.{one_outcome}
use Rattle.ivf.specs.Mending.{MendedAnswer, mended_told, refused}
use Rattle.ivf.specs.declared.Mended.{Mended}

-- THEOREM.
pub one_mended : (r r' : Result Mended Refusal) → mended_told r ≡ mended_told r' → r ≡ r'
one_mended r r' e =
    one_outcome {refused = refused} (λ (a : MendedAnswer). a.number) (λ v. refl) (λ n. refl)
    (λ v v' h. ap (λ (a : MendedAnswer). record { old_count = a.old_count; new_count = a.new_count; dropped = a.dropped }) h) r r' e
