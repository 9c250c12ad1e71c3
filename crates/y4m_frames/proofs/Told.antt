-- Two results of a call that are told alike are one: so its contract, on how its result is told, allows no two.
use Rattle.std.proofs.Common.{◌≡◌, refl, ap, ℕ, List, Result}
use Rattle.numbers.specs.declared.Refusal.{Refusal}
use Rattle.numbers.proofs.Laws.{one_outcome}
use Rattle.y4m_frames.specs.Frames.{FrameAnswer, frame_told, stopped}

-- THEOREM.
pub one_frame_told : (r r' : Result ℕ Refusal) → frame_told r ≡ frame_told r' → r ≡ r'
one_frame_told r r' e =
    one_outcome {refused = stopped} (λ (a : FrameAnswer). a.number) (λ v. refl) (λ n. refl)
    (λ v v' h. ap (λ (a : FrameAnswer). a.bytes) h) r r' e
