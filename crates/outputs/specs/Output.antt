-- The samples of a macroblock as 384 bytes, and what a call leaves that is lent an output for them.
use Rattle.std.specs.Prelude.{◌≡◌, List, ◌++◌, ℕ, length, Result}
use Rattle.rfc6386.specs.Clips.{no_clips}
use Rattle.rfc6386.specs.Refusal.{or_else, if_done, room_refusal}
use Rattle.rfc6386.specs.declared.ReconstructedMb.{ReconstructedMb}
use Rattle.rfc6386.specs.Answer.{Prediction, Report}
use Rattle.numbers.specs.declared.Refusal.{Refusal}
use Rattle.numbers.specs.Outcome.{outcome}
use Rattle.rfc6386.specs.declared.Clips.{Clips}
use Rattle.outputs.specs.declared.into.Ended.{Ended}

-- the samples of a macroblock one after the other
abbrev pub flat : ReconstructedMb → List ℕ
flat s = s.y ++ (s.u ++ s.v)

-- a call's number: the prediction's own, then that of its codes, then 7
abbrev pub call_number : Prediction → ℕ → List ℕ → ℕ
call_number p codes out = or_else p.number (or_else codes (room_refusal (length out)))

-- what a call leaves: its number r, and the output's bytes, which it keeps where it refuses
pub record Left (p : Prediction) (codes : ℕ) (out : List ℕ) (r : ℕ) (out' : List ℕ) : Type 0 where
  pub number_is : r ≡ call_number p codes out
  pub bytes_are : out' ≡ if_done (call_number p codes out) (flat p.samples) out

-- what a call says: its number, how many samples were fetched, and how many clipped
pub record EndedAnswer : Type 0 where
  pub number : ℕ
  pub fetched : ℕ
  pub clips : Clips

abbrev pub ended_told : Result Ended Refusal → EndedAnswer
ended_told r =
    outcome
    (λ e. record { number = 0; fetched = e.fetched; clips = e.clips })
    (λ n. record { number = n; fetched = 0; clips = no_clips })
    r

-- what a call leaves and says: nothing fetched and nothing clipped where it refuses
pub record Told (report : Report) (codes : ℕ) (out : List ℕ) (ended : EndedAnswer) (out' : List ℕ) : Type 0 where
  pub leaves : Left report.prediction codes out ended.number out'
  pub fetched_is : ended.fetched ≡ if_done (call_number report.prediction codes out) report.fetched 0
  pub clips_are : ended.clips ≡ if_done (call_number report.prediction codes out) report.clips no_clips
