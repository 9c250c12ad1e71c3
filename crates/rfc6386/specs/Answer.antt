-- What a call answers, by number: 0 or that of a refusal, and what goes with it, all zeros where the call refuses. And how the functions'
-- results are told so: a value with 0, a refusal by its number.
use Rattle.std.specs.Prelude.{ℕ, List, replicate, Result}
use Rattle.numbers.specs.declared.Refusal.{Refusal}
use Rattle.numbers.specs.Outcome.{outcome}
use Rattle.rfc6386.specs.Clips.{no_clips}
use Rattle.rfc6386.specs.declared.Clip.{Clip}
use Rattle.rfc6386.specs.declared.Clip.TheVariants.{None}
use Rattle.rfc6386.specs.declared.Clips.{Clips}
use Rattle.rfc6386.specs.declared.Sample.{Sample}
use Rattle.rfc6386.specs.declared.Block.{Block}
use Rattle.rfc6386.specs.declared.Fetched.{Fetched}
use Rattle.rfc6386.specs.declared.ReconstructedMb.{ReconstructedMb}
use Rattle.rfc6386.specs.declared.Predicted.{Predicted}

-- one filter step
pub record SampleAnswer : Type 0 where
  pub number : ℕ
  pub sample : ℕ
  pub clip : Clip

-- a filtered square, and how many of its samples are clipped
pub record BlockAnswer : Type 0 where
  pub number : ℕ
  pub clips : Clips
  pub samples : List ℕ

-- a fetched square, and how many samples were fetched
pub record FetchAnswer : Type 0 where
  pub number : ℕ
  pub samples : List ℕ
  pub fetched : ℕ

-- a macroblock
pub record Prediction : Type 0 where
  pub number : ℕ
  pub samples : ReconstructedMb

-- a macroblock, how many samples were fetched for it, and how many are clipped
pub record Report : Type 0 where
  pub prediction : Prediction
  pub fetched : ℕ
  pub clips : Clips

abbrev pub no_samples : ReconstructedMb
no_samples = record { y = replicate 256 0; u = replicate 64 0; v = replicate 64 0 }

-- ---- results, told by number
abbrev pub sample_told : Result Sample Refusal → SampleAnswer
sample_told r =
    outcome
    (λ s. record { number = 0; sample = s.sample; clip = s.clip })
    (λ n. record { number = n; sample = 0; clip = None })
    r

abbrev pub block_told : {area : ℕ} → Result (Block area) Refusal → BlockAnswer
block_told {area} r =
    outcome
    (λ b. record { number = 0; clips = b.clips; samples = b.samples })
    (λ n. record { number = n; clips = no_clips; samples = replicate area 0 })
    r

abbrev pub fetch_told : {area : ℕ} → Result (Fetched area) Refusal → FetchAnswer
fetch_told {area} r =
    outcome
    (λ f. record { number = 0; samples = f.samples; fetched = f.fetched })
    (λ n. record { number = n; samples = replicate area 0; fetched = 0 })
    r

abbrev pub prediction_told : Result ReconstructedMb Refusal → Prediction
prediction_told r = outcome (λ s. record { number = 0; samples = s }) (λ n. record { number = n; samples = no_samples }) r

abbrev pub report_told : Result Predicted Refusal → Report
report_told r =
    outcome
    (λ p. record { prediction = record { number = 0; samples = p.samples }; fetched = p.fetched; clips = p.clips })
    (λ n. record { prediction = record { number = n; samples = no_samples }; fetched = 0; clips = no_clips })
    r
