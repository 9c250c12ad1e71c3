-- What the calls that finish a macroblock answer: a prediction with the residue added (RFC 6386, section 14.5). The prediction's own number comes
-- first, then 11; with the skip flag the samples are the prediction's.
use Rattle.std.specs.Prelude.{Bool, cond, List, ℤ}
use Rattle.rfc6386.specs.Refusal.{or_else}
use Rattle.rfc6386.specs.Macroblock.{answered}
use Rattle.residue.specs.Coefficients.{seeded, finished, whole_refusal, split_refusal}
use Rattle.rfc6386.specs.declared.ReconstructedMb.{ReconstructedMb}
use Rattle.rfc6386.specs.Answer.{Prediction}

abbrev pub finished_unless : Bool → List ℤ → ReconstructedMb → ReconstructedMb
finished_unless skip c s = cond skip s (finished c s)

-- reconstruct_inter_mb and reconstruct_inter_mb_whole_pixel, of 400 coefficients
unfoldable pub whole_finished : Bool → List ℤ → Prediction → Prediction
whole_finished skip c p = answered (or_else p.number (whole_refusal skip c)) (finished_unless skip (seeded c) p.samples)

-- reconstruct_split_mv_mb, of 384
unfoldable pub split_finished : Bool → List ℤ → Prediction → Prediction
split_finished skip c p = answered (or_else p.number (split_refusal skip c)) (finished_unless skip c p.samples)
