-- What the calls leave that finish a macroblock: as those that predict it, with the residue added, and with a number that comes after all others.
use Rattle.std.specs.Prelude.{◌≡◌, Bool, cond, List, ◌++◌, ℕ, ℤ}
use Rattle.rfc6386.specs.declared.Lowering.{Lowering}
use Rattle.rfc6386.specs.Refusal.{or_else, if_done}
use Rattle.rfc6386.specs.Macroblock.{Reference, refusal, pixel_samples, answered}
use Rattle.residue.specs.Coefficients.{finished_plane}
use Rattle.residue.specs.Reconstruction.{finished_unless}
use Rattle.residue.specs.Inner.{piece}
use Rattle.outputs.specs.Output.{flat, call_number}
use Rattle.quantisers.specs.declared.QuantIndices.{QuantIndices}
use Rattle.rfc6386.specs.declared.Mv.{Mv}
use Rattle.rfc6386.specs.Answer.{Prediction}

-- the number of a call whose prediction, codes and output are refused as ever, and after them `late`
abbrev pub late_number : Prediction → ℕ → ℕ → List ℕ → ℕ
late_number p codes late out = or_else (call_number p codes out) late

-- what it leaves: its number r, and the output's bytes, the prediction's with the residue of c added unless it is skipped
pub record Finishes (p : Prediction) (codes late : ℕ) (skip : Bool) (c : List ℤ) (out : List ℕ) (r : ℕ) (out' : List ℕ) : Type 0 where
  pub number_is : r ≡ late_number p codes late out
  pub bytes_are : out' ≡ if_done (late_number p codes late out) (flat (finished_unless skip c p.samples)) out

-- prediction at whole pixels, without its number 8, which here comes after 7
abbrev pub pixels_at : Lowering → Reference → ℕ → ℕ → Mv → Prediction
pixels_at low ref col row v = answered (refusal ref col row) (pixel_samples low ref col row v)

-- ---- from levels: base index and deltas as they are handed over
abbrev pub quantiser : ℤ → ℤ → ℤ → ℤ → ℤ → ℤ → QuantIndices
quantiser base y_dc y2_dc y2_ac uv_dc uv_ac =
    record { y_ac_qi = base; y_dc_delta = y_dc; y2_dc_delta = y2_dc; y2_ac_delta = y2_ac; uv_dc_delta = uv_dc; uv_ac_delta = uv_ac }

-- ---- what the private functions that finish promise: the samples of a macroblock as 384 bytes
abbrev pub finished_bytes : Bool → List ℤ → List ℕ → List ℕ
finished_bytes skip c d =
    cond skip d (finished_plane 16 c 0 (piece d 0 256) ++ (finished_plane 8 c 256 (piece d 256 64) ++ finished_plane 8 c 320 (piece d 320 64)))
