-- Prediction by a frame's version number (RFC 6386, section 9.1): with the table and the rule of full-pixel that it asks for, and number 10,
-- before every other, where it is reserved. What full-pixel lowers is a matter of two modes: luma and chroma, as the Rust has it, or chroma
-- alone, as the reference decoder (section 20.14).
use Rattle.std.specs.Prelude.{Bool, true, false, cond, List, ℕ}
use Rattle.rfc6386.specs.Vector.{lowering_of}
use Rattle.rfc6386.specs.declared.Lowering.{Lowering}
use Rattle.rfc6386.specs.Filter.{version_profile}
use Rattle.rfc6386.specs.Macroblock.{Reference, whole, split}
use Rattle.rfc6386.specs.Answer.{no_samples, Prediction}
use Rattle.rfc6386.specs.declared.Mv.{Mv}
use Rattle.rfc6386.specs.declared.FilterSet.{FilterSet}
use Rattle.rfc6386.specs.declared.Profile.{Profile}

-- what a call with a reserved version answers
abbrev pub reserved_version : Prediction
reserved_version = record { number = 10; samples = no_samples }

-- what full-pixel lowers: in the first mode both, in the second, the standard's, chroma
abbrev pub in_mode : Bool → Bool → Lowering
in_mode false full = lowering_of full
in_mode true full = record { luma = false; chroma = full }

-- what a prediction, by table and rule, answers under a profile, in one of the two modes
abbrev pub by_profile : Bool → Profile → (FilterSet → Lowering → Prediction) → Prediction
by_profile standard p predict = cond p.reserved reserved_version (predict p.set (in_mode standard p.full_pixel))

abbrev pub by_version : ℕ → Bool → (FilterSet → Lowering → Prediction) → Prediction
by_version version standard = by_profile standard (version_profile version)

-- predict_inter_mb_by_version
unfoldable pub whole_by_version : ℕ → Bool → Reference → ℕ → ℕ → Mv → Prediction
whole_by_version version standard ref col row v = by_version version standard (λ set low. whole set low ref col row v)

-- predict_split_mv_by_version
unfoldable pub split_by_version : ℕ → Bool → Reference → ℕ → ℕ → List Mv → Prediction
split_by_version version standard ref col row vs = by_version version standard (λ set low. split set low ref col row vs)
