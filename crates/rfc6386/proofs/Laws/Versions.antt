-- What prediction by version answers: for a version with a meaning, and for a reserved one. Assumes nothing.
use Rattle.std.specs.Prelude.{◌≡◌, Bool, true, false, cond, List, ℕ, ◌<◌, ◌≤◌}
use Rattle.std.proofs.Math.Path.{refl, sym}
use Rattle.std.proofs.Common.{ap, ◌∙◌, le-ltb, lt-ltb}
use Rattle.rfc6386.specs.declared.Lowering.{Lowering}
use Rattle.rfc6386.specs.Filter.{version_set, version_profile}
use Rattle.rfc6386.specs.Macroblock.{Reference, whole, split}
use Rattle.rfc6386.specs.Version.{reserved_version, in_mode, by_profile, by_version, whole_by_version, split_by_version}
use Rattle.rfc6386.specs.declared.Mv.{Mv}
use Rattle.rfc6386.specs.declared.FilterSet.{FilterSet}
use Rattle.rfc6386.specs.declared.Profile.{Profile}
use Rattle.rfc6386.specs.Answer.{Prediction}

-- the rule, by what it lowers
pub in_mode_lem : (standard full : Bool) {l : Bool} → l ≡ (in_mode standard full).luma → record { luma = l; chroma = full } ≡ in_mode standard full
in_mode_lem false full e = λ i. record { luma = e i; chroma = full }
in_mode_lem true full e = λ i. record { luma = e i; chroma = full }

-- by the version's profile p, as a function found it
module _ (version : ℕ) (standard : Bool) {p : Profile} (is : p ≡ version_profile version) (predict : FilterSet → Lowering → Prediction) where
  pub refused_by_lem : p.reserved ≡ true → reserved_version ≡ by_version version standard predict
  refused_by_lem t = sym (ap (λ (b : Bool). cond b reserved_version (predict p.set (in_mode standard p.full_pixel))) t) ∙ ap (λ (q : Profile). by_profile standard q predict) is

  pub predicted_by : p.reserved ≡ false → predict p.set (in_mode standard p.full_pixel) ≡ by_version version standard predict
  predicted_by t = sym (ap (λ (b : Bool). cond b reserved_version (predict p.set (in_mode standard p.full_pixel))) t) ∙ ap (λ (q : Profile). by_profile standard q predict) is

-- by the number itself: 0 to 3 have a meaning, all others are reserved
meant : (version : ℕ) → version ≤ 3 → (version_profile version).reserved ≡ false
meant version h = le-ltb 3 version h

reserved : (version : ℕ) → 3 < version → (version_profile version).reserved ≡ true
reserved version h = lt-ltb 3 version h

-- the rule of a version in a mode
abbrev pub version_lowering : ℕ → Bool → Lowering
version_lowering version standard = in_mode standard (version_profile version).full_pixel

module _ (version : ℕ) (standard : Bool) (ref : Reference) (col row : ℕ) where
  -- THEOREM. With versions above 3 the calls by version refuse alike, by 10 and whatever else is at fault.
  pub whole_reserved : 3 < version → (v : Mv) → whole_by_version version standard ref col row v ≡ reserved_version
  unfolding whole_by_version
  whole_reserved h v = sym (refused_by_lem version standard refl (λ set low. whole set low ref col row v) (reserved version h))

  pub split_reserved : 3 < version → (vs : List Mv) → split_by_version version standard ref col row vs ≡ reserved_version
  unfolding split_by_version
  split_reserved h vs = sym (refused_by_lem version standard refl (λ set low. split set low ref col row vs) (reserved version h))

  -- THEOREM. With versions 0 to 3 they are whole and split prediction.
  pub whole_meant : version ≤ 3 → (v : Mv) → whole_by_version version standard ref col row v ≡ whole (version_set version) (version_lowering version standard) ref col row v
  unfolding whole_by_version
  whole_meant h v = sym (predicted_by version standard refl (λ set low. whole set low ref col row v) (meant version h))

  pub split_meant : version ≤ 3 → (vs : List Mv) → split_by_version version standard ref col row vs ≡ split (version_set version) (version_lowering version standard) ref col row vs
  unfolding split_by_version
  split_meant h vs = sym (predicted_by version standard refl (λ set low. split set low ref col row vs) (meant version h))
