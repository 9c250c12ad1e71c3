-- Laws that the proofs of this crate share. Assumes nothing.
use mathlib.Core.Path.{◌≡◌, refl, sym, ap, ◌∙◌, subst}
use mathlib.Core.Bool.{Bool, true}
use mathlib.Core.List.{List}
use Prim.Native.Nat.{ℕ, zero, suc}
use native.Mathlib.Omega.{arith}
use Rattle.rfc6386.specs.declared.Lowering.{Lowering}
use Rattle.rfc6386.specs.Filter.{version_profile}
use Rattle.std.specs.Prelude.{Result, Ok, Err}
use Rattle.std.specs.Result.{result_and}
use Rattle.numbers.specs.declared.Refusal.{Refusal}
use Rattle.numbers.specs.Outcome.{number_of, told}
use Rattle.numbers.proofs.Laws.{not_done}
use Rattle.rfc6386.proofs.Laws.Refusals.{or_else_first}
use Rattle.rfc6386.specs.Refusal.{or_else, count_refusal}
use Rattle.rfc6386.specs.Macroblock.{Reference, whole, split}
use Rattle.rfc6386.specs.Report.{whole_report, split_report, quarters_report}
use Rattle.rfc6386.specs.declared.Mv.{Mv}
use Rattle.rfc6386.specs.Version.{reserved_version, by_version}
use Rattle.rfc6386.proofs.Laws.Versions.{refused_by_lem}
use Rattle.outputs.specs.Output.{Left, EndedAnswer, Told}
use Rattle.outputs.specs.Laws.{left_as, left-refused}
use Rattle.threshowl.specs.Boundary.{set_of}
use Rattle.rfc6386.specs.declared.FilterSet.{FilterSet}
use Rattle.rfc6386.specs.declared.FilterSet.TheVariants.{Bilinear}
use Rattle.rfc6386.specs.declared.Profile.{Profile}
use Rattle.rfc6386.specs.Answer.{Prediction}

pub set_other : (n : ℕ) → (n ≡ 0 → ⊥) → Bilinear ≡ set_of n
set_other zero h = absurd (h refl)
set_other (suc n) h = refl

or_none : (n : ℕ) → or_else n 0 ≡ n
or_none zero = refl
or_none (suc n) = refl

-- one test after the other
pub told_and : (a b : Result Unit Refusal) → told (result_and a b) ≡ or_else (told a) (told b)
told_and (Ok u) b = refl
told_and (Err e) b = sym (or_else_first (number_of e) (told b) (not_done e))

-- 64 bytes, as sixteen vectors have, leave the number n of the other codes
pub codes_as : (n count : ℕ) → count ≡ 64 → n ≡ or_else n (count_refusal 64 count)
codes_as n count e = sym (or_none n) ∙ ap (λ (m : ℕ). or_else n (count_refusal 64 m)) (sym e)

left_is : {p : Prediction} {codes r s : ℕ} {out out' : List ℕ} → r ≡ s → Left p codes out s out' → Left p codes out r out'
left_is {p} {codes} {out = out} {out'} e = subst (λ (n : ℕ). Left p codes out n out') (sym e)

-- ---- what a call leaves, at what its table, its lowering, its vectors, its codes and its number are
module _ (ref : Reference) (col row : ℕ) (out : List ℕ) {set set' : FilterSet} {low low' : Lowering} {codes codes' r : ℕ} {out' : List ℕ} {ended : EndedAnswer}
    (e : set ≡ set') (l : low ≡ low') (f : codes ≡ codes') (g : r ≡ ended.number) where
  pub whole_left : {v v' : Mv} → v ≡ v' → Told (whole_report set low ref col row v) codes out ended out' → Left (whole set' low' ref col row v') codes' out r out'
  unfolding whole_report
  whole_left k t = left_is g (left_as (λ i. whole (e i) (l i) ref col row (k i)) f t.leaves)

  pub split_left : {vs vs' : List Mv} → vs ≡ vs' → Told (split_report set low ref col row vs) codes out ended out' → Left (split set' low' ref col row vs') codes' out r out'
  unfolding split_report
  split_left k t = left_is g (left_as (λ i. split (e i) (l i) ref col row (k i)) f t.leaves)

  pub quarters_left : {vs vs' : List Mv} → vs ≡ vs' → Told (quarters_report set low ref col row vs) codes out ended out' → Left (split set' low' ref col row vs') codes' out r out'
  unfolding quarters_report
  quarters_left k t = left_is g (left_as (λ i. split (e i) (l i) ref col row (k i)) f t.leaves)

-- ---- a call by version, whose profile p says that the version is reserved
module _ (version : ℕ) (standard : Bool) {p : Profile} (is : p ≡ version_profile version) (predict : FilterSet → Lowering → Prediction) where
  pub left_reserved : (codes : ℕ) (out : List ℕ) {n : ℕ} → n ≡ 10 → p.reserved ≡ true → Left (by_version version standard predict) codes out n out
  left_reserved codes out e r =
      left_is e (left_as (refused_by_lem version standard is predict r) refl (left-refused reserved_version codes out 10 refl (λ z. omega arith)))
