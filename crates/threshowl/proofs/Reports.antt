-- What a report by its kind comes to. Assumes nothing.
use mathlib.Core.Path.{◌≡◌, refl, sym, ap, ◌∙◌, subst}
use mathlib.Core.Bool.{Bool, true, false, cond}
use mathlib.Core.List.{List}
use Prim.Native.Nat.{ℕ, zero, suc}
use native.Mathlib.Omega.{arith}
use lib.Dec.{T}
use borrow.Author.Tests.{lt-ltb}
use Rattle.rfc6386.specs.Vector.{sent}
use Rattle.rfc6386.specs.declared.Lowering.{Lowering}
use Rattle.rfc6386.specs.Macroblock.{Reference}
use Rattle.rfc6386.specs.Report.{is_one, whole_report, split_report, merging_report, quarters_report}
use Rattle.rfc6386.proofs.Counts.{merging-whole, merging-split}
use Rattle.rfc6386.proofs.Laws.Fetched.{is_one_lem}
use Rattle.threshowl.specs.Boundary.{kind_coded, kind_refusal, called, report_of}
use Rattle.std.specs.Prelude.{Result, Ok}
use Rattle.std.specs.Result.{result_and}
use Rattle.numbers.specs.declared.Refusal.{Refusal}
use Rattle.numbers.specs.Outcome.{told}
use Rattle.threshowl.specs.declared.report.Kind.{Kind}
use Rattle.threshowl.specs.declared.report.Kind.TheVariants.{Whole, Split, Merging, Quarters}
use Rattle.rfc6386.specs.declared.Mv.{Mv}
use Rattle.rfc6386.specs.declared.FilterSet.{FilterSet}
use Rattle.rfc6386.specs.Answer.{Report}
use Rattle.outputs.specs.Output.{Told, EndedAnswer, ended_told}
use Rattle.outputs.specs.declared.into.Ended.{Ended}

-- the report of the kind that a call goes by, which is never merging
abbrev pub reported : Kind → FilterSet → Lowering → Reference → ℕ → ℕ → List Mv → Report
reported Whole set low ref col row vs = whole_report set low ref col row (sent vs 0)
reported Split set low ref col row vs = split_report set low ref col row vs
reported Merging set low ref col row vs = quarters_report set low ref col row vs
reported Quarters set low ref col row vs = quarters_report set low ref col row vs

module _ (set : FilterSet) (low : Lowering) (ref : Reference) (col row : ℕ) (vs : List Mv) where
  pub by_code : (code : ℕ) → reported (called (kind_coded code) vs) set low ref col row vs ≡ report_of code set low ref col row vs
  by_code zero = refl
  by_code (suc zero) = refl
  by_code (suc (suc zero)) = at (is_one vs) refl
    where
      at : (b : Bool) → is_one vs ≡ b → reported (cond b Whole Split) set low ref col row vs ≡ merging_report set low ref col row vs
      at true t = merging-whole low ref col row set vs ((is_one_lem vs).0 t)
      at false t = merging-split low ref col row set vs (λ one. absurd (subst T (sym ((is_one_lem vs).1 one) ∙ t) tt))
  by_code (suc (suc (suc zero))) = refl
  by_code (suc (suc (suc (suc n)))) = refl

  pub by_quarters : (k : Kind) → (k ≡ Whole → ⊥) → (k ≡ Split → ⊥) → reported k set low ref col row vs ≡ quarters_report set low ref col row vs
  by_quarters Whole h i = absurd (h refl)
  by_quarters Split h i = absurd (i refl)
  by_quarters Merging h i = refl
  by_quarters Quarters h i = refl

pub refused_code : (code : ℕ) → told (result_and (kind_coded code) (Ok tt)) ≡ kind_refusal code
refused_code zero = refl
refused_code (suc zero) = refl
refused_code (suc (suc zero)) = refl
refused_code (suc (suc (suc zero))) = refl
refused_code (suc (suc (suc (suc n)))) = sym (ap (λ (b : Bool). cond b 9 0) (lt-ltb 3 (suc (suc (suc (suc n)))) (omega arith)))

-- what a call told and left, where it is said otherwise
pub told_at : {p q : Report} {n : ℕ} {out out₁ out₂ : List ℕ} {a b : Result Ended Refusal} → p ≡ q → b ≡ a → out₂ ≡ out₁ → Told p n out (ended_told a) out₁ → Told q n out (ended_told b) out₂
told_at {n = n} {out} e f g t = subst (λ (x : Report × Result Ended Refusal × List ℕ). Told x.0 n out (ended_told x.1) x.2) (λ i. (e i, sym f i, sym g i)) t

-- what is said through pointers is what the call ended with
pub said : {p : Report} {n : ℕ} {out out' : List ℕ} {a b : EndedAnswer} → a ≡ b → Told p n out a out' → Told p n out b out'
said {p} {n} {out} {out'} e t = subst (λ (x : EndedAnswer). Told p n out x out') e t
