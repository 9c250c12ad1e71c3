-- `report::called` meets its contract: merging goes by whether the vectors are one. Assumes nothing.
use Rattle.std.proofs.Common.{◌≡◌, refl, sym, ap, ◌∙◌, subst, Bool, true, false, cond, List, T, Result, Ok}
use Rattle.numbers.specs.declared.Refusal.{Refusal}
use Rattle.rfc6386.specs.Vector.{One}
use Rattle.rfc6386.specs.Report.{is_one}
use Rattle.rfc6386.proofs.Laws.Fetched.{is_one_lem}
use Rattle.rfc6386.specs.declared.Mv.{Mv}
use Rattle.threshowl.specs.Boundary.{called}
use Rattle.threshowl.specs.declared.report.Kind.{Kind}
use Rattle.threshowl.specs.declared.report.Kind.TheVariants.{Whole, Split, Merging}
use Rattle.threshowl.proofs.report.called.Goals as goal

merged : {kind : Result Kind Refusal} {k : Kind} (vs : List Mv) (b : Bool) → kind ≡ Ok k → k ≡ Merging → is_one vs ≡ b → cond b Whole Split ≡ called kind vs
merged vs b e f g = sym (ap (λ (k : Result Kind Refusal). called k vs) (e ∙ ap Ok f) ∙ ap (λ (c : Bool). cond c Whole Split) g)

not_one : (vs : List Mv) → (One vs → ⊥) → is_one vs ≡ false
not_one vs h = at (is_one vs) refl
  where
    at : (b : Bool) → is_one vs ≡ b → b ≡ false
    at true e = absurd (h ((is_one_lem vs).0 e))
    at false e = refl

pub returns-then-are_one : goal.returns-then-are_one
returns-then-are_one c =
    merged c.args.mvs true c.in-Ok-Merging.is (rw c.in-Ok-Merging.is at c.in-Ok-Merging.field-0-is) ((is_one_lem c.args.mvs).1 (c.are_one.ensures.0 c.if-are_one.true))

pub returns-else-are_one : goal.returns-else-are_one
returns-else-are_one c =
    merged c.args.mvs false c.in-Ok-Merging.is (rw c.in-Ok-Merging.is at c.in-Ok-Merging.field-0-is) (not_one c.args.mvs (λ one. absurd (subst T (sym (c.are_one.ensures.1 one) ∙ c.if-are_one.false) tt)))
