-- Numbers that come one after the other, as results tell them. Assumes nothing.
use Rattle.std.specs.Prelude.{◌≡◌, ℕ, Bool, cond, eqb, Result, Ok, Err}
use Rattle.std.specs.Result.{result_or}
use Rattle.std.proofs.Common.{refl, sym, ap, ◌∙◌, ne_eqb}
use Rattle.numbers.specs.declared.Refusal.{Refusal}
use Rattle.numbers.specs.declared.Refusal.TheVariants.{Room}
use Rattle.numbers.specs.Outcome.{number_of, told}
use Rattle.numbers.proofs.Laws.{not_done}
use Rattle.rfc6386.specs.Refusal.{or_else}
use Rattle.rfc6386.proofs.Laws.Refusals.{or_else_first, or_else_next}

-- the number of the first refusal, and of one that comes after none
pub first_refused : (e : Refusal) {a : ℕ} (m : ℕ) → number_of e ≡ a → number_of e ≡ or_else a m
first_refused e {a} m h = h ∙ sym (or_else_first a m (λ z. not_done e (h ∙ z)))

pub next_told : {a n : ℕ} (m : ℕ) → 0 ≡ a → n ≡ m → n ≡ or_else a m
next_told {a} m h e = e ∙ sym (or_else_next a m (sym h))

-- 7 in place of any other
pub seven : (r : Result Unit Refusal) → told (result_or r (Err Room)) ≡ cond (eqb (told r) 0) 0 7
seven (Ok u) = refl
seven (Err e) = sym (ap (λ (b : Bool). cond b 0 7) (ne_eqb (number_of e) 0 (not_done e)))
