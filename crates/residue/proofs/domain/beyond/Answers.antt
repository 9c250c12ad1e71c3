-- At its end the loop has looked at all.
use Rattle.std.proofs.Common.{◌≡◌, ◌↔◌, refl, subst, arith, Bool, true, false, List, length, ℕ, ◌≤◌, ℤ, nat_abs, eqb-true, eq-eqb}
use Rattle.std.specs.Prelude.{not, eqb}
use Rattle.residue.specs.Transform.{at}
use Rattle.residue.specs.Inner.{Low}
use Rattle.residue.proofs.Refused.{true-not-false}
use Rattle.residue.proofs.domain.beyond.Invariants.{Counted}
use Rattle.residue.proofs.domain.beyond.Goals as goal

test : {c : List ℤ} {m k bad : ℕ} → Counted c m k bad → k ≡ length c → (t : Bool) → eqb bad 0 ≡ t → (not t ≡ false) ↔ Low c 0 (length c) m
test {c} {m} {k} {bad} N e true t =
    (λ f. record { low = λ j h. subst (λ (i : ℕ). nat_abs (at c i) ≤ m) (omega arith) (N.is-0.0 (eqb-true bad 0 t) j (omega arith)) }, λ l. refl)
test {c} {m} {k} {bad} N e false t = (
  λ f. true-not-false true refl f,
  λ l. true-not-false (eqb bad 0) (eq-eqb bad 0 (N.is-0.1 (λ j h. subst (λ (i : ℕ). nat_abs (at c i) ≤ m) (omega arith) (l.low j (omega arith))))) t,
)

pub returns : goal.returns
returns c = test c.loop-z.invariant (omega (arith, c.loop-z.auto.z-index-end, c.loop-z-test.false)) (eqb c.loop-z.bad 0) refl
