-- A turn looks at two halves of a block.
use Rattle.std.proofs.Common.{◌≡◌, ◌↔◌, subst, arith, Bool, false, List, ℕ, ◌+◌, ◌-◌, ◌*◌, ◌<◌, ◌≤◌, ℤ, nat_abs}
use Rattle.std.specs.Prelude.{◌||◌}
use Rattle.rfc6386.proofs.Laws.Tests.{or-false}
use Rattle.residue.specs.Transform.{at}
use Rattle.residue.specs.Inner.{Low, Open}
use Rattle.residue.proofs.Areas.{either}
use Rattle.residue.proofs.Parts.{part_range, part_test}
use Rattle.residue.proofs.Refused.{or_none}
use Rattle.residue.proofs.domain.beyond_firsts.Goals as goal

-- two halves of a block
half : {c : List ℤ} (i k j : ℕ) → Low c i 8 4095 → i + k ≡ 16 + j → k < 8 → nat_abs (at c (16 + j)) ≤ 4095
half {c} i k j l e h = subst (λ (n : ℕ). nat_abs (at c n) ≤ 4095) e (l.low k h)

module _ {c : List ℤ} (b : ℕ) where
  both : Open c 16 (16 * b) → Low c (16 * b + 17) 8 4095 → Low c (16 * b + 24) 8 4095 → Open c 16 (16 * (b + 1))
  both o p q =
      record {
        low = λ k h n.
            either k (16 * b)
            (λ l. o.low k l n)
            (λ l.
            either (k - 16 * b) 9
            (λ m. half (16 * b + 17) (k - 16 * b - 1) k p (omega arith) (omega arith))
            (λ m. half (16 * b + 24) (k - 16 * b - 8) k q (omega arith) (omega arith)));
      }

  before : Open c 16 (16 * (b + 1)) → Open c 16 (16 * b)
  before o = record { low = λ k h n. o.low k (omega arith) n }

  lower : Open c 16 (16 * (b + 1)) → Low c (16 * b + 17) 8 4095
  lower o = record { low = λ k h. subst (λ (n : ℕ). nat_abs (at c n) ≤ 4095) (omega arith) (o.low (16 * b + (1 + k)) (omega arith) (λ e. omega arith)) }

  upper : Open c 16 (16 * (b + 1)) → Low c (16 * b + 24) 8 4095
  upper o = record { low = λ k h. subst (λ (n : ℕ). nat_abs (at c n) ≤ 4095) (omega arith) (o.low (16 * b + (8 + k)) (omega arith) (λ e. omega arith)) }

  -- a turn
  more : {bad r s : Bool} → (bad ≡ false) ↔ Open c 16 (16 * b) → (r ≡ false) ↔ Low c (16 * b + 17) 8 4095 → (s ≡ false) ↔ Low c (16 * b + 24) 8 4095
      → (bad || r || s ≡ false) ↔ Open c 16 (16 * (b + 1))
  more {bad} {r} {s} n p q = (
    λ e. let x = or-false (bad || r) s e in let y = or-false bad r x.0 in both (n.0 y.0) (p.0 y.1) (q.0 x.1),
    λ o. or_none (bad || r) s (or_none bad r (n.1 (before o)) (p.1 (lower o))) (q.1 (upper o)),
  )

pub loop-b-preserved : goal.loop-b-preserved
loop-b-preserved c =
    let l = c.args.c.now in
    let b = c.loop-b.b in
    more b c.loop-b.invariant
    (part_test (part_range l (16 * b + 17) (16 * b + 25) 8 (omega arith) (omega (arith, c.requires, c.loop-b-test.true))) c.beyond-low.ensures)
    (part_test (part_range l (16 * b + 24) (16 * b + 32) 8 (omega arith) (omega (arith, c.requires, c.loop-b-test.true))) c.beyond-high.ensures)

pub returns : goal.returns
returns c =
    let l = c.loop-b in
    let e : 16 * l.b ≡ 256 = omega (arith, l.auto.b-end, c.loop-b-test.false) in
    subst (λ (n : ℕ). (l.bad ≡ false) ↔ Open c.args.c.now 16 n) e l.invariant
