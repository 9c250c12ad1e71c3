-- A turn puts one number into its place.
use Rattle.std.proofs.Common.{◌≡◌, sym, ap, ◌∙◌, subst, below_more, arith, List, ℕ, ◌+◌, ◌*◌, ◌/◌, ◌<◌, ◌≤◌, ℤ, pos, nat_abs, w16}
use Rattle.std.specs.Prelude.{cond}
use lib.ListN.{set, length-set}
use lib.Seq.{get_or-set_same, get_or-set_other}
use Rattle.signed.specs.Held.{got}
use Rattle.rfc6386.specs.Raster.{tab}
use Rattle.rfc6386.proofs.Laws.Raster.{is-tab, get_or-tab}
use Rattle.residue.specs.Transform.{at, inverse_wht}
use Rattle.residue.specs.Coefficients.{block, seeded_at, seeded}
use Rattle.residue.specs.Inner.{Low, Bounded}
use Rattle.residue.proofs.Refused.{first_cases}
use Rattle.residue.proofs.blocks.seeded.Invariants.{Seeding}
use Rattle.residue.proofs.blocks.seeded.Goals as goal

more : {f l out : List ℤ} {b : ℕ} {v : ℤ} → Seeding f l out b → b < 16 → v ≡ at f b → Seeding f l (set out (16 * b) v) (b + 1)
more {f} {l} {out} {b} {v} s h e =
    record {
      most = omega arith;
      size = length-set out (16 * b) v ∙ s.size;
      done =
          below_more (λ j. at (set out (16 * b) v) (16 * j) ≡ at f j) b
          (λ j m. get_or-set_other out (16 * b) (16 * j) v (pos 0) (λ q. omega arith) ∙ s.done j m)
          (get_or-set_same out (16 * b) v (pos 0) (omega (arith, s.size)) ∙ e);
      rest = λ i q. get_or-set_other out (16 * b) i v (pos 0) (λ p. q b (omega arith) (omega arith)) ∙ s.rest i (λ j m. q j (omega arith));
    }

all : (c : List ℤ) {f l out : List ℤ} {b : ℕ} → f ≡ inverse_wht (block c 0) → l ≡ tab 384 (λ i. at c (16 + i)) → Seeding f l out b → 16 ≤ b → out ≡ seeded c
unfolding seeded
all c {f} {l} {out} {b} ef el s h =
    is-tab (pos 0) 384 (seeded_at c) out s.size
    (λ i k.
    first_cases i (λ t. at out i ≡ cond t (at (inverse_wht (block c 0)) (i / 16)) (at c (16 + i)))
    (λ p q.
    let e : i ≡ 16 * (i / 16) = omega arith in
    ap (at out) e ∙ s.done (i / 16) (omega arith) ∙ ap (λ (x : List ℤ). at x (i / 16)) ef)
    (λ q. s.rest i (λ j m e. q (omega (arith, s.most)) (omega arith)) ∙ ap (λ (x : List ℤ). at x i) el ∙ get_or-tab 384 (λ i. at c (16 + i)) i (pos 0) k))

bounded : (c : List ℤ) → Low c 0 16 16383 → Bounded 0 16383 (block c 0)
unfolding block
bounded c l = record { small = λ k p q. subst (λ (z : ℤ). nat_abs z ≤ 16383) (sym (get_or-tab 16 (λ k. at c (0 + k)) k (pos 0) q)) (l.low k q) }

pub inverse_wht_quick-first-requires : goal.inverse_wht_quick-first-requires
unfolding block
inverse_wht_quick-first-requires c = subst (Bounded 0 16383) (sym c.part_of.ensures) (bounded c.args.c.now c.requires.low)

pub loop-b-preserved : goal.loop-b-preserved
loop-b-preserved c = more c.loop-b.invariant c.loop-b-test.true (got w16 (at c.inverse_wht_quick-first.result c.loop-b.b) (omega arith)).is

pub returns : goal.returns
unfolding block
returns c = all c.args.c.now (c.inverse_wht_quick-first.ensures ∙ ap inverse_wht c.part_of.ensures) c.part_of-out.ensures c.loop-b.invariant c.loop-b-test.false
