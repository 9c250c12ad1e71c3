-- Each way out by what the definition says there.
use Rattle.std.proofs.Common.{◌≡◌, ◌↔◌, sym, ◌∙◌, arith, Bool, true, false, List, length, ℤ}
use Rattle.residue.specs.Coefficients.{split_beyond, split_refusal}
use Rattle.residue.specs.Inner.{Low}
use Rattle.residue.proofs.Parts.{part_all, part_test}
use Rattle.residue.proofs.Refused.{split_low, low_split, same_test, counted_out, skipped, tried}
use Rattle.residue.proofs.domain.split_refusal.Goals as goal
use Rattle.residue.proofs.domain.split_refusal.Goals.{else-not-skip-via-then-not-skip+else-beyond, else-not-skip-via-else-not-skip}

found : (c : List ℤ) {r : Bool} → length c ≡ 384 → (r ≡ false) ↔ Low c 0 (length c) 4095 → split_beyond c ≡ r
found c {r} n e = sym (same_test r (split_beyond c) (part_test (part_all c 384 n) e) (split_low c) (low_split c))

pub returns-then-c-ne384 : goal.returns-then-c-ne384
unfolding split_refusal
returns-then-c-ne384 c = counted_out 384 c.args.skip split_beyond c.args.c.now (λ e. omega arith)

pub returns-then-beyond : goal.returns-then-beyond
unfolding split_refusal
returns-then-beyond c = tried 384 c.args.skip split_beyond c.args.c.now (omega arith) c.if-not-skip.true true (found c.args.c.now (omega arith) c.beyond.ensures ∙ c.if-beyond.true)

pub returns : goal.returns
unfolding split_refusal
returns c =
    elim c.else-not-skip.branch [
      | else-not-skip-via-then-not-skip+else-beyond w ↦
          tried 384 c.args.skip split_beyond c.args.c.now (omega arith) w.if-not-skip.true false (found c.args.c.now (omega arith) w.beyond.ensures ∙ w.if-beyond.false)
      | else-not-skip-via-else-not-skip w ↦ skipped 384 c.args.skip split_beyond c.args.c.now (omega arith) w.if-not-skip.false
    ]
