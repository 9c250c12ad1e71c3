-- Each way out by what the definition says there.
use Rattle.std.proofs.Common.{sym, ◌∙◌, arith, true, false}
use Rattle.residue.specs.Coefficients.{whole_beyond, whole_refusal}
use Rattle.residue.proofs.Refused.{counted_out, skipped, tried}
use Rattle.residue.proofs.domain.whole_refusal.Goals as goal
use Rattle.residue.proofs.domain.whole_refusal.Goals.{else-not-skip-via-then-not-skip+else-whole_beyond, else-not-skip-via-else-not-skip}

pub returns-then-c-ne400 : goal.returns-then-c-ne400
unfolding whole_refusal
returns-then-c-ne400 c = counted_out 400 c.args.skip whole_beyond c.args.c.now (λ e. omega arith)

pub returns-then-whole_beyond : goal.returns-then-whole_beyond
unfolding whole_refusal
returns-then-whole_beyond c = tried 400 c.args.skip whole_beyond c.args.c.now (omega arith) c.if-not-skip.true true (sym c.whole_beyond.ensures ∙ c.if-whole_beyond.true)

pub returns : goal.returns
unfolding whole_refusal
returns c =
    elim c.else-not-skip.branch [
      | else-not-skip-via-then-not-skip+else-whole_beyond w ↦
          tried 400 c.args.skip whole_beyond c.args.c.now (omega arith) w.if-not-skip.true false (sym w.whole_beyond.ensures ∙ w.if-whole_beyond.false)
      | else-not-skip-via-else-not-skip w ↦ skipped 400 c.args.skip whole_beyond c.args.c.now (omega arith) w.if-not-skip.false
    ]
