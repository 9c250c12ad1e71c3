-- `finish::finish_whole` meets its contract. Assumes nothing.
use Rattle.std.proofs.Common.{length, sym, ap, ◌∙◌, subst}
use Rattle.std.proofs.lemmas.Result.{err_from_is_err_and}
use Rattle.residue.specs.Coefficients.{seeded, finished, whole_refusal}
use Rattle.residue.specs.Reconstruction.{whole_finished}
use Rattle.residue.specs.Inner.{Open}
use Rattle.residue.proofs.Refused.{whole_accepted, open-seeded, length-seeded}
use Rattle.reconstruction.proofs.Laws.{refused_first, refused_next, skipped, not_skipped, not_late}
use Rattle.reconstruction.proofs.finish.finish_whole.Goals as goal

pub returns-in_err-samples : goal.returns-in_err-samples
unfolding whole_finished
returns-in_err-samples c =
    let p = err_from_is_err_and c.from_residual.result c.from_residual.ensures.1 in
    rw (p.1, p.2, c.in_err-samples.was) (refused_first c.in_err-samples.field-0.0 _ _)

pub returns-in_err-whole_refusal : goal.returns-in_err-whole_refusal
unfolding whole_finished
returns-in_err-whole_refusal c =
    let p = err_from_is_err_and c.from_residual-in_err-whole_refusal.result c.from_residual-in_err-whole_refusal.ensures.1 in
    rw (p.1, p.2, c.in_ok-samples.was) (refused_next c.in_err-whole_refusal.field-0.0 _ c.in_err-whole_refusal.ensures)

pub returns-then-skip : goal.returns-then-skip
unfolding whole_finished
returns-then-skip c = rw c.in_ok-samples.was (skipped (seeded c.args.c.now) c.in_ok-samples.samples c.in_ok-whole_refusal.ensures c.if-skip.true)

pub seeded-requires-clause-c_len : goal.seeded-requires-clause-c_len
seeded-requires-clause-c_len c = (whole_accepted c.args.c.now (not_late whole_refusal c.args.c.now c.in_ok-whole_refusal.ensures c.if-skip.false)).0

pub seeded-requires-clause-low : goal.seeded-requires-clause-low
seeded-requires-clause-low c = (whole_accepted c.args.c.now (not_late whole_refusal c.args.c.now c.in_ok-whole_refusal.ensures c.if-skip.false)).1.y2

pub finish_mb-requires : goal.finish_mb-requires
finish_mb-requires c =
    let a = whole_accepted c.args.c.now (not_late whole_refusal c.args.c.now c.in_ok-whole_refusal.ensures c.if-skip.false) in
    let e = c.seeded.ensures in
    (ap length e ∙ length-seeded c.args.c.now, subst (λ l. Open l 0 384) (sym e) (open-seeded a.1))

pub returns : goal.returns
unfolding whole_finished
returns c =
    rw c.in_ok-samples.was
    (not_skipped (seeded c.args.c.now) c.in_ok-samples.samples c.in_ok-whole_refusal.ensures c.if-skip.false
    (c.finish_mb.ensures ∙ ap (λ l. finished l c.in_ok-samples.samples) c.seeded.ensures))
