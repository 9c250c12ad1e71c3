-- `finish::finish_split` meets its contract. Assumes nothing.
use Rattle.std.proofs.lemmas.Result.{err_from_is_err_and}
use Rattle.residue.specs.Coefficients.{split_refusal}
use Rattle.residue.specs.Reconstruction.{split_finished}
use Rattle.residue.proofs.Refused.{split_accepted, open_low}
use Rattle.reconstruction.proofs.Laws.{refused_first, refused_next, skipped, not_skipped, not_late}
use Rattle.reconstruction.proofs.finish.finish_split.Goals as goal

pub returns-in_err-predicted : goal.returns-in_err-predicted
unfolding split_finished
returns-in_err-predicted c =
    let p = err_from_is_err_and c.from_residual.result c.from_residual.ensures.1 in
    rw (p.1, p.2, c.in_err-predicted.was) (refused_first c.in_err-predicted.field-0.0 _ _)

pub returns-in_err-split_refusal : goal.returns-in_err-split_refusal
unfolding split_finished
returns-in_err-split_refusal c =
    let p = err_from_is_err_and c.from_residual-in_err-split_refusal.result c.from_residual-in_err-split_refusal.ensures.1 in
    rw (p.1, p.2, c.in_ok-predicted.was) (refused_next c.in_err-split_refusal.field-0.0 _ c.in_err-split_refusal.ensures)

pub returns-then-skip : goal.returns-then-skip
unfolding split_finished
returns-then-skip c = rw c.in_ok-predicted.was (skipped c.args.c.now c.in_ok-predicted.predicted c.in_ok-split_refusal.ensures c.if-skip.true)

pub finish_mb-requires : goal.finish_mb-requires
finish_mb-requires c =
    let a = split_accepted c.args.c.now (not_late split_refusal c.args.c.now c.in_ok-split_refusal.ensures c.if-skip.false) in
    (a.0, open_low a.1)

pub returns : goal.returns
unfolding split_finished
returns c = rw c.in_ok-predicted.was (not_skipped c.args.c.now c.in_ok-predicted.predicted c.in_ok-split_refusal.ensures c.if-skip.false c.finish_mb.ensures)
