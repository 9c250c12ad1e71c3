-- `reconstruct::reconstruct_split_mv_mb` meets its contract: a prediction, finished. Assumes nothing.
use Rattle.std.proofs.Common.{ap, ◌∙◌, rules}
use Rattle.rfc6386.specs.Report.{split_report}
use Rattle.residue.specs.Reconstruction.{split_finished}
use Rattle.reconstruction.proofs.Laws.{samples_of}
use Rattle.reconstruction.proofs.reconstruct.reconstruct_split_mv_mb.Goals as goal

pub returns : goal.returns
unfolding split_report
returns c =
    c.finish_split.ensures
    ∙ ap (split_finished c.args.mb_skip_coeff c.args.coefficients.now) (samples_of c.predict_split_mv-report.result c.map.result _ (λ p s h. search rules) c.map.ensures.cases c.predict_split_mv-report.ensures)
