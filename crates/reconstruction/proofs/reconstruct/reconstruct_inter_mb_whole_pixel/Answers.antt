-- `reconstruct::reconstruct_inter_mb_whole_pixel` meets its contract: a prediction, finished. Assumes nothing.
use Rattle.std.proofs.Common.{ap, ◌∙◌, rules}
use Rattle.rfc6386.specs.Report.{whole_pixel_report}
use Rattle.residue.specs.Reconstruction.{whole_finished}
use Rattle.reconstruction.proofs.Laws.{samples_of}
use Rattle.reconstruction.proofs.reconstruct.reconstruct_inter_mb_whole_pixel.Goals as goal

pub returns : goal.returns
unfolding whole_pixel_report
returns c =
    c.finish_whole.ensures
    ∙ ap (whole_finished c.args.mb_skip_coeff c.args.coefficients.now) (samples_of c.predict_inter_mb_whole_pixel-report.result c.map.result _ (λ p s h. search rules) c.map.ensures.cases c.predict_inter_mb_whole_pixel-report.ensures)
