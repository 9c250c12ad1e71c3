-- `from_levels::reconstruct_inter_mb_from_levels` meets its contract: its coefficients do for the products. Assumes nothing.
use Rattle.std.proofs.Common.{◌∙◌}
use Rattle.rfc6386.specs.Vector.{lowering_of}
use Rattle.rfc6386.specs.Macroblock.{lent, whole}
use Rattle.quantisers.proofs.Keeping.{whole_finishes_alike}
use Rattle.reconstruction.proofs.from_levels.reconstruct_inter_mb_from_levels.Goals as goal

pub returns : goal.returns
returns c =
    let a = c.args in
    c.reconstruct_inter_mb.ensures
    ∙ whole_finishes_alike (whole a.set (lowering_of a.full_pixel) (lent a.y.now a.u.now a.v.now a.sizes) a.mb_col a.mb_row a.luma_mv) c.whole_coefficients-n.ensures.1
