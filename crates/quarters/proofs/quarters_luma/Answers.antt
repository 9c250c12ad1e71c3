-- `quarters_luma` is the square of side 16, or split's sixteen blocks. Assumes nothing.
use Rattle.std.proofs.Common.{refl, ◌∙◌}
use Rattle.rfc6386.specs.Vector.{lowering_of}
use Rattle.blocks.specs.Lents.{plane_in}
use Rattle.quarters.proofs.Parts.{part_all, takes_split}
use Rattle.quarters.proofs.quarters_luma.Goals as goal

pub returns-then-not-merges-clause-all_after : goal.returns-then-not-merges-clause-all_after
returns-then-not-merges-clause-all_after c =
    let a = c.args in
    c.split_luma.ensures.all_after ∙ takes_split a.set (lowering_of a.lower) (plane_in a.luma.lent) a.luma.lent.at.x a.luma.lent.at.y a.mvs (c.merges.ensures c.if-not-merges.true)

pub returns-clause-value : goal.returns-clause-value
returns-clause-value c = c.luma_square.ensures.out_after ∙ part_all _ _ _ _ _ _ refl
