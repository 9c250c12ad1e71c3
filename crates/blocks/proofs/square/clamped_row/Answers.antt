-- `square::clamped_row` meets its contract: the loop lays the row, one sample a turn. Assumes nothing.
use Rattle.std.proofs.Common.{ap, ◌∙◌, ℤ, to_z-of_z}
use Rattle.blocks.specs.Places.{clamped_row}
use Rattle.steps.proofs.Laws.Copying.{laying_all}
use Rattle.blocks.proofs.square.clamped_row.Goals as goal

pub returns : goal.returns
returns c =
    let a = c.args in
    laying_all c.loop-c.invariant c.loop-c-test.false ∙ ap (λ (z : ℤ). clamped_row a.plane.now a.at a.w z a.n a.out.now a.to) (to_z-of_z c.ranges.x0)
