-- `square::clamped` meets its contract: the loop writes the rows, one a turn. Assumes nothing.
use Rattle.std.proofs.Common.{ap₂, ◌∙◌, ℤ, w64, to_z, of_z, to_z-of_z}
use Rattle.blocks.specs.Places.{clamped_rect, plane_at}
use Rattle.steps.proofs.Laws.Copying.{writing_all}
use Rattle.blocks.proofs.Squares.{clamped_more}
use Rattle.blocks.proofs.square.clamped.Goals as goal

pub loop-r-preserved : goal.loop-r-preserved
loop-r-preserved c =
    let a = c.args in
    clamped_more (plane_at a.plane.now a.at) (to_z w64 (of_z w64 a.x0)) (to_z w64 (of_z w64 a.y0)) c.loop-r.invariant c.loop-r-test.true c.clamp_at.ensures.0
    c.clamped_row.ensures

pub returns : goal.returns
returns c =
    let a = c.args in
    writing_all c.loop-r.invariant c.loop-r-test.false
    ∙ ap₂ (λ (x y : ℤ). clamped_rect (plane_at a.plane.now a.at) x y a.cols a.rows a.out.now) (to_z-of_z c.ranges.x0) (to_z-of_z c.ranges.y0)
