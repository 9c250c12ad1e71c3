-- `square::fetch` meets its contract: both ways make the square, by laws that hold at any size. Assumes nothing.
use Rattle.std.proofs.Common.{sym, ◌*◌, ◌≤◌, mul-le-mul}
use lib.ListN.{replicate}
use mir.Syntax.{w64}
use Rattle.signed.specs.Held.{Held, par_in}
use Rattle.rfc6386.proofs.Laws.Fetched.{length-square}
use Rattle.blocks.specs.Lents.{plane_in}
use Rattle.blocks.proofs.Squares.{square_as, starts, plain_held, plain_is, corner_is, put-square}
use Rattle.blocks.proofs.square.fetch.Goals as goal

pub copy_rect-requires-clause-held : goal.copy_rect-requires-clause-held
copy_rect-requires-clause-held c =
    let x0 = par_in c.ranges.x0 c.requires.source.near_x in
    let y0 = par_in c.ranges.y0 c.requires.source.near_y in
    plain_held c.requires.source.fits (starts x0 (c.inside.ensures c.if-inside.true)) (starts y0 (c.inside-then-inside.ensures c.if-inside-2.true))

pub returns-then-inside-2-clause-out_after : goal.returns-then-inside-2-clause-out_after
returns-then-inside-2-clause-out_after c =
    let x0 = par_in c.ranges.x0 c.requires.source.near_x in
    let y0 = par_in c.ranges.y0 c.requires.source.near_y in
    put-square _ _ _ _ _ _ c.copy_rect.ensures
    (plain_is c.requires.source.fits (starts x0 (c.inside.ensures c.if-inside.true)) (starts y0 (c.inside-then-inside.ensures c.if-inside-2.true)))

pub returns-then-inside-2-clause-value : goal.returns-then-inside-2-clause-value
returns-then-inside-2-clause-value c = sym (length-square _ _ _ _ _)

pub returns-clause-out_after : goal.returns-clause-out_after
returns-clause-out_after c =
    let a = c.args in
    let x0 : Held w64 a.x0 1048576 1048576 = par_in c.ranges.x0 c.requires.source.near_x in
    let y0 : Held w64 a.y0 1048576 1048576 = par_in c.ranges.y0 c.requires.source.near_y in
    let fits : a.rows * a.cols ≤ 441 = mul-le-mul {n₂ = 21} {m₂ = 21} c.requires.n_le_rows.1 c.requires.le_n.2 in
    put-square _ _ _ _ _ _ c.copy_rect-2.ensures
    (square_as x0 y0 _ _ (corner_is (plane_in a.lent) x0.val y0.val (replicate 441 0) c.requires.le_n.1 c.requires.n_le_rows.0 fits c.clamped.ensures))

pub returns-clause-value : goal.returns-clause-value
returns-clause-value c = sym (length-square _ _ _ _ _)
