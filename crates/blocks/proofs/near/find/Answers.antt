-- `near::find` meets its contract: the sums are exact, and what lies inside is told as natural numbers. Assumes nothing.
use Rattle.std.proofs.Common.{sym, arith}
use Rattle.rfc6386.proofs.Laws.Fetched.{length-square}
use Rattle.blocks.proofs.Squares.{near_as, starts}
use Rattle.blocks.proofs.Fetches.{accepted, lent_x, lent_y, halo_placed}
use Rattle.blocks.proofs.near.find.Goals as goal

pub origin-x0-requires : goal.origin-x0-requires
origin-x0-requires c = lent_x c.args.lent

pub origin-y0-requires : goal.origin-y0-requires
origin-y0-requires c = lent_y c.args.lent

pub inside-requires-clause-near : goal.inside-requires-clause-near
inside-requires-clause-near c =
    let x0 = halo_placed _ c.args.mv.col c.origin-x0.result (lent_x c.args.lent) (omega arith) c.origin-x0.type_inv c.origin-x0.ensures in
    let w = x0.within in
    near_as x0 (omega arith)

pub inside-requires-clause-size_bound : goal.inside-requires-clause-size_bound
inside-requires-clause-size_bound c = (accepted c.args.lent).width_most

pub inside-requires-then-inside-clause-near : goal.inside-requires-then-inside-clause-near
inside-requires-then-inside-clause-near c =
    let y0 = halo_placed _ c.args.mv.row c.origin-y0.result (lent_y c.args.lent) (omega arith) c.origin-y0.type_inv c.origin-y0.ensures in
    let w = y0.within in
    near_as y0 (omega arith)

pub inside-requires-then-inside-clause-size_bound : goal.inside-requires-then-inside-clause-size_bound
inside-requires-then-inside-clause-size_bound c = (accepted c.args.lent).height_most

pub returns-then-inside-2-clause-halo_at : goal.returns-then-inside-2-clause-halo_at
returns-then-inside-2-clause-halo_at c =
    let x0 = halo_placed _ c.args.mv.col c.origin-x0.result (lent_x c.args.lent) (omega arith) c.origin-x0.type_inv c.origin-x0.ensures in
    let y0 = halo_placed _ c.args.mv.row c.origin-y0.result (lent_y c.args.lent) (omega arith) c.origin-y0.type_inv c.origin-y0.ensures in
    record { across = starts x0 (c.inside.ensures c.if-inside.true); down = starts y0 (c.inside-then-inside.ensures c.if-inside-2.true) }

pub returns-then-inside-2-clause-fetched_value : goal.returns-then-inside-2-clause-fetched_value
returns-then-inside-2-clause-fetched_value c = sym (length-square _ _ _ _ _)
