-- `strips::filter_strips` meets its contract, by the table: steps of two taps clip nothing.
use Rattle.std.proofs.Common.{◌+◌, sym, ap₂, arith}
use Rattle.steps.proofs.Laws.Tallies.{rows_bilinear}
use Rattle.sixteens.proofs.strips.filter_strips.Goals as goal

pub returns-in-Bilinear-clause-tally_after : goal.returns-in-Bilinear-clause-tally_after
returns-in-Bilinear-clause-tally_after c =
    let a = c.args in
    let w = a.way in
    let e = c.in-Bilinear.is in
    sym
    (ap₂ ◌+◌
    (rows_bilinear a.rows 8 a.left.now a.l.at a.l.pitch w.mx w.my e (λ i. omega (arith, c.type_inv.left i)) w.across w.down)
    (rows_bilinear a.rows 8 a.right.now a.r.at a.r.pitch w.mx w.my e (λ i. omega (arith, c.type_inv.right i)) w.across w.down))
