-- `wide::filter_wide` meets its contract, by the table: steps of two taps clip nothing.
use Rattle.std.proofs.Common.{sym, arith}
use Rattle.steps.proofs.Laws.Tallies.{window_bilinear}
use Rattle.sixteens.proofs.wide.filter_wide.Goals as goal

pub returns-in-Bilinear-clause-tally_after : goal.returns-in-Bilinear-clause-tally_after
returns-in-Bilinear-clause-tally_after c =
    let a = c.args in
    sym
    (window_bilinear 16 a.src.now a.window.at a.window.pitch a.way.mx a.way.my c.in-Bilinear.is (λ i. omega (arith, c.type_inv.src i)) c.args.way.across c.args.way.down)
