-- `sided::filter_square` meets its contract: a block of both fractions 0 clips nothing.
use Rattle.steps.proofs.Laws.Tallies.{whole_tally}
use Rattle.filters.proofs.sided.filter_square.Goals as goal

pub returns-then-way-eq0-2-clause-value : goal.returns-then-way-eq0-2-clause-value
returns-then-way-eq0-2-clause-value g c = whole_tally g.row.SIDE c.args.way.set _ c.if-way-eq0.true c.if-way-eq0-2.true
