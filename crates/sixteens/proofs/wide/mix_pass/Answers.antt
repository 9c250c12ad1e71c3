-- `wide::mix_pass` meets its contract: each turn lays two rows more, eight apart.
use Rattle.sixteens.proofs.Rows16.{halved_more, halved-raster}
use Rattle.sixteens.proofs.wide.mix_pass.Goals as goal

pub loop-r-preserved : goal.loop-r-preserved
loop-r-preserved c = halved_more c.loop-r.invariant c.loop-r-test.true c.mix_rows.ensures

pub returns : goal.returns
returns c = halved-raster c.loop-r.invariant c.loop-r-test.false
