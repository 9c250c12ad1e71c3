-- Y, then U and V.
use Rattle.quantisers.proofs.Writing.{planes_written}
use Rattle.quantisers.proofs.coefficients.scale_planes.Goals as goal

pub returns : goal.returns
returns c = planes_written c.args.levels.now c.args.f c.scale_blocks.ensures c.scale_blocks-2.ensures
