-- `square::fetch_pixels` fetches the square at the whole parts of the vector, into its rectangle. Assumes nothing.
use Rattle.std.proofs.Common.{arith}
use Rattle.blocks.proofs.Fetches.{placed, accepted, lent_x, lent_y, source_of}
use Rattle.blocks.proofs.square.fetch_pixels.Goals as goal

pub origin-x0-requires : goal.origin-x0-requires
origin-x0-requires c = lent_x c.args.lent

pub origin-y0-requires : goal.origin-y0-requires
origin-y0-requires c = lent_y c.args.lent

pub fetch-requires-clause-source : goal.fetch-requires-clause-source
fetch-requires-clause-source c =
    let x0 = placed _ c.args.mv.col c.origin-x0.result (lent_x c.args.lent) (omega arith) c.origin-x0.type_inv c.origin-x0.ensures in
    let y0 = placed _ c.args.mv.row c.origin-y0.result (lent_y c.args.lent) (omega arith) c.origin-y0.type_inv c.origin-y0.ensures in
    source_of (accepted c.args.lent) x0 y0 (omega arith, omega arith, omega arith, omega arith)
