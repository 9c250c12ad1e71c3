-- What the passes ask follows from the block's range.
use Rattle.std.proofs.Common.{arith}
use Rattle.residue.proofs.Ranges.{dct_fits}
use Rattle.residue.proofs.transform.inverse_dct_4x4.Goals as goal

pub inverse-requires-clause-fits : goal.inverse-requires-clause-fits
inverse-requires-clause-fits c = dct_fits (record { sfits = omega arith }) c.requires
