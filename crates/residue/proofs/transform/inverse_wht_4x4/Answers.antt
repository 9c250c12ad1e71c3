-- What the passes ask follows from the block's range.
use Rattle.residue.proofs.Ranges.{wht_fits}
use Rattle.residue.proofs.transform.inverse_wht_4x4.Goals as goal

pub inverse-requires-clause-fits : goal.inverse-requires-clause-fits
inverse-requires-clause-fits c = wht_fits c.requires
