-- What is copied is the part.
use Rattle.std.proofs.Common.{◌∙◌, ◌+◌, arith, refl}
use Rattle.residue.proofs.Parts.{part_range, part_tab}
use Rattle.residue.proofs.blocks.part_of.Goals as goal

pub returns : goal.returns
returns g c = c.copy_from_slice.ensures.after ∙ part_tab (part_range c.args.c.now c.args.i (c.args.i + g.row.N) g.row.N refl (omega arith))
