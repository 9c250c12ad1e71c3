-- All numbers, then the first of each block.
use Rattle.std.proofs.Common.{◌+◌}
use Rattle.residue.specs.Transform.{at}
use Rattle.quantisers.specs.Factors.{dequantised}
use Rattle.quantisers.specs.Inner.{sixteen}
use Rattle.quantisers.proofs.Writing.{blocks_written}
use Rattle.quantisers.proofs.levels.scale_blocks.Goals as goal

pub returns : goal.returns
returns c =
    let a = c.args in
    blocks_written (λ k factor. sixteen (dequantised (at a.levels.now (a.i + k)) factor)) a.dc a.ac c.scale.ensures c.scale-2.ensures
