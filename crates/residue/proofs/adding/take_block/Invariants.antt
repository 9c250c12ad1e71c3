-- The loop fills the block from the front.
use Rattle.std.proofs.Common.{◌+◌, ◌*◌, ◌/◌, ◌%◌, get_or}
use Rattle.residue.proofs.Filling.{Filled}
use Rattle.residue.proofs.adding.take_block.Given as goal

abbrev pub invariant-loop-k : goal.invariant-loop-k
invariant-loop-k l = Filled 0 16 (λ k. get_or l.d (l.spot.i + ((l.spot.y + k / 4) * l.spot.w + (l.spot.x + k % 4))) 0) l.p l.k
