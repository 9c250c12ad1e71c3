-- The loop puts the samples in, one a turn.
use Rattle.residue.proofs.Areas.{Putting}
use Rattle.residue.proofs.adding.put_block.Given as goal

abbrev pub invariant-loop-k : goal.invariant-loop-k
invariant-loop-k l = Putting l.fn.d l.spot l.p l.d l.k
