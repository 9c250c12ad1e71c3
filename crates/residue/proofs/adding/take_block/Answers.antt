-- At its end the loop has filled all.
use Rattle.residue.proofs.Filling.{filled_all}
use Rattle.residue.proofs.adding.take_block.Goals as goal

pub returns : goal.returns
returns c = filled_all c.loop-k.invariant c.loop-k-test.false
