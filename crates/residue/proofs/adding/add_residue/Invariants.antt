-- The loop fills the block from the front.
use Rattle.std.proofs.Common.{get_or}
use Rattle.residue.specs.Transform.{at, summed}
use Rattle.residue.proofs.Filling.{Filled}
use Rattle.residue.proofs.adding.add_residue.Given as goal

abbrev pub invariant-loop-k : goal.invariant-loop-k
invariant-loop-k l = Filled 0 16 (λ j. summed (get_or l.p j 0) (at l.x j)) l.out l.k
