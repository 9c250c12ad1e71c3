-- A number a turn.
use Rattle.std.proofs.Common.{◌+◌, ◌*◌}
use Rattle.residue.specs.Transform.{at}
use Rattle.quantisers.specs.Factors.{dequantised}
use Rattle.quantisers.specs.Inner.{sixteen, Spaced}
use Rattle.quantisers.proofs.levels.scale.Given as goal

abbrev pub invariant-loop-k : goal.invariant-loop-k
invariant-loop-k g l = Spaced l.fn.out l.out l.i g.row.STEP l.k (λ k. sixteen (dequantised (at l.levels (l.i + g.row.STEP * k)) l.factor))
