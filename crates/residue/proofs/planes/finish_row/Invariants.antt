-- A block a turn.
use Rattle.std.proofs.Common.{◌+◌, ◌*◌}
use Rattle.residue.specs.Inner.{Area}
use Rattle.residue.proofs.Finishing.{in_row}
use Rattle.residue.proofs.planes.finish_row.Given as goal

abbrev pub invariant-loop-k : goal.invariant-loop-k
invariant-loop-k l = Area l.fn.d l.d l.i l.w l.y (l.y + 4) 0 (4 * l.k) (in_row l.fn.d l.i l.w l.y l.c l.from)
