-- A row of blocks a turn.
use Rattle.std.proofs.Common.{◌*◌}
use Rattle.residue.specs.Inner.{Area}
use Rattle.residue.proofs.Finishing.{in_plane}
use Rattle.residue.proofs.planes.finish_plane.Given as goal

abbrev pub invariant-loop-k : goal.invariant-loop-k
invariant-loop-k l = Area l.fn.d l.d l.i l.w 0 (4 * l.k) 0 l.w (in_plane l.fn.d l.i l.w l.c l.from)
