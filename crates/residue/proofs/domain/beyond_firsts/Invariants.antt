-- None is found exactly where the blocks looked at lie inside.
use Rattle.std.proofs.Common.{◌≡◌, ◌↔◌, ◌*◌, false}
use Rattle.residue.specs.Inner.{Open}
use Rattle.residue.proofs.domain.beyond_firsts.Given as goal

abbrev pub invariant-loop-b : goal.invariant-loop-b
invariant-loop-b l = (l.bad ≡ false) ↔ Open l.c 16 (16 * l.b)
