-- `merges` has seen, before quarter q, none with one vector.
use Rattle.std.proofs.Common.{ℕ, ◌*◌, ◌/◌, ◌%◌, ◌<◌}
use Rattle.quarters.specs.Parts.{OneVector}
use Rattle.quarters.proofs.merges.Given as goal

abbrev pub invariant-loop-q : goal.invariant-loop-q
invariant-loop-q l = (k : ℕ) → k < l.q → OneVector l.fn.mvs (k % 2 * 8) (k / 2 * 8) 8 → ⊥
