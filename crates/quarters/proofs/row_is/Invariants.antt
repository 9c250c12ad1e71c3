-- `row_is` has seen, before place i, only v.
use Rattle.std.proofs.Common.{◌≡◌, ℕ, ◌+◌, ◌<◌}
use Rattle.rfc6386.specs.Vector.{sent}
use Rattle.quarters.proofs.row_is.Given as goal

abbrev pub invariant-loop-i : goal.invariant-loop-i
invariant-loop-i l = (k : ℕ) → k < l.i → sent l.fn.mvs (l.from + k) ≡ l.v
