-- `one_vector` has seen, above row i of the piece's blocks, only its first vector.
use Rattle.std.proofs.Common.{◌≡◌, ℕ, ◌+◌, ◌*◌, ◌<◌}
use Rattle.rfc6386.specs.Vector.{sent}
use Rattle.quarters.proofs.one_vector.Given as goal

abbrev pub invariant-loop-i : goal.invariant-loop-i
invariant-loop-i l = (k : ℕ) → k < l.i → (j : ℕ) → j < l.n → sent l.fn.mvs (l.first + k * 4 + j) ≡ l.v
