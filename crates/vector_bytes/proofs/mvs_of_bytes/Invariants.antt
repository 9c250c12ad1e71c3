-- The loop has read the first i vectors.
use Rattle.std.proofs.Common.{◌≡◌, ℕ, ◌<◌, ◌≤◌, length, get_or}
use Rattle.rfc6386.specs.Vector.{zero_vector}
use Rattle.vector_bytes.specs.Bytes.{vector_at}
use Rattle.vector_bytes.proofs.mvs_of_bytes.Given as goal

abbrev pub invariant-loop-i : goal.invariant-loop-i
invariant-loop-i l = (l.i ≤ 16) × (length l.mvs ≡ 16) × ((k : ℕ) → k < l.i → get_or l.mvs k zero_vector ≡ vector_at l.b k)
