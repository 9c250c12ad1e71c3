-- The loop of `ivf::output::copy` has copied i bytes.
use Rattle.std.proofs.Common.{◌≡◌, ◌≤◌, length, drop}
use Rattle.std.proofs.Math.Seq.{paste}
use Rattle.ivf.proofs.output.copy.Given as goal

abbrev pub invariant-loop-i : goal.invariant-loop-i
invariant-loop-i l = (l.i ≤ l.n) × (length l.out ≡ length l.fn.out) × (l.out ≡ paste l.fn.out l.from (drop l.from l.file) l.i)
