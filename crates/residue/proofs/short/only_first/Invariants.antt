-- The bits seen are 0 exactly where all numbers looked at are.
use Rattle.std.proofs.Common.{◌≡◌, ◌↔◌, List, ℕ, ◌<◌, ◌≤◌, ℤ, pos}
use Rattle.residue.specs.Transform.{at}
use Rattle.residue.proofs.short.only_first.Given as goal

-- z is what the loop has of the numbers 1 .. i - 1
pub record Seen (x : List ℤ) (i : ℕ) (z : ℤ) : Type 0 where
  pub least : 1 ≤ i
  pub most : i ≤ 16
  pub is-0 : (z ≡ pos 0) ↔ ((k : ℕ) → k < i → 1 ≤ k → at x k ≡ pos 0)

abbrev pub invariant-loop-i : goal.invariant-loop-i
invariant-loop-i l = Seen l.x l.i l.seen
