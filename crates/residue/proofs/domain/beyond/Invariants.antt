-- The count is 0 exactly where all looked at lie inside.
use Rattle.std.proofs.Common.{◌≡◌, ◌↔◌, List, ℕ, ◌<◌, ◌≤◌, ℤ, nat_abs}
use Rattle.residue.specs.Transform.{at}
use Rattle.residue.proofs.domain.beyond.Given as goal

-- of the first k numbers so many lie outside -m .. m
pub record Counted (c : List ℤ) (m k bad : ℕ) : Type 0 where
  pub few : bad ≤ k
  pub is-0 : (bad ≡ 0) ↔ ((j : ℕ) → j < k → nat_abs (at c j) ≤ m)

abbrev pub invariant-loop-z : goal.invariant-loop-z
invariant-loop-z l = Counted l.c l.m l.z-index l.bad
