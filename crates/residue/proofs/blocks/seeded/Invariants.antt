-- The loop puts what Y2 gives into the first place of each block.
use Rattle.std.proofs.Common.{◌≡◌, List, ℕ, ◌*◌, ◌<◌, ◌≤◌, length, ℤ}
use Rattle.residue.specs.Transform.{at}
use Rattle.residue.proofs.blocks.seeded.Given as goal

-- b blocks of out have their first number from f, all else is l's
pub record Seeding (f l out : List ℤ) (b : ℕ) : Type 0 where
  pub most : b ≤ 16
  pub size : length out ≡ 384
  pub done : (j : ℕ) → j < b → at out (16 * j) ≡ at f j
  pub rest : (i : ℕ) → ((j : ℕ) → j < b → i ≡ 16 * j → ⊥) → at out i ≡ at l i

abbrev pub invariant-loop-b : goal.invariant-loop-b
invariant-loop-b l = Seeding l.first l.initial.out l.out l.b
