-- The loop lays the samples and adds up their parts, one a turn.
use Rattle.std.proofs.Common.{◌≡◌, ℕ, ◌*◌, ◌<◌, ◌≤◌}
use Rattle.steps.proofs.Laws.Copying.{Laying}
use Rattle.steps.proofs.Laws.Tallies.{Tallying}
use Rattle.steps.proofs.lines.tallied.Given as goal

abbrev pub invariant-loop-i : goal.invariant-loop-i
invariant-loop-i g l = record {
  least : l.tally ≤ l.i * 513;
  laying : (f : ℕ → ℕ) → ((i : ℕ) → i < l.n → (s : _) → goal.F-post g l.step i s → s.sample ≡ f i) → Laying l.fn.dst l.to l.n f l.dst l.i;
  tallying : (h : ℕ → ℕ) → ((i : ℕ) → i < l.n → (s : _) → goal.F-post g l.step i s → s.part ≡ h i) → Tallying h l.i l.tally;
}
