-- What a step leaves is a byte. Assumes nothing.
use Rattle.std.specs.Prelude.{◌≡◌, List, ℕ, ◌≤◌, ℤ}
use Rattle.std.proofs.Common.{sym, subst}
use Rattle.rfc6386.specs.Filter.{step}
use Rattle.rfc6386.proofs.Laws.Steps.{step_le}

pub a_byte : (ts : List ℤ) (ss : List ℕ) {v : ℕ} → v ≡ step ts ss → v ≤ 255
a_byte ts ss e = subst (λ (n : ℕ). n ≤ 255) (sym e) (step_le ts ss)
