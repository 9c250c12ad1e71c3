-- `two_rows::mix_rows` meets its contract: each call of a closure is a step.
use Rattle.std.proofs.Common.{arith, rules}
use Rattle.sixteens.proofs.Calls.{two_laid}
use Rattle.sixteens.proofs.two_rows.mix_rows.Goals as goal

pub returns : goal.returns
returns g c = two_laid c.lay_two.ensures (omega arith) (λ k v h p. search rules) (λ k v h p. search rules)
