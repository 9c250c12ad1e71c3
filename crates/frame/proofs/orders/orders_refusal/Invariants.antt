-- The loop of `orders::orders_refusal`: the first k orders are good.
use Rattle.std.proofs.Common.{◌≡◌, false}
use Rattle.frame.specs.Frame.{any_bad}
use Rattle.frame.proofs.orders.orders_refusal.Given as goal

abbrev pub invariant-loop-k : goal.invariant-loop-k
invariant-loop-k l = any_bad l.orders l.k ≡ false
