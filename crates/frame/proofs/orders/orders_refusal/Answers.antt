-- `orders::orders_refusal` meets its contract: the first k orders are good. Assumes nothing.
use Rattle.std.proofs.Common.{◌≡◌, true, false, sym, ◌∙◌, subst, arith}
use Rattle.std.proofs.lemmas.Result.{err_from_is_err_and}
use Rattle.frame.specs.Frame.{any_bad}
use Rattle.frame.specs.Laws.{bad_found, good_none, good_more, orders_other, orders_told}
use Rattle.frame.proofs.Reading.{codes_good, codes_bad}
use Rattle.frame.proofs.orders.orders_refusal.Goals as goal

pub returns-then-orders-n : goal.returns-then-orders-n
returns-then-orders-n c = orders_other c.args.orders.now c.args.n (λ e. omega (arith, c.if-orders-n.true))

pub loop-k-init : goal.loop-k-init
loop-k-init c = good_none _

pub returns-in_err-codes : goal.returns-in_err-codes
returns-in_err-codes c =
    let o = c.args.orders.now in
    let p = err_from_is_err_and c.from_residual.result c.from_residual.ensures.1 in
    let b = codes_bad o c.loop-k.k (sym c.in_err-codes.ensures) in
    rw (p.1, p.2) (sym b.1 ∙ orders_told o c.args.n c.if-orders-n.false true (sym (bad_found o c.args.n c.loop-k.k c.loop-k-test.true b.0)))

pub loop-k-preserved : goal.loop-k-preserved
loop-k-preserved c = good_more _ c.loop-k.k c.loop-k.invariant (codes_good c.args.orders.now c.loop-k.k (sym c.in_ok-codes.ensures))

pub returns : goal.returns
returns c =
    let e : c.loop-k.k ≡ c.args.n = omega arith in
    orders_told c.args.orders.now c.args.n c.if-orders-n.false false (sym (subst (λ n. any_bad c.args.orders.now n ≡ false) e c.loop-k.invariant))
