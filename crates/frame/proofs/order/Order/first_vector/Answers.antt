-- `Order::first_vector` meets its contract. Assumes nothing.
use Rattle.std.proofs.Common.{sym, ◌∙◌}
use mir.Syntax.{w16}
use Rattle.signed.specs.Held.{got}
use Rattle.frame.specs.Laws.{first-is}
use Rattle.frame.proofs.order.Order.first_vector.Goals as goal

pub returns : goal.returns
returns c =
    let row = c.read_i16 in
    let col = c.read_i16-2 in
    let order = c.args.self in
    cc ((got w16 row.result row.type_inv).is, (got w16 col.result col.type_inv).is) ∙ sym (first-is order.orders.now order.k order.inside)
