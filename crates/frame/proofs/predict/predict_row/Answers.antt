-- `predict::predict_row` meets its contract: the first macroblocks of the row are written, one more a turn. Assumes nothing.
use Rattle.std.proofs.Common.{ℕ, ◌<◌, refl}
use Rattle.frame.specs.Frame.{Asked, cols, rows}
use Rattle.frame.specs.Inner.{Ready}
use Rattle.frame.proofs.Filling.{row_begun, Turn, order_lies, order_good, small, y_place, u_place, v_place, order_accepted, order_full, row_on}
use Rattle.frame.specs.declared.Strides.{Strides}
use Rattle.frame.proofs.predict.predict_row.Goals as goal

-- a turn
turn : {a : Asked} {s : Strides} {y u v col row : ℕ} → Ready a s y u v → col < cols a → row < rows a → Turn a s y u v col row
turn r h k = record { ready = r; col_in = h; row_in = k }

pub loop-col-init : goal.loop-col-init
loop-col-init c = (refl, row_begun _ _ _ c.args.row)

pub order_into-requires-clause-order_lies : goal.order_into-requires-clause-order_lies
order_into-requires-clause-order_lies c = order_lies (turn c.requires.ready c.loop-col-test.true c.requires.row_bound)

pub order_into-requires-clause-good : goal.order_into-requires-clause-good
order_into-requires-clause-good c = order_good (turn c.requires.ready c.loop-col-test.true c.requires.row_bound) c.requires.good

pub order_into-requires-clause-row_value : goal.order_into-requires-clause-row_value
order_into-requires-clause-row_value c = order_accepted (turn c.requires.ready c.loop-col-test.true c.requires.row_bound)

pub put_macroblock-requires-clause-col_bound : goal.put_macroblock-requires-clause-col_bound
put_macroblock-requires-clause-col_bound c = small (turn c.requires.ready c.loop-col-test.true c.requires.row_bound)

pub put_macroblock-requires-clause-room : goal.put_macroblock-requires-clause-room
put_macroblock-requires-clause-room c = y_place (turn c.requires.ready c.loop-col-test.true c.requires.row_bound) c.loop-col.auto.out_y

pub put_macroblock-requires-clause-room_2 : goal.put_macroblock-requires-clause-room_2
put_macroblock-requires-clause-room_2 c = u_place (turn c.requires.ready c.loop-col-test.true c.requires.row_bound) c.loop-col.auto.out_u

pub put_macroblock-requires-clause-room_3 : goal.put_macroblock-requires-clause-room_3
put_macroblock-requires-clause-room_3 c = v_place (turn c.requires.ready c.loop-col-test.true c.requires.row_bound) c.loop-col.auto.out_v

pub loop-col-preserved : goal.loop-col-preserved
loop-col-preserved c =
    let T = turn c.requires.ready c.loop-col-test.true c.requires.row_bound in
    let left = c.order_into.ensures in
    let put = c.put_macroblock.ensures in
    (order_full T left, row_on T left c.loop-col.invariant.1 put.out_y_after put.out_u_after put.out_v_after)
