-- `into::finish` meets its contract: it refuses by the first of three numbers that is not 0. Assumes nothing.
use Rattle.std.proofs.Common.{refl, sym}
use Rattle.std.proofs.lemmas.Result.{err_from_is_err_and}
use Rattle.numbers.proofs.Laws.{not_done}
use Rattle.rfc6386.proofs.Laws.Refusals.{or_else_first}
use Rattle.outputs.specs.Laws.{told-refused, told-done}
use Rattle.outputs.proofs.into.finish.Goals as goal

pub returns-in_err-predicted : goal.returns-in_err-predicted
returns-in_err-predicted c =
    let p = err_from_is_err_and c.from_residual.result c.from_residual.ensures.1 in
    let e = c.in_err-predicted.field-0.0 in
    rw (p.1, p.2, c.in_err-predicted.was) (told-refused _ _ _ _ (sym (or_else_first _ _ (not_done e))) (not_done e))

pub returns-in_err-codes : goal.returns-in_err-codes
returns-in_err-codes c =
    let p = err_from_is_err_and c.from_residual-in_err-codes.result c.from_residual-in_err-codes.ensures.1 in
    let e = c.in_err-codes.field-0.0 in
    rw (p.1, p.2, c.in_ok-predicted.was, c.in_err-codes.was) (told-refused _ _ _ _ (sym (or_else_first _ _ (not_done e))) (not_done e))

pub returns-in_err-room_refusal : goal.returns-in_err-room_refusal
returns-in_err-room_refusal c =
    let p = err_from_is_err_and c.from_residual-in_err-room_refusal.result c.from_residual-in_err-room_refusal.ensures.1 in
    rw (p.1, p.2, c.in_ok-predicted.was, c.in_ok-codes.was) (told-refused _ _ _ _ c.in_err-room_refusal.ensures (not_done c.in_err-room_refusal.field-0.0))

pub returns : goal.returns
returns c = rw (c.in_ok-predicted.was, c.in_ok-codes.was) (told-done _ _ _ _ c.in_ok-room_refusal.ensures _ refl c.write_samples.ensures)
