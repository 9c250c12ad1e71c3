-- `numbered::frame_refusal` meets its contract: each number comes after those before it. Assumes nothing.
use Rattle.std.proofs.Common.{ℕ, ◌*◌, ◌≤◌, refl, sym, arith}
use Rattle.std.proofs.Math.Nat.{mul-le-mul}
use Rattle.std.proofs.lemmas.Result.{err_from_is_err_and}
use Rattle.rfc6386.specs.Refusal.{Sized}
use Rattle.frame.specs.Frame.{frame_number}
use Rattle.frame.specs.Laws.{references-sized}
use Rattle.frame.specs.Inner.{references_in}
use Rattle.frame.proofs.Numbers.{first_refused, next_told}
use Rattle.frame.proofs.numbered.frame_refusal.Goals as goal

few : {cols rows : ℕ} → Sized cols rows → rows * cols ≤ 1048576
few S = omega (arith, mul-le-mul S.rows_most S.cols_most)

pub returns-in_err-references_refusal : goal.returns-in_err-references_refusal
unfolding frame_number
returns-in_err-references_refusal c =
    let p = err_from_is_err_and c.from_residual.result c.from_residual.ensures.1 in
    rw (p.1, p.2) (first_refused c.in_err-references_refusal.field-0.0 _ c.in_err-references_refusal.ensures)

pub returns-in_err-codes : goal.returns-in_err-codes
unfolding frame_number
returns-in_err-codes c =
    let p = err_from_is_err_and c.from_residual-in_err-codes.result c.from_residual-in_err-codes.ensures.1 in
    rw (p.1, p.2, c.in_err-codes.was) (next_told _ c.in_ok-references_refusal.ensures (first_refused c.in_err-codes.field-0.0 _ refl))

pub output_refusal-requires : goal.output_refusal-requires
output_refusal-requires c = references-sized (references_in c.args.task.frame.sizes c.args.task.pictures) (sym c.in_ok-references_refusal.ensures)

pub returns-in_err-output_refusal : goal.returns-in_err-output_refusal
unfolding frame_number
returns-in_err-output_refusal c =
    let p = err_from_is_err_and c.from_residual-in_err-output_refusal.result c.from_residual-in_err-output_refusal.ensures.1 in
    rw (p.1, p.2, c.in_ok-codes.was)
    (next_told _ c.in_ok-references_refusal.ensures (first_refused c.in_err-output_refusal.field-0.0 _ c.in_err-output_refusal.ensures))

pub overflow_mul-sizes : goal.overflow_mul-sizes
overflow_mul-sizes c = omega (arith, few (references-sized (references_in c.args.task.frame.sizes c.args.task.pictures) (sym c.in_ok-references_refusal.ensures)))

pub orders_refusal-requires : goal.orders_refusal-requires
orders_refusal-requires c = few (references-sized (references_in c.args.task.frame.sizes c.args.task.pictures) (sym c.in_ok-references_refusal.ensures))

pub returns : goal.returns
unfolding frame_number
returns c =
    rw c.in_ok-codes.was (next_told _ c.in_ok-references_refusal.ensures (next_told _ c.in_ok-output_refusal.ensures c.orders_refusal.ensures))
