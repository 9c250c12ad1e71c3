-- `numbered::references_refusal` meets its contract: three tests of a macroblock. Assumes nothing.
use Rattle.std.proofs.Common.{◌∙◌}
use Rattle.std.proofs.lemmas.Result.{err_from_is_err_and}
use Rattle.frame.specs.Laws.{three_refusals}
use Rattle.frame.specs.Inner.{references_in}
use Rattle.frame.proofs.Numbers.{first_refused, next_told}
use Rattle.frame.proofs.numbered.references_refusal.Goals as goal

pub returns-in_err-refusal : goal.returns-in_err-refusal
returns-in_err-refusal c =
    let p = err_from_is_err_and c.from_residual.result c.from_residual.ensures.1 in
    rw (p.1, p.2) (first_refused c.in_err-refusal.field-0.0 _ c.in_err-refusal.ensures ∙ three_refusals (references_in c.args.sizes c.args.pictures))

pub returns-in_err-refusal-2 : goal.returns-in_err-refusal-2
returns-in_err-refusal-2 c =
    let p = err_from_is_err_and c.from_residual-in_err-refusal-2.result c.from_residual-in_err-refusal-2.ensures.1 in
    rw (p.1, p.2)
    (next_told _ c.in_ok-refusal.ensures (first_refused c.in_err-refusal-2.field-0.0 _ c.in_err-refusal-2.ensures)
    ∙ three_refusals (references_in c.args.sizes c.args.pictures))

pub returns : goal.returns
returns c =
    next_told _ c.in_ok-refusal.ensures (next_told _ c.in_ok-refusal-2.ensures c.refusal-3.ensures) ∙ three_refusals (references_in c.args.sizes c.args.pictures)
