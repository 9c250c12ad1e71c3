-- What `y4m_header::header_line::tell` hears: the first letter names the parameter.
use Rattle.std.proofs.Common.{sym, ap, ◌∙◌, not, arith}
use Rattle.y4m_header.specs.Inner.{so_far}
use Rattle.y4m_header.proofs.Laws.{tell_empty, tell_other, width_twice, width_none, width-told, height_twice, height_none, height-told, colour_twice, colour_unknown, colour-told}
use Rattle.y4m_header.proofs.header_line.tell.Goals as goal

pub returns-in_err-name : goal.returns-in_err-name
returns-in_err-name c = rw c.from_residual.ensures (tell_empty (so_far c.args.told) c.args.word.now c.in_err-name.ensures.cases)

pub returns-in_err-size-in-87 : goal.returns-in_err-size-in-87
returns-in_err-size-in-87 c =
    rw c.from_residual-in_err-size-in-87.ensures
    (width_none c.args.told _ _ _ c.in_ok-name.ensures.cases.0 c.requires c.in-87.is (ap not c.if-is_none.ensures) (sym c.in_err-size-in-87.was ∙ c.size.ensures))

pub returns-in_ok-size-in-87 : goal.returns-in_ok-size-in-87
returns-in_ok-size-in-87 c =
    width-told c.args.told _ _ _ c.in_ok-name.ensures.cases.0 c.requires _ c.in-87.is (ap not c.if-is_none.ensures) (sym c.in_ok-size-in-87.was ∙ c.size.ensures)

pub returns-in-87-2 : goal.returns-in-87-2
returns-in-87-2 c = width_twice c.args.told _ _ _ c.in_ok-name.ensures.cases.0 c.requires c.in-87.is (ap not c.if-is_none.ensures)

pub returns-in_err-size-in-72 : goal.returns-in_err-size-in-72
returns-in_err-size-in-72 c =
    rw c.from_residual-in_err-size-in-72.ensures
    (height_none c.args.told _ _ _ c.in_ok-name.ensures.cases.0 c.requires c.in-72.is (ap not c.if-is_none-2.ensures) (sym c.in_err-size-in-72.was ∙ c.size-in-72.ensures))

pub returns-in_ok-size-in-72 : goal.returns-in_ok-size-in-72
returns-in_ok-size-in-72 c =
    height-told c.args.told _ _ _ c.in_ok-name.ensures.cases.0 c.requires _ c.in-72.is (ap not c.if-is_none-2.ensures) (sym c.in_ok-size-in-72.was ∙ c.size-in-72.ensures)

pub returns-in-87-2-2 : goal.returns-in-87-2-2
returns-in-87-2-2 c = height_twice c.args.told _ _ _ c.in_ok-name.ensures.cases.0 c.requires c.in-72.is (ap not c.if-is_none-2.ensures)

pub returns-in-67 : goal.returns-in-67
returns-in-67 c = colour-told c.args.told _ _ _ c.in_ok-name.ensures.cases.0 c.requires c.in-67.is c.if-not-told.true (cc)

pub returns-in-87-2-3 : goal.returns-in-87-2-3
returns-in-87-2-3 c = colour_unknown c.args.told _ _ _ c.in_ok-name.ensures.cases.0 c.requires c.in-67.is c.if-not-told.true (cc)

pub returns-in-87-2-4 : goal.returns-in-87-2-4
returns-in-87-2-4 c = colour_twice c.args.told _ _ _ c.in_ok-name.ensures.cases.0 c.requires c.in-67.is c.if-not-told.false

pub returns-in_default : goal.returns-in_default
returns-in_default c = tell_other c.args.told _ _ _ c.in_ok-name.ensures.cases.0 c.requires (λ e. omega arith) (λ e. omega arith) (λ e. omega arith)
