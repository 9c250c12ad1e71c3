-- What `y4m_header::header_line::head` answers: the sizes, where both are told.
use Rattle.std.proofs.Common.{ap, ◌∙◌}
use Rattle.y4m_header.specs.Inner.{header_read}
use Rattle.y4m_header.proofs.Laws.{head_no_width, head_no_height, head_done}
use Rattle.y4m_header.proofs.header_line.head.Goals as goal

pub returns-in_err-told : goal.returns-in_err-told
returns-in_err-told c = ap header_read c.from_residual.ensures ∙ head_no_width c.args.told c.args.n c.in_err-told.was

pub returns-in_err-told-2 : goal.returns-in_err-told-2
returns-in_err-told-2 c = ap header_read c.from_residual-in_err-told-2.ensures ∙ head_no_height c.args.told c.args.n _ c.requires c.in_ok-told.was c.in_err-told-2.was

pub returns : goal.returns
returns c = head_done c.args.told c.args.n _ _ c.requires c.in_ok-told.was c.in_ok-told-2.was
