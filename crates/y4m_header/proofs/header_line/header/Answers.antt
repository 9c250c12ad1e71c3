-- What `y4m_header::header_line::header` answers: the line ends within the first 256 bytes and breaks no rule, or there is no header.
use Rattle.std.proofs.Common.{◌+◌, sym, ap, ◌∙◌, arith, length-take}
use Rattle.y4m_header.specs.Inner.{header_read}
use Rattle.y4m_header.specs.HeaderLine.{Told, heading}
use Rattle.y4m_header.proofs.Laws.{no_line, has_line, line_inside, heading_bad}
use Rattle.y4m_header.proofs.header_line.header.Goals as goal

pub returns-in_err-n : goal.returns-in_err-n
returns-in_err-n c = ap header_read c.from_residual.ensures ∙ sym (no_line _ (sym c.in_err-n.was ∙ c.line_length.ensures))

pub slice_bounds-tell_line-end : goal.slice_bounds-tell_line-end
slice_bounds-tell_line-end c =
    let h = line_inside _ _ (sym c.in_ok-n.was ∙ c.line_length.ensures) in omega (arith, h, length-take c.in_ok-n.n c.args.file.now, length-take 256 c.args.file.now)

pub returns-in_err-tell_line : goal.returns-in_err-tell_line
returns-in_err-tell_line c =
    ap header_read c.from_residual-in_err-tell_line.ensures
    ∙ sym (has_line _ _ (sym c.in_ok-n.was ∙ c.line_length.ensures) ∙ heading_bad _ _ c.in_err-tell_line.ensures)

pub overflow_add-n : goal.overflow_add-n
overflow_add-n c = let h = line_inside _ _ (sym c.in_ok-n.was ∙ c.line_length.ensures) in omega (arith, h, length-take 256 c.args.file.now)

pub returns : goal.returns
returns c =
    c.head.ensures
    ∙ sym (has_line _ _ (sym c.in_ok-n.was ∙ c.line_length.ensures) ∙ ap (λ (t : Told). heading t (c.in_ok-n.n + 1)) c.in_ok-tell_line.ensures.is)
