-- The loop of `y4m_header::header_line::size`: the bytes so far are digits, worth `value`.
use Rattle.y4m_header.proofs.Laws.{Counted}
use Rattle.y4m_header.proofs.header_line.size.Given as goal

abbrev pub invariant-loop-b : goal.invariant-loop-b
invariant-loop-b l = Counted l.word l.value l.b-index
