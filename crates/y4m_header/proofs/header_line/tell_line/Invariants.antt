-- The loop of `y4m_header::header_line::tell_line` has heard so many parameters of the line.
use Rattle.std.proofs.Common.{length}
use Rattle.y4m_header.specs.Words.{words}
use Rattle.y4m_header.proofs.Laws.{Heard}
use Rattle.y4m_header.proofs.header_line.tell_line.Given as goal

abbrev pub invariant-loop-word : goal.invariant-loop-word
invariant-loop-word l = Heard (words l.line) l.told (length l.yielded)
