-- What `y4m_header::header_line::line_length` finds: the first newline of the first 256 bytes, or none.
use Rattle.std.proofs.Common.{take, eqb, rules, tests}
use Rattle.std.proofs.lemmas.Iterator.{YieldsList-from_slice}
use Rattle.std.proofs.lemmas.Iterator.Search.{position_from_yields_List}
use Rattle.y4m_header.proofs.Laws.{line_found}
use Rattle.y4m_header.proofs.header_line.line_length.Goals as goal

pub returns : goal.returns
returns c =
    let most = c.min-most.result in
    line_found c.args.file.now most c.position.result c.min-most.ensures
    (position_from_yields_List (λ x. eqb x 10) _ _ c.position.result c.position.ensures.ran (YieldsList-from_slice (take most c.args.file.now) cc) (λ x b q k. search (rules, tests)))
