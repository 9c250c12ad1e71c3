-- What `y4m_header::header_line::size` reads: up to five digits, whose number is small enough.
use Rattle.std.proofs.Common.{◌≡◌, sym, ◌∙◌, arith}
use Rattle.y4m_header.proofs.Laws.{size-long, counted_small, counted_more, counted_not, counted_large, counted_all, no_size, is_size}
use Rattle.y4m_header.proofs.header_line.size.Goals as goal
use Rattle.y4m_header.proofs.header_line.size.Goals.{then-value-lt1-via-then-value-lt1, then-value-lt1-via-else-value-lt1+then-value-gt16384}

pub returns-then-word-gt5 : goal.returns-then-word-gt5
returns-then-word-gt5 c = no_size _ (size-long _ (omega arith))

pub returns-then-not-is_ascii_digit : goal.returns-then-not-is_ascii_digit
returns-then-not-is_ascii_digit c = no_size _ (counted_not _ _ _ (omega arith) (sym c.is_ascii_digit.ensures.value ∙ c.if-not-is_ascii_digit.true) c.loop-b.invariant)

pub overflow_mul-value : goal.overflow_mul-value
overflow_mul-value c = omega (arith, counted_small _ _ _ c.loop-b.invariant)

pub overflow_add-value : goal.overflow_add-value
overflow_add-value c = omega (arith, counted_small _ _ _ c.loop-b.invariant, c.type_inv.word c.loop-b.b-index)

pub loop-b-preserved : goal.loop-b-preserved
loop-b-preserved c =
    rw c.from.ensures (counted_more _ _ _ (omega arith) (sym c.is_ascii_digit.ensures.value ∙ c.if-not-is_ascii_digit.false) c.loop-b.invariant)

pub returns-then-value-lt1 : goal.returns-then-value-lt1
returns-then-value-lt1 c =
    elim c.then-value-lt1.branch [
      | then-value-lt1-via-then-value-lt1 w ↦
          let none : c.loop-b.value ≡ 0 = omega arith in no_size _ (counted_all _ _ _ (omega arith) (omega arith) c.loop-b.invariant ∙ none)
      | then-value-lt1-via-else-value-lt1+then-value-gt16384 w ↦ no_size _ (counted_large _ _ _ (omega arith) (omega arith) c.loop-b.invariant)
    ]

pub returns : goal.returns
returns c = is_size _ _ (omega arith) (counted_all _ _ _ (omega arith) (omega arith) c.loop-b.invariant)
