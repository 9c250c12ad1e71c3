-- A lent list of vectors: sixteen, or number 6 after the prediction's own.
use Rattle.std.specs.Prelude.{List, ℕ, length, replicate, Result}
use Rattle.numbers.specs.declared.Refusal.{Refusal}
use Rattle.numbers.specs.Outcome.{outcome}
use Rattle.rfc6386.specs.Vector.{zero_vector}
use Rattle.rfc6386.specs.Refusal.{or_else, if_done, count_refusal}
use Rattle.rfc6386.specs.Block.{counted}
use Rattle.rfc6386.specs.Macroblock.{answered}
use Rattle.rfc6386.specs.declared.Mv.{Mv}
use Rattle.rfc6386.specs.Answer.{Report}

-- a lent list of vectors as sixteen, zeros where it has not so many
unfoldable pub sixteen_of : List Mv → List Mv
sixteen_of l = if_done (count_refusal 16 (length l)) l (replicate 16 zero_vector)

-- what reading it gives: the vectors, or the number and zeros
pub record ListAnswer : Type 0 where
  pub number : ℕ
  pub mvs : List Mv

abbrev pub list_told : Result (List Mv) Refusal → ListAnswer
list_told r = outcome (λ vs. record { number = 0; mvs = vs }) (λ n. record { number = n; mvs = replicate 16 zero_vector }) r

-- the number alone
abbrev pub number_told : Result (List Mv) Refusal → ℕ
number_told r = outcome (λ vs. 0) (λ n. n) r

-- a report that number n refuses too, after its prediction's own numbers
unfoldable pub refused_by : ℕ → Report → Report
refused_by n r =
    let m = or_else r.prediction.number n in
    record { prediction = answered m r.prediction.samples; fetched = if_done m r.fetched 0; clips = counted m r.clips }

-- a report on a lent list of so many vectors
abbrev pub listed : Report → ℕ → Report
listed r count = refused_by (count_refusal 16 count) r
