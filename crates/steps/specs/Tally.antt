-- Both totals of clipped samples in one number, which the code adds up a sample at a time: two digits in base 512, how many are clipped and how
-- many of these low. A macroblock has 384 samples, so that a digit holds its total.
use Rattle.std.specs.Prelude.{ℕ, ◌+◌, ◌*◌}
use Rattle.rfc6386.specs.Sums.{sum_rows}
use Rattle.rfc6386.specs.declared.Clip.{Clip}
use Rattle.rfc6386.specs.declared.Clip.TheVariants.{Low, High, None}
use Rattle.rfc6386.specs.declared.Clips.{Clips}

-- of one sample
abbrev pub part : Clip → ℕ
part Low = 513
part High = 1
part None = 0

abbrev pub tally_of : Clips → ℕ
tally_of k = k.low + k.high + 512 * k.low

-- of a strip of 8 columns and so many rows
abbrev pub strip_tally : ℕ → (ℕ → ℕ → Clip) → ℕ
strip_tally rows f = sum_rows rows 8 (λ r c. part (f r c))
