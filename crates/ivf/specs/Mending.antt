-- Mending a cut recording: what is kept, the mended file, the refusals, and what a call reports and writes.
use Rattle.std.specs.Prelude.{◌≡◌, Bool, cond, not, ◌||◌, List, [], ◌∷◌, ◌++◌, ℕ, ◌+◌, ◌-◌, length, take, drop, ltb, eqb, Result}
use Rattle.numbers.specs.declared.Refusal.{Refusal}
use Rattle.numbers.specs.Outcome.{outcome}
use Rattle.ivf.specs.Format.{bytes4, marked, header_length, count_in, file_frames}
use Rattle.ivf.specs.declared.Mended.{Mended}

-- ---- what is kept: the header, and every complete frame
unfoldable pub total : List ℕ → ℕ
total [] = 0
total (n ∷ l) = n + total l

unfoldable pub frame_count : List ℕ → ℕ
frame_count file = length (file_frames file)

unfoldable pub kept : List ℕ → ℕ
kept file = 32 + total (file_frames file)

-- ---- the mended file: that, with the number of its frames as its count
-- a file with the count n in bytes 24 to 27
unfoldable pub counted : ℕ → List ℕ → List ℕ
counted n file = take 24 file ++ bytes4 n ++ drop 28 file

unfoldable pub mended : List ℕ → List ℕ
mended file = counted (frame_count file) (take (kept file) file)

-- ---- the refusals, in this order
-- 15: the file is shorter than a header, longer than the limit, not marked, or has another header length
unfoldable pub not_ivf : List ℕ → Bool
not_ivf file = ltb (length file) 32 || (ltb 2147483647 (length file) || (not (marked file) || not (eqb (header_length file) 32)))

-- 7: the output has fewer bytes than are kept
unfoldable pub no_room : List ℕ → ℕ → Bool
no_room file room = ltb room (kept file)

-- ---- what a call leaves
-- its number, and what it reports: old count, new count and bytes dropped, or three zeros
pub record MendedAnswer : Type 0 where
  pub number : ℕ
  pub old_count : ℕ
  pub new_count : ℕ
  pub dropped : ℕ

abbrev pub refused : ℕ → MendedAnswer
refused n = record { number = n; old_count = 0; new_count = 0; dropped = 0 }

abbrev pub reported : List ℕ → MendedAnswer
reported file = record { number = 0; old_count = count_in file; new_count = frame_count file; dropped = length file - kept file }

unfoldable pub report : List ℕ → ℕ → MendedAnswer
report file room = cond (not_ivf file) (refused 15) (cond (no_room file room) (refused 7) (reported file))

-- a function's result, told so: the report with 0, a refusal by its number
abbrev pub mended_told : Result Mended Refusal → MendedAnswer
mended_told r = outcome (λ m. record { number = 0; old_count = m.old_count; new_count = m.new_count; dropped = m.dropped }) refused r

-- the output: the mended file, and past it the bytes that were there; those alone where the call refuses
unfoldable pub written : List ℕ → List ℕ → List ℕ
written file out = cond (not_ivf file || no_room file (length out)) out (mended file ++ drop (kept file) out)

pub record Mends (file out : List ℕ) (r : MendedAnswer) (out' : List ℕ) : Type 0 where
  pub report_is : r ≡ report file (length out)
  pub bytes_are : out' ≡ written file out
