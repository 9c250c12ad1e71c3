-- Clipped samples (request K14): whether a predicted sample is one, and how many of them a block has. A sample is clipped by the last step
-- that has a fraction: the vertical one where the row has one, else the horizontal one. A copied sample is not, and what the first of two
-- steps clips does not count.
use Rattle.std.specs.Prelude.{cond, List, [], ◌∷◌, ℕ, zero, suc, ◌+◌, ◌*◌, ltb, ℤ, pos, negsuc, ◌+ℤ◌}
use Rattle.rfc6386.specs.Vector.{whole_part, fraction}
use Rattle.rfc6386.specs.Filter.{taps_of, rounded}
use Rattle.rfc6386.specs.Picture.{Image, six, across, six_at, step_at}
use Rattle.rfc6386.specs.Sums.{sum_rows}
use Rattle.rfc6386.specs.declared.Mv.{Mv}
use Rattle.rfc6386.specs.declared.FilterSet.{FilterSet}
use Rattle.rfc6386.specs.declared.Clip.{Clip}
use Rattle.rfc6386.specs.declared.Clip.TheVariants.{Low, High, None}
use Rattle.rfc6386.specs.declared.Clips.{Clips}

-- ---- one step
-- by the number that is clamped: 0 and 255 themselves are not clipped
unfoldable pub clip_of : ℤ → Clip
clip_of (pos n) = cond (ltb 255 n) High None
clip_of (negsuc n) = Low

unfoldable pub step_clip : List ℤ → List ℕ → Clip
step_clip ts ss = clip_of (rounded ts ss)

-- ---- one predicted sample, beside `filtered` and `predicted`: column fraction j, row fraction k
unfoldable pub filtered_clip : FilterSet → Image → ℕ → ℕ → ℤ → ℤ → Clip
filtered_clip set img zero zero x y = None
filtered_clip set img (suc j) zero x y = step_clip (taps_of set (suc j)) (six (λ a. img a y) x)
filtered_clip set img j (suc k) x y = step_clip (taps_of set (suc k)) (six (λ b. across set img j x b) y)

unfoldable pub predicted_clip : FilterSet → Image → ℤ → ℤ → Mv → Clip
predicted_clip set img x y v = filtered_clip set img (fraction v.col) (fraction v.row) (x +ℤ whole_part v.col) (y +ℤ whole_part v.row)

-- ---- totals
abbrev pub is_low : Clip → ℕ
is_low Low = 1
is_low High = 0
is_low None = 0

abbrev pub is_high : Clip → ℕ
is_high Low = 0
is_high High = 1
is_high None = 0

abbrev pub no_clips : Clips
no_clips = record { low = 0; high = 0 }

abbrev pub both_clips : Clips → Clips → Clips
both_clips a b = record { low = a.low + b.low; high = a.high + b.high }

-- of n by n samples: f r c is what happened at row r, column c
unfoldable pub totals : ℕ → (ℕ → ℕ → Clip) → Clips
totals n f = record { low = sum_rows n n (λ r c. is_low (f r c)); high = sum_rows n n (λ r c. is_high (f r c)) }

-- of the block at column x, row y, with a vector for each of its samples, and with one for all; beside `block_by` and `block`
unfoldable pub clips_by : ℕ → FilterSet → Image → ℕ → ℕ → (ℕ → ℕ → Mv) → Clips
clips_by n set img x y vector = totals n (λ r c. predicted_clip set img (pos (x + c)) (pos (y + r)) (vector r c))

unfoldable pub block_clips : ℕ → FilterSet → Image → ℕ → ℕ → Mv → Clips
block_clips n set img x y v = clips_by n set img x y (λ r c. v)

-- ---- the same of a halo, beside `halo_sample` and `halo_block`
abbrev pub clip_at : List ℤ → List ℕ → ℕ → ℕ → Clip
clip_at ts l i d = step_clip ts (six_at l i d)

unfoldable pub halo_clip : FilterSet → List ℕ → ℕ → ℕ → ℕ → ℕ → ℕ → Clip
halo_clip set l p zero zero r c = None
halo_clip set l p (suc j) zero r c = clip_at (taps_of set (suc j)) l ((r + 2) * p + c) 1
halo_clip set l p j (suc k) r c =
    step_clip (taps_of set (suc k))
    (step_at (taps_of set j) l (r * p + c) 1
    ∷ step_at (taps_of set j) l ((r + 1) * p + c) 1
    ∷ step_at (taps_of set j) l ((r + 2) * p + c) 1
    ∷ step_at (taps_of set j) l ((r + 3) * p + c) 1
    ∷ step_at (taps_of set j) l ((r + 4) * p + c) 1
    ∷ step_at (taps_of set j) l ((r + 5) * p + c) 1
    ∷ [])

unfoldable pub halo_clips : ℕ → FilterSet → List ℕ → ℕ → ℕ → Clips
halo_clips n set l j k = totals n (λ r c. halo_clip set l (n + 5) j k r c)
