-- The two inverse transforms and the sum with the prediction (RFC 6386, sections 14.3 to 14.5), over whole numbers without end: what the first
-- pass leaves is not cut to sixteen bits.
use Rattle.std.specs.Prelude.{ℕ, zero, suc, ◌+◌, ◌/◌, ◌%◌, List, get_or, ℤ, pos, ◌+ℤ◌, ◌-ℤ◌, ◌*ℤ◌}
use Rattle.rfc6386.specs.Number.{floor_div}
use Rattle.rfc6386.specs.Raster.{tab}
use Rattle.rfc6386.specs.Filter.{clamp255}

-- ---- transforms of four numbers: a kernel gives its output k
abbrev pub Kernel : Type 0
Kernel = ℕ → ℤ → ℤ → ℤ → ℤ → ℤ

abbrev pub wht : Kernel
wht zero a b c d = a +ℤ d +ℤ (b +ℤ c)
wht (suc zero) a b c d = b -ℤ c +ℤ (a -ℤ d)
wht (suc (suc zero)) a b c d = a +ℤ d -ℤ (b +ℤ c)
wht (suc (suc (suc k))) a b c d = a -ℤ d -ℤ (b -ℤ c)

-- z times the square root of 2 times the sine of an eighth of π, and times its cosine
abbrev pub by_sin : ℤ → ℤ
by_sin z = floor_div (z *ℤ pos 35468) 65536

abbrev pub by_cos : ℤ → ℤ
by_cos z = z +ℤ floor_div (z *ℤ pos 20091) 65536

abbrev pub dct : Kernel
dct zero a b c d = a +ℤ c +ℤ (by_cos b +ℤ by_sin d)
dct (suc zero) a b c d = a -ℤ c +ℤ (by_sin b -ℤ by_cos d)
dct (suc (suc zero)) a b c d = a -ℤ c -ℤ (by_sin b -ℤ by_cos d)
dct (suc (suc (suc k))) a b c d = a +ℤ c -ℤ (by_cos b +ℤ by_sin d)

-- ---- sixteen numbers in raster order
abbrev pub at : List ℤ → ℕ → ℤ
at x i = get_or x i (pos 0)

-- (z + n) / 8, rounded down
abbrev pub eighth : ℕ → ℤ → ℤ
eighth n z = floor_div (z +ℤ pos n) 8

-- the first pass goes down each column: its number in row i, column j
abbrev pub down : Kernel → List ℤ → ℕ → ℕ → ℤ
down f x i j = f i (at x j) (at x (4 + j)) (at x (8 + j)) (at x (12 + j))

-- the second goes along each row
abbrev pub along : Kernel → List ℤ → ℕ → ℕ → ℤ
along f x i j = f j (down f x i 0) (down f x i 1) (down f x i 2) (down f x i 3)

unfoldable pub transform : Kernel → ℕ → List ℤ → List ℤ
transform f n x = tab 16 (λ k. eighth n (along f x (k / 4) (k % 4)))

abbrev pub inverse_dct : List ℤ → List ℤ
inverse_dct x = transform dct 4 x

abbrev pub inverse_wht : List ℤ → List ℤ
inverse_wht x = transform wht 3 x

-- ---- the sum with the prediction: a sample, and the number of the residue that stands there
abbrev pub summed : ℕ → ℤ → ℕ
summed p z = clamp255 (pos p +ℤ z)
