-- Vectors as bytes: a vector is a row and a column, each a signed 16-bit number, its low byte first.
use Rattle.std.specs.Prelude.{List, ℕ, ◌+◌, ◌*◌, length, get_or, replicate, ℤ, pos}
use Rattle.rfc6386.specs.Number.{wrap16}
use Rattle.rfc6386.specs.Vector.{zero_vector}
use Rattle.rfc6386.specs.Raster.{tab}
use Rattle.rfc6386.specs.Refusal.{if_done, count_refusal}
use Rattle.rfc6386.specs.declared.Mv.{Mv}

-- a signed 16-bit number, its low byte first
abbrev pub int16 : ℕ → ℕ → ℤ
int16 low high = wrap16 (pos (low + 256 * high))

-- vector i: two such numbers, row before column
abbrev pub vector_at : List ℕ → ℕ → Mv
vector_at b i =
    record { row = int16 (get_or b (4 * i) 0) (get_or b (4 * i + 1) 0); col = int16 (get_or b (4 * i + 2) 0) (get_or b (4 * i + 3) 0) }

-- sixteen of them, and zeros where there are not 64 bytes
unfoldable pub vectors_of : List ℕ → List Mv
vectors_of b = if_done (count_refusal 64 (length b)) (tab 16 (vector_at b)) (replicate 16 zero_vector)
