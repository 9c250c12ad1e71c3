-- Laws of vectors as bytes. Assumes nothing.
use Rattle.std.specs.Prelude.{◌≡◌, Bool, cond, List, ℕ, length, replicate}
use Rattle.std.proofs.Common.{ap, eq-eqb, ne_eqb}
use Rattle.rfc6386.specs.Vector.{zero_vector}
use Rattle.rfc6386.specs.Raster.{tab}
use Rattle.rfc6386.specs.Refusal.{if_done}
use Rattle.vector_bytes.specs.Bytes.{vector_at, vectors_of}

-- sixteen out of 64 bytes, and zeros out of any other number
pub vectors_read : (b : List ℕ) → length b ≡ 64 → vectors_of b ≡ tab 16 (vector_at b)
unfolding vectors_of if_done
vectors_read b e = ap (λ (t : Bool). if_done (cond t 0 6) (tab 16 (vector_at b)) (replicate 16 zero_vector)) (eq-eqb (length b) 64 e)

pub vectors_none : (b : List ℕ) → (length b ≡ 64 → ⊥) → vectors_of b ≡ replicate 16 zero_vector
unfolding vectors_of if_done
vectors_none b n = ap (λ (t : Bool). if_done (cond t 0 6) (tab 16 (vector_at b)) (replicate 16 zero_vector)) (ne_eqb (length b) 64 n)
