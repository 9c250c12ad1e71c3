-- The coefficients of a macroblock, in raster order within each 4x4 block: sixteen blocks of Y, four of U and four of V, 384 numbers; a macroblock
-- with one vector has sixteen more before them, Y2 (RFC 6386, sections 13 and 14.2). What they add to a prediction, and which are refused.
use Rattle.std.specs.Prelude.{ℕ, zero, suc, ◌+◌, ◌*◌, ◌/◌, ◌%◌, Bool, false, cond, not, ◌&&◌, ◌||◌, List, eqb, ltb, length, get_or, ℤ, nat_abs}
use Rattle.rfc6386.specs.Raster.{tab, raster}
use Rattle.residue.specs.Transform.{at, inverse_dct, inverse_wht, summed}
use Rattle.rfc6386.specs.declared.ReconstructedMb.{ReconstructedMb}

-- the block that starts at number i
unfoldable pub block : List ℤ → ℕ → List ℤ
block c i = tab 16 (λ k. at c (i + k))

-- ---- Y2: what it transforms to replaces the first number of each Y block
abbrev pub first_of_y : ℕ → Bool
first_of_y i = ltb i 256 && eqb (i % 16) 0

abbrev pub seeded_at : List ℤ → ℕ → ℤ
seeded_at c i = cond (first_of_y i) (at (inverse_wht (block c 0)) (i / 16)) (at c (16 + i))

unfoldable pub seeded : List ℤ → List ℤ
seeded c = tab 384 (seeded_at c)

-- ---- the finished samples
-- what stands at row r, column q of the residue of a plane with rows of w samples, whose blocks follow each other from number i on, row by row
abbrev pub residue_at : ℕ → List ℤ → ℕ → ℕ → ℕ → ℤ
residue_at w c i r q = at (inverse_dct (block c (i + (r / 4 * (4 * w) + q / 4 * 16)))) (r % 4 * 4 + q % 4)

unfoldable pub finished_plane : ℕ → List ℤ → ℕ → List ℕ → List ℕ
finished_plane w c i p = raster w w (λ r q. summed (get_or p (r * w + q) 0) (residue_at w c i r q))

unfoldable pub finished : List ℤ → ReconstructedMb → ReconstructedMb
finished c s = record { y = finished_plane 16 c 0 s.y; u = finished_plane 8 c 256 s.u; v = finished_plane 8 c 320 s.v }

-- ---- the domain
-- not from -n to n
abbrev pub beyond : ℕ → ℤ → Bool
beyond n z = ltb n (nat_abs z)

-- p holds of a number below n
unfoldable pub some : ℕ → (ℕ → Bool) → Bool
some zero p = false
some (suc n) p = p n || some n p

unfoldable pub split_beyond : List ℤ → Bool
split_beyond c = some 384 (λ i. beyond 4095 (at c i))

-- a first number that Y2 replaces is not tested
unfoldable pub whole_beyond : List ℤ → Bool
whole_beyond c = some 16 (λ i. beyond 16383 (at c i)) || some 384 (λ i. not (first_of_y i) && beyond 4095 (at c (16 + i)))

-- number 11: another count than there should be, or without the skip flag a coefficient beyond the domain
abbrev pub residue_refusal : ℕ → Bool → (List ℤ → Bool) → List ℤ → ℕ
residue_refusal count skip beyond c = cond (eqb (length c) count && (skip || not (beyond c))) 0 11

unfoldable pub whole_refusal : Bool → List ℤ → ℕ
whole_refusal skip c = residue_refusal 400 skip whole_beyond c

unfoldable pub split_refusal : Bool → List ℤ → ℕ
split_refusal skip c = residue_refusal 384 skip split_beyond c
