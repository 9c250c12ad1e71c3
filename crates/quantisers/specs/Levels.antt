-- A macroblock's levels, in the order of its coefficients, and the coefficients that they stand for: each level times the factor of its plane, of which
-- the first of a block has one (DC) and the others another (AC). What K5 says of coefficients is then said of these.
use Rattle.std.specs.Prelude.{ℕ, ◌-◌, ◌%◌, cond, List, eqb, ltb, length, ℤ}
use Rattle.rfc6386.specs.Raster.{tab}
use Rattle.residue.specs.Transform.{at}
use Rattle.quantisers.specs.Factors.{factors_of, dequantised}
use Rattle.quantisers.specs.declared.QuantIndices.{QuantIndices}
use Rattle.quantisers.specs.declared.Factors.{Factors}

abbrev pub block_factor : ℕ → ℕ → ℕ → ℕ
block_factor dc ac i = cond (eqb (i % 16) 0) dc ac

-- of 384 numbers: sixteen blocks of Y, then those of U and V
abbrev pub split_factor : Factors → ℕ → ℕ
split_factor f i = cond (ltb i 256) (block_factor f.y_dc f.y_ac i) (block_factor f.uv_dc f.uv_ac i)

-- of 400: Y2 before them
abbrev pub whole_factor : Factors → ℕ → ℕ
whole_factor f i = cond (ltb i 16) (block_factor f.y2_dc f.y2_ac i) (split_factor f (i - 16))

-- as many numbers as there are levels
unfoldable pub products : (ℕ → ℕ) → List ℤ → List ℤ
products factor l = tab (length l) (λ i. dequantised (at l i) (factor i))

abbrev pub whole_products : QuantIndices → List ℤ → List ℤ
whole_products q l = products (whole_factor (factors_of q)) l

abbrev pub split_products : QuantIndices → List ℤ → List ℤ
split_products q l = products (split_factor (factors_of q)) l
