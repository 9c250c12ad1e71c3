-- The six dequantisation factors of a macroblock, from a base index and five deltas (RFC 6386, sections 9.6 and 14.1, and `dequant_init` of its
-- reference decoder), and a level times its factor.
use Rattle.std.specs.Prelude.{ℕ, ◌*◌, ◌/◌, min, max, List, [], ◌∷◌, get_or, ℤ, pos, ◌+ℤ◌, ◌*ℤ◌}
use Rattle.rfc6386.specs.Number.{clamped}
use Rattle.quantisers.specs.declared.QuantIndices.{QuantIndices}
use Rattle.quantisers.specs.declared.Factors.{Factors}

-- ---- the two tables of 128 steps, `dc_qlookup` and `ac_qlookup`
unfoldable pub dc_steps : List ℕ
dc_steps =
    4 ∷ 5 ∷ 6 ∷ 7 ∷ 8 ∷ 9 ∷ 10 ∷ 10 ∷ 11 ∷ 12 ∷ 13 ∷ 14 ∷ 15 ∷ 16 ∷ 17 ∷ 17 ∷
    18 ∷ 19 ∷ 20 ∷ 20 ∷ 21 ∷ 21 ∷ 22 ∷ 22 ∷ 23 ∷ 23 ∷ 24 ∷ 25 ∷ 25 ∷ 26 ∷ 27 ∷ 28 ∷
    29 ∷ 30 ∷ 31 ∷ 32 ∷ 33 ∷ 34 ∷ 35 ∷ 36 ∷ 37 ∷ 37 ∷ 38 ∷ 39 ∷ 40 ∷ 41 ∷ 42 ∷ 43 ∷
    44 ∷ 45 ∷ 46 ∷ 46 ∷ 47 ∷ 48 ∷ 49 ∷ 50 ∷ 51 ∷ 52 ∷ 53 ∷ 54 ∷ 55 ∷ 56 ∷ 57 ∷ 58 ∷
    59 ∷ 60 ∷ 61 ∷ 62 ∷ 63 ∷ 64 ∷ 65 ∷ 66 ∷ 67 ∷ 68 ∷ 69 ∷ 70 ∷ 71 ∷ 72 ∷ 73 ∷ 74 ∷
    75 ∷ 76 ∷ 76 ∷ 77 ∷ 78 ∷ 79 ∷ 80 ∷ 81 ∷ 82 ∷ 83 ∷ 84 ∷ 85 ∷ 86 ∷ 87 ∷ 88 ∷ 89 ∷
    91 ∷ 93 ∷ 95 ∷ 96 ∷ 98 ∷ 100 ∷ 101 ∷ 102 ∷ 104 ∷ 106 ∷ 108 ∷ 110 ∷ 112 ∷ 114 ∷ 116 ∷ 118 ∷
    122 ∷ 124 ∷ 126 ∷ 128 ∷ 130 ∷ 132 ∷ 134 ∷ 136 ∷ 138 ∷ 140 ∷ 143 ∷ 145 ∷ 148 ∷ 151 ∷ 154 ∷ 157 ∷ []

unfoldable pub ac_steps : List ℕ
ac_steps =
    4 ∷ 5 ∷ 6 ∷ 7 ∷ 8 ∷ 9 ∷ 10 ∷ 11 ∷ 12 ∷ 13 ∷ 14 ∷ 15 ∷ 16 ∷ 17 ∷ 18 ∷ 19 ∷
    20 ∷ 21 ∷ 22 ∷ 23 ∷ 24 ∷ 25 ∷ 26 ∷ 27 ∷ 28 ∷ 29 ∷ 30 ∷ 31 ∷ 32 ∷ 33 ∷ 34 ∷ 35 ∷
    36 ∷ 37 ∷ 38 ∷ 39 ∷ 40 ∷ 41 ∷ 42 ∷ 43 ∷ 44 ∷ 45 ∷ 46 ∷ 47 ∷ 48 ∷ 49 ∷ 50 ∷ 51 ∷
    52 ∷ 53 ∷ 54 ∷ 55 ∷ 56 ∷ 57 ∷ 58 ∷ 60 ∷ 62 ∷ 64 ∷ 66 ∷ 68 ∷ 70 ∷ 72 ∷ 74 ∷ 76 ∷
    78 ∷ 80 ∷ 82 ∷ 84 ∷ 86 ∷ 88 ∷ 90 ∷ 92 ∷ 94 ∷ 96 ∷ 98 ∷ 100 ∷ 102 ∷ 104 ∷ 106 ∷ 108 ∷
    110 ∷ 112 ∷ 114 ∷ 116 ∷ 119 ∷ 122 ∷ 125 ∷ 128 ∷ 131 ∷ 134 ∷ 137 ∷ 140 ∷ 143 ∷ 146 ∷ 149 ∷ 152 ∷
    155 ∷ 158 ∷ 161 ∷ 164 ∷ 167 ∷ 170 ∷ 173 ∷ 177 ∷ 181 ∷ 185 ∷ 189 ∷ 193 ∷ 197 ∷ 201 ∷ 205 ∷ 209 ∷
    213 ∷ 217 ∷ 221 ∷ 225 ∷ 229 ∷ 234 ∷ 239 ∷ 245 ∷ 249 ∷ 254 ∷ 259 ∷ 264 ∷ 269 ∷ 274 ∷ 279 ∷ 284 ∷ []

-- the index of a step: base plus delta, exactly; outside 0 to 127, the nearest of these (`clamp_q`)
abbrev pub index : ℤ → ℤ → ℕ
index base delta = clamped (base +ℤ delta) 128

abbrev pub step_at : List ℕ → ℤ → ℤ → ℕ
step_at steps base delta = get_or steps (index base delta) 0

-- ---- the factors
-- Y2 AC: "ac_q(q + y2_ac_delta_q) * 155 / 100", and "if (.. < 8)" then 8
abbrev pub y2_ac_of : ℕ → ℕ
y2_ac_of s = max 8 (s * 155 / 100)

-- chroma DC: "if (.. > 132)" then 132
abbrev pub uv_dc_of : ℕ → ℕ
uv_dc_of s = min 132 s

unfoldable pub factors_of : QuantIndices → Factors
factors_of q = record {
  -- "dc_q(q + y1_dc_delta_q)" and "ac_q(q)"
  y_dc = step_at dc_steps q.y_ac_qi q.y_dc_delta;
  y_ac = step_at ac_steps q.y_ac_qi (pos 0);
  -- "dc_q(q + y2_dc_delta_q) * 2"
  y2_dc = step_at dc_steps q.y_ac_qi q.y2_dc_delta * 2;
  y2_ac = y2_ac_of (step_at ac_steps q.y_ac_qi q.y2_ac_delta);
  uv_dc = uv_dc_of (step_at dc_steps q.y_ac_qi q.uv_dc_delta);
  -- "ac_q(q + uv_ac_delta_q)"
  uv_ac = step_at ac_steps q.y_ac_qi q.uv_ac_delta;
}

-- ---- a level times its factor, exactly
abbrev pub dequantised : ℤ → ℕ → ℤ
dequantised level factor = level *ℤ pos factor
