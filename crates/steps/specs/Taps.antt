-- Six taps by their sizes.
use Rattle.std.specs.Prelude.{◌≡◌, List, ℕ, ◌+◌, ◌*◌, ◌/◌, ℤ}
use Rattle.rfc6386.specs.Taps.{Sizes, signed}
use Rattle.steps.specs.declared.taps.Taps.{Taps}

abbrev pub sizes_of : Taps → Sizes
sizes_of t = record { a = t.a; b = t.b; c = t.c; d = t.d; e = t.e; f = t.f }

-- the taps themselves
abbrev pub signed_taps : Taps → List ℤ
signed_taps t = signed (sizes_of t)

-- the two middle taps alone, which sum to 128: a step of them never leaves the bytes
pub record Middle (t : Taps) : Type 0 where
  pub outer : t.a + t.b + t.e + t.f ≡ 0
  pub inner : t.c + t.d ≡ 128

abbrev pub two_taps : Taps → ℕ → ℕ → ℕ
two_taps t a b = (t.c * a + t.d * b + 64) / 128
