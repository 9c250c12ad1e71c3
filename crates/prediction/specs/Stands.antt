-- Where a macroblock stands in a plane that is lent.
use Rattle.std.specs.Prelude.{◌≡◌, ℕ, ◌*◌}
use Rattle.rfc6386.specs.Macroblock.{Source, Reference}
use Rattle.blocks.specs.declared.place.Place.{Place}
use Rattle.blocks.specs.declared.lent.Lent.{Lent}

-- the macroblock's place in a plane with n samples to its side
abbrev pub place_in : Reference → Source → ℕ → ℕ → ℕ → Place
place_in ref s n col row = record { stride = s.stride; w = ref.cols * n; h = ref.rows * n; x = col * n; y = row * n }

pub record Stands (ref : Reference) (s : Source) (n col row : ℕ) (l : Lent) : Type 0 where
  pub bytes : l.plane.now ≡ s.bytes
  pub place : l.at ≡ place_in ref s n col row
