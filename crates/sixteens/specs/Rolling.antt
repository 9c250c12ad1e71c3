-- The rows of a first pass that the second needs at a time: a window that rolls down with it.
use Rattle.std.specs.Prelude.{◌≡◌, List, [], ◌∷◌, ℕ, ◌+◌, ◌*◌, ◌%◌, ◌<◌, ◌≤◌, length, get_or, ℤ}
use Rattle.rfc6386.specs.Filter.{step}
use Rattle.rfc6386.specs.Clips.{step_clip}
use Rattle.rfc6386.specs.declared.Clip.{Clip}
use Rattle.steps.specs.Rows.{Low}
use Rattle.sixteens.specs.declared.ring.Ring.{Ring}

-- n rows of 16 samples: row i of the window, which stands at `place i`, is row r + i of the pass
pub record Rolled (place : ℕ → ℕ) (pass : ℕ → ℕ → ℕ) (r n : ℕ) (m : List ℕ) : Type 0 where
  pub row : (i : ℕ) → i < n → (c : ℕ) → c < 16 → get_or m (place i + c) 0 ≡ pass (r + i) c

-- rows one below the other
abbrev pub below : ℕ → ℕ
below i = i * 16

-- six places that rows take in turn, the newest that of the oldest
abbrev pub turn : ℕ → ℕ → ℕ
turn r i = (r + i) % 6 * 16

-- so many rows of a pass, each of bytes, in a list that has room for six
pub record Rolling (pass : ℕ → ℕ → ℕ) (r n : ℕ) (m : List ℕ) : Type 0 where
  pub size : length m ≡ 96
  pub low : Low m
  pub rows : Rolled (turn r) pass r n m

-- where the six rows from row r on stand
pub record At (r : ℕ) (ring : Ring) : Type 0 where
  pub a : ring.a ≡ turn r 0
  pub b : ring.b ≡ turn r 1
  pub c : ring.c ≡ turn r 2
  pub d : ring.d ≡ turn r 3
  pub e : ring.e ≡ turn r 4
  pub f : ring.f ≡ turn r 5

-- six rows of 16 samples lie in a list of so many
pub record Lie (n : ℕ) (ring : Ring) : Type 0 where
  pub a : ring.a + 16 ≤ n
  pub b : ring.b + 16 ≤ n
  pub c : ring.c + 16 ≤ n
  pub d : ring.d + 16 ≤ n
  pub e : ring.e + 16 ≤ n
  pub f : ring.f + 16 ≤ n

-- six samples one below the other, in column c; a step over them, and whether it is clipped
abbrev pub ring_six : List ℕ → Ring → ℕ → List ℕ
ring_six m ring c = get_or m (ring.a + c) 0 ∷ get_or m (ring.b + c) 0 ∷ get_or m (ring.c + c) 0 ∷ get_or m (ring.d + c) 0 ∷ get_or m (ring.e + c) 0 ∷ get_or m (ring.f + c) 0 ∷ []

abbrev pub ring_step : List ℤ → List ℕ → Ring → ℕ → ℕ
ring_step ts m ring c = step ts (ring_six m ring c)

abbrev pub ring_clip : List ℤ → List ℕ → Ring → ℕ → Clip
ring_clip ts m ring c = step_clip ts (ring_six m ring c)
