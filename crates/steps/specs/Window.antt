-- What the filters read and leave: a window of a list, the sample that both steps make at a place of it and whether it is clipped, blocks put
-- into a list, and strips.
use Rattle.std.specs.Prelude.{◌≡◌, cond, List, [], ◌∷◌, ℕ, zero, suc, ◌+◌, ◌-◌, ◌*◌, ◌<◌, ◌≤◌, ltb, ℤ, length, get_or}
use Rattle.rfc6386.specs.Filter.{taps_of, step}
use Rattle.rfc6386.specs.Raster.{raster, written}
use Rattle.rfc6386.specs.Picture.{step_at, halo_block}
use Rattle.rfc6386.specs.Clips.{step_clip, clip_at, halo_clips}
use Rattle.rfc6386.specs.declared.FilterSet.{FilterSet}
use Rattle.rfc6386.specs.declared.Clip.{Clip}
use Rattle.rfc6386.specs.declared.Clip.TheVariants.{None}
use Rattle.rfc6386.specs.declared.Clips.{Clips}
use Rattle.steps.specs.declared.rect.Window.{Window}
use Rattle.steps.specs.declared.rect.Spot.{Spot}
use Rattle.steps.specs.declared.way.Way.{Way}
use Rattle.steps.specs.declared.taps.Taps.{Taps}
use Rattle.steps.specs.Taps.{two_taps}

-- n rows of n samples, `pitch` apart from `at` on, as a list
unfoldable pub window_list : ℕ → List ℕ → ℕ → ℕ → List ℕ
window_list n src at pitch = raster n n (λ r c. get_or src (at + r * pitch + c) 0)

-- the block of n by n samples that the filters make of a window of n + 5
abbrev pub window_block : ℕ → List ℕ → Window → Way → List ℕ
window_block n src w way = halo_block n way.set (window_list (n + 5) src w.at w.pitch) way.mx way.my

-- and how many of its samples are clipped
abbrev pub window_clips : ℕ → List ℕ → Window → Way → Clips
window_clips n src w way = halo_clips n way.set (window_list (n + 5) src w.at w.pitch) way.mx way.my

-- out with a block of n by n samples at column x, row y
abbrev pub put_at : List ℕ → ℕ → ℕ → ℕ → ℕ → List ℕ → List ℕ
put_at out stride x y n block = written out stride x y n n (λ r c. get_or block (0 + r * n + c) 0)

abbrev pub put : List ℕ → Spot → ℕ → List ℕ → List ℕ
put out s n block = put_at out s.stride s.x s.y n block

-- two blocks of n by n samples side by side: rows of n + n
unfoldable pub beside : ℕ → List ℕ → List ℕ → List ℕ
beside n l m = raster n (n + n) (λ r c. cond (ltb c n) (get_or l (r * n + c) 0) (get_or m (r * n + (c - n)) 0))

-- ---- one sample of a window
-- the horizontal step at row r, column c
abbrev pub along : List ℤ → List ℕ → ℕ → ℕ → ℕ → ℕ → ℕ
along ts src at pitch r c = step_at ts src (at + r * pitch + c) 1

-- steps over six rows above each other: g r c at row r, column c
abbrev pub six_down : (ℕ → ℕ → ℕ) → ℕ → ℕ → List ℕ
six_down g r c = g r c ∷ g (r + 1) c ∷ g (r + 2) c ∷ g (r + 3) c ∷ g (r + 4) c ∷ g (r + 5) c ∷ []

abbrev pub over : List ℤ → (ℕ → ℕ → ℕ) → ℕ → ℕ → ℕ
over ts g r c = step ts (six_down g r c)

-- both steps at row r, column c of the block
unfoldable pub window_sample : FilterSet → List ℕ → ℕ → ℕ → ℕ → ℕ → ℕ → ℕ → ℕ
window_sample set src at pitch mx my r c = over (taps_of set my) (along (taps_of set mx) src at pitch) r c

abbrev pub sample_of : List ℕ → Window → Way → ℕ → ℕ → ℕ
sample_of src w way = window_sample way.set src w.at w.pitch way.mx way.my

-- whether it is clipped there, as `halo_clip` has it
unfoldable pub window_clip : FilterSet → List ℕ → ℕ → ℕ → ℕ → ℕ → ℕ → ℕ → Clip
window_clip set src at pitch zero zero r c = None
window_clip set src at pitch (suc mx) zero r c = clip_at (taps_of set (suc mx)) src (at + (r + 2) * pitch + c) 1
window_clip set src at pitch mx (suc my) r c = step_clip (taps_of set (suc my)) (six_down (along (taps_of set mx) src at pitch) r c)

abbrev pub clip_in : List ℕ → Window → Way → ℕ → ℕ → Clip
clip_in src w way = window_clip way.set src w.at w.pitch way.mx way.my

-- a step of two taps at row r, column c of a window, over samples `gap` apart
abbrev pub mix_at : Taps → List ℕ → ℕ → ℕ → ℕ → ℕ → ℕ → ℕ
mix_at t src at pitch gap r c = two_taps t (get_or src (at + r * pitch + c) 0) (get_or src (at + r * pitch + c + gap) 0)

-- ---- strips: `rows` rows of two strips of 8 columns side by side, in a list of n that has else 0
pub record Strips (n rows : ℕ) (f g : ℕ → ℕ → ℕ) (l : List ℕ) : Type 0 where
  pub size : length l ≡ n
  pub left : (r : ℕ) → r < rows → (c : ℕ) → c < 8 → get_or l (r * 16 + c) 0 ≡ f r c
  pub right : (r : ℕ) → r < rows → (c : ℕ) → c < 8 → get_or l (r * 16 + 8 + c) 0 ≡ g r c
  pub rest : (i : ℕ) → rows * 16 ≤ i → get_or l i 0 ≡ 0
