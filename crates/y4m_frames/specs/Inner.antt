-- What the functions inside this crate promise one another.
use Rattle.std.specs.Prelude.{◌≡◌, List, ◌++◌, ℕ, ◌+◌, ◌*◌, ◌≤◌, length, take, drop}
use Rattle.y4m_frames.specs.Frames.{sizes, plain, whole, padded_samples, frame_length}
use Rattle.y4m_frames.specs.declared.planes.Plane.{Plane}
use Rattle.y4m_frames.specs.declared.planes.Sizes.{Sizes}

-- d with the elements of l from `at` on
unfoldable pub put : List ℕ → ℕ → List ℕ → List ℕ
put d at l = take at d ++ (l ++ drop (at + length l) d)

-- ---- a plane: it has samples, they lie in the list that is read from byte `at` on, and there is room for the rows that are written from `to` on
pub record Padding (file at w h out to pw ph : ℕ) : Type 0 where
  pub wide : 1 ≤ w
  pub high : 1 ≤ h
  pub across : w ≤ pw
  pub held : at + h * w ≤ file
  pub room : to + ph * pw ≤ out

pub record Cropping (frame at pw out to w h : ℕ) : Type 0 where
  pub across : w ≤ pw
  pub held : at + h * pw ≤ frame
  pub room : to + h * w ≤ out

-- ---- sizes
-- a plane has samples, as many or more when it is padded, and not too many to be counted
pub record PlaneSound (p : Plane) : Type 0 where
  pub some : 1 ≤ p.width
  pub rows : 1 ≤ p.height
  pub across : p.width ≤ p.wide
  pub down : p.height ≤ p.high
  pub few : plain p ≤ 268435456
  pub most : whole p ≤ 268435456

pub record Sound (s : Sizes) : Type 0 where
  pub luma : PlaneSound s.luma
  pub chroma : PlaneSound s.chroma

pub record SizesAre (w h : ℕ) (s : Sizes) : Type 0 where
  pub is : s ≡ sizes w h
  pub sound : Sound s

-- room for a frame
pub record FramePadding (file : ℕ) (s : Sizes) (out : ℕ) : Type 0 where
  pub sound : Sound s
  pub held : frame_length s ≤ file
  pub room : padded_samples s ≤ out

pub record FrameCropping (frame : ℕ) (s : Sizes) (out : ℕ) : Type 0 where
  pub sound : Sound s
  pub held : padded_samples s ≤ frame
  pub room : frame_length s ≤ out
