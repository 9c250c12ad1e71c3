-- Frames: in a file a mark and three planes without gaps, here three planes padded to whole macroblocks.
use Rattle.std.specs.Prelude.{◌≡◌, Bool, cond, not, ◌&&◌, List, [], ◌∷◌, ◌++◌, ℕ, ◌+◌, ◌*◌, ◌/◌, pos, length, get_or, take, drop, leb, ltb, eqb, Result}
use Rattle.numbers.specs.declared.Refusal.{Refusal}
use Rattle.numbers.specs.Outcome.{outcome}
use Rattle.rfc6386.specs.Number.{clamped}
use Rattle.rfc6386.specs.Raster.{raster}
use Rattle.y4m_header.specs.Words.{same}
use Rattle.y4m_frames.specs.declared.planes.Plane.{Plane}
use Rattle.y4m_frames.specs.declared.planes.Sizes.{Sizes}

-- FRAME and a newline
abbrev pub frame_mark : List ℕ
frame_mark = 70 ∷ 82 ∷ 65 ∷ 77 ∷ 69 ∷ 10 ∷ []

-- ---- sizes
-- a chroma plane's size, where luma's is n
abbrev pub half : ℕ → ℕ
half n = (n + 1) / 2

-- the macroblocks that n luma samples need
abbrev pub blocks : ℕ → ℕ
blocks n = (n + 15) / 16

-- of each plane: in a file, and padded
abbrev pub sizes : ℕ → ℕ → Sizes
sizes w h =
    record {
      luma = record { width = w; height = h; wide = 16 * blocks w; high = 16 * blocks h };
      chroma = record { width = half w; height = half h; wide = 8 * blocks w; high = 8 * blocks h };
    }

-- samples of a plane
abbrev pub plain : Plane → ℕ
plain p = p.height * p.width

abbrev pub whole : Plane → ℕ
whole p = p.high * p.wide

-- samples of a frame: luma, and chroma twice
abbrev pub file_samples : Sizes → ℕ
file_samples s = plain s.luma + (plain s.chroma + plain s.chroma)

abbrev pub padded_samples : Sizes → ℕ
padded_samples s = whole s.luma + (whole s.chroma + whole s.chroma)

-- the bytes of a frame in a file
abbrev pub frame_length : Sizes → ℕ
frame_length s = 6 + file_samples s

-- ---- a plane of w by h samples that begins at byte `at`
-- padded to pw by ph samples: each is the nearest sample of the plane
unfoldable pub padded : List ℕ → ℕ → ℕ → ℕ → ℕ → ℕ → List ℕ
padded l at w h pw ph = raster ph pw (λ r c. get_or l (at + clamped (pos r) h * w + clamped (pos c) w) 0)

-- w by h samples of rows of pw
unfoldable pub cropped : List ℕ → ℕ → ℕ → ℕ → ℕ → List ℕ
cropped l at w h pw = raster h w (λ r c. get_or l (at + r * pw + c) 0)

-- ---- a frame
abbrev pub padded_plane : List ℕ → ℕ → Plane → List ℕ
padded_plane l at p = padded l at p.width p.height p.wide p.high

abbrev pub cropped_plane : List ℕ → ℕ → Plane → List ℕ
cropped_plane l at p = cropped l at p.width p.height p.wide

-- read: a file's frame, padded
unfoldable pub padded_frame : List ℕ → Sizes → List ℕ
padded_frame file s =
    padded_plane file 6 s.luma
    ++ (padded_plane file (6 + plain s.luma) s.chroma
    ++ padded_plane file (6 + plain s.luma + plain s.chroma) s.chroma)

-- written: the mark, and a padded frame's samples, cropped
unfoldable pub file_frame : List ℕ → Sizes → List ℕ
file_frame frame s =
    frame_mark
    ++ (cropped_plane frame 0 s.luma
    ++ (cropped_plane frame (whole s.luma) s.chroma
    ++ cropped_plane frame (whole s.luma + whole s.chroma) s.chroma))

-- ---- calls
abbrev pub is_size : ℕ → Bool
is_size n = leb 1 n && leb n 16384

-- a call's number, and the bytes taken or written: none where it refuses and at the file's end
pub record FrameAnswer : Type 0 where
  pub number : ℕ
  pub bytes : ℕ

abbrev pub stopped : ℕ → FrameAnswer
stopped n = record { number = n; bytes = 0 }

-- what reading a frame reports, with so much room in the output. Where the file has no bytes more, it has ended
unfoldable pub read_frame : List ℕ → ℕ → ℕ → ℕ → FrameAnswer
read_frame file w h room =
    cond (not (is_size w && is_size h)) (stopped 1)
    (cond (eqb (length file) 0) (stopped 0)
    (cond (not (same (take 6 file) frame_mark)) (stopped 13)
    (cond (ltb (length file) (frame_length (sizes w h))) (stopped 14)
    (cond (ltb room (padded_samples (sizes w h))) (stopped 7)
    (record { number = 0; bytes = frame_length (sizes w h) })))))

unfoldable pub write_frame : List ℕ → ℕ → ℕ → ℕ → FrameAnswer
write_frame frame w h room =
    cond (not (is_size w && is_size h)) (stopped 1)
    (cond (ltb (length frame) (padded_samples (sizes w h))) (stopped 14)
    (cond (ltb room (frame_length (sizes w h))) (stopped 7)
    (record { number = 0; bytes = frame_length (sizes w h) })))

-- an output changes where bytes are taken or written; what lies after them is as it was
unfoldable pub output_after : FrameAnswer → List ℕ → List ℕ → List ℕ
output_after r l out = cond (eqb r.bytes 0) out (l ++ drop (length l) out)

-- a function's result, told so: the bytes with 0, a refusal by its number
abbrev pub frame_told : Result ℕ Refusal → FrameAnswer
frame_told r = outcome (λ n. record { number = 0; bytes = n }) stopped r

-- the outcome of a call: what it reports, and the final bytes of its output
pub record Reads (file : List ℕ) (w h : ℕ) (out : List ℕ) (r : FrameAnswer) (out' : List ℕ) : Type 0 where
  pub report_is : r ≡ read_frame file w h (length out)
  pub bytes_are : out' ≡ output_after (read_frame file w h (length out)) (padded_frame file (sizes w h)) out

pub record Writes (frame : List ℕ) (w h : ℕ) (out : List ℕ) (r : FrameAnswer) (out' : List ℕ) : Type 0 where
  pub report_is : r ≡ write_frame frame w h (length out)
  pub bytes_are : out' ≡ output_after (write_frame frame w h (length out)) (file_frame frame (sizes w h)) out
