-- What the functions inside this crate promise one another.
use Rattle.std.specs.Prelude.{◌≡◌, cond, false, List, ◌++◌, ℕ, ◌+◌, ◌*◌, ◌<◌, ◌≤◌, length, take, drop, Option, Some, None}
use Rattle.ivf.specs.Format.{frame_length, complete, frames_from}
use Rattle.ivf.specs.Mending.{total, frame_count, kept, mended}
use Rattle.ivf.specs.declared.frames.Frames.{Frames}

-- ---- frames
-- the length of a frame, where it is complete
abbrev pub complete_length : List ℕ → ℕ → Option ℕ
complete_length file at = cond (complete file at) (Some (frame_length file at)) None

-- a file that is not refused has a header, and stays within the limit
pub record Sized (file : List ℕ) : Type 0 where
  pub header : 32 ≤ length file
  pub limit : length file ≤ 2147483647

-- so many complete frames end at byte `end`, and what is kept is these and those from there on
pub record Passed (file : List ℕ) (end count : ℕ) : Type 0 where
  pub long : 32 + 12 * count ≤ end
  pub inside : end ≤ length file
  pub bytes : kept file ≡ end + total (frames_from file end)
  pub number : frame_count file ≡ count + length (frames_from file end)

-- from byte `from` on every complete frame that begins before byte `stop` is passed
pub record Passes (file : List ℕ) (from stop : ℕ) (r : Frames) : Type 0 where
  pub passed : Passed file r.end r.count
  pub on : from ≤ r.end
  pub up_to : r.end < stop → complete file r.end ≡ false

-- all of them are passed
abbrev pub all_frames : List ℕ → Frames
all_frames file = record { end = kept file; count = frame_count file }

-- ---- the output
-- out, with the first k bytes of file in place of its own
abbrev pub copied : List ℕ → List ℕ → ℕ → List ℕ
copied file out k = take k file ++ drop k out

-- the frames of a file are passed, and copied with its header
pub record Copies (file out : List ℕ) (r : Frames) (out' : List ℕ) : Type 0 where
  pub frames_are : r ≡ all_frames file
  pub bytes_are : out' ≡ copied file out (kept file)

-- and the count is set
pub record Writes (file out : List ℕ) (r : Frames) (out' : List ℕ) : Type 0 where
  pub frames_are : r ≡ all_frames file
  pub bytes_are : out' ≡ mended file ++ drop (kept file) out
