-- The IVF file format. A file is its list of bytes; a byte past its end counts as 0.
use Rattle.std.specs.Prelude.{Bool, cond, ◌&&◌, List, [], ◌∷◌, ℕ, zero, suc, ◌+◌, ◌*◌, ◌/◌, ◌%◌, length, get_or, take, drop, leb, eqb}

-- ---- little-endian numbers
-- the number in two bytes, or in four, from byte i on: the lowest byte comes first
abbrev pub number2 : List ℕ → ℕ → ℕ
number2 b i = get_or b i 0 + 256 * get_or b (i + 1) 0

abbrev pub number4 : List ℕ → ℕ → ℕ
number4 b i = get_or b i 0 + 256 * get_or b (i + 1) 0 + 65536 * get_or b (i + 2) 0 + 16777216 * get_or b (i + 3) 0

-- a number below 2^32 as four bytes
abbrev pub bytes4 : ℕ → List ℕ
bytes4 n = n % 256 ∷ n / 256 % 256 ∷ n / 65536 % 256 ∷ n / 16777216 % 256 ∷ []

-- ---- the header, 32 bytes: DKIF in bytes 0 to 3, the header's length in 6 and 7, the count of frames in 24 to 27
abbrev pub marked : List ℕ → Bool
marked file = eqb (get_or file 0 0) 68 && (eqb (get_or file 1 0) 75 && (eqb (get_or file 2 0) 73 && eqb (get_or file 3 0) 70))

abbrev pub header_length : List ℕ → ℕ
header_length file = number2 file 6

abbrev pub count_bytes : List ℕ → List ℕ
count_bytes file = take 4 (drop 24 file)

abbrev pub count_in : List ℕ → ℕ
count_in file = number4 file 24

-- ---- the frames: a size in 4 bytes, a time in 8, and as many bytes of data as the size says
abbrev pub frame_length : List ℕ → ℕ → ℕ
frame_length file at = 12 + number4 file at

-- the frame at byte `at` does not run past the file's end
abbrev pub complete : List ℕ → ℕ → Bool
complete file at = leb (at + frame_length file at) (length file)

-- the lengths of the frames from byte `at` on, up to the first that is not complete; `most` bounds their number
unfoldable pub frames : ℕ → List ℕ → ℕ → List ℕ
frames zero file at = []
frames (suc most) file at = cond (complete file at) (frame_length file at ∷ frames most file (at + frame_length file at)) []

-- all of them: a file has fewer frames than bytes, so the bound is never met (`frames_follow`, `frames_end`)
abbrev pub frames_from : List ℕ → ℕ → List ℕ
frames_from file at = frames (length file) file at

-- the complete frames of a file
abbrev pub file_frames : List ℕ → List ℕ
file_frames file = frames_from file 32
