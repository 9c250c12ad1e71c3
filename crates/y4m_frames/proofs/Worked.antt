-- Worked examples: a frame of one luma sample and one of each chroma plane.
use Rattle.std.specs.Prelude.{◌≡◌, refl, List, [], ◌∷◌, ◌++◌, ℕ, replicate}
use Rattle.rfc6386.specs.Raster.{tab, raster}
use Rattle.y4m_header.specs.Words.{same}
use Rattle.y4m_frames.specs.Frames.{frame_mark, sizes, padded, cropped, padded_frame, file_frame, stopped, read_frame}

tiny : List ℕ
tiny = frame_mark ++ 7 ∷ 8 ∷ 9 ∷ []

read_tiny : read_frame tiny 1 1 384 ≡ record { number = 0; bytes = 9 }
unfolding same read_frame tiny
read_tiny = refl

pad_tiny : padded_frame tiny (sizes 1 1) ≡ replicate 256 7 ++ (replicate 64 8 ++ replicate 64 9)
unfolding tab raster padded padded_frame tiny
pad_tiny = refl

crop_tiny : file_frame (replicate 256 7 ++ (replicate 64 8 ++ replicate 64 9)) (sizes 1 1) ≡ tiny
unfolding tab raster cropped file_frame tiny
crop_tiny = refl

-- a frame of one sample too few, an output of one byte too few, half a mark, no bytes
cut_tiny : read_frame (frame_mark ++ 7 ∷ 8 ∷ []) 1 1 0 ≡ stopped 14
unfolding same read_frame
cut_tiny = refl

short_output : read_frame tiny 1 1 383 ≡ stopped 7
unfolding same read_frame tiny
short_output = refl

half_mark : read_frame (70 ∷ 82 ∷ 65 ∷ []) 1 1 384 ≡ stopped 13
unfolding same read_frame
half_mark = refl

at_end : read_frame [] 1 1 0 ≡ stopped 0
unfolding same read_frame
at_end = refl
