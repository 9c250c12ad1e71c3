-- A worked example: a header whose count says 9, a frame of two bytes, a frame of none, and one cut short after two of its five bytes.
use Rattle.std.specs.Prelude.{◌≡◌, refl, List, [], ◌∷◌, ◌++◌, ℕ, replicate}
use Rattle.ivf.specs.Format.{file_frames, frames}
use Rattle.ivf.specs.Mending.{total, frame_count, kept, counted, mended, not_ivf, no_room, refused, report, written}

header : ℕ → List ℕ
header n =
    68 ∷ 75 ∷ 73 ∷ 70 ∷ 0 ∷ 0 ∷ 32 ∷ 0 ∷ 86 ∷ 80 ∷ 56 ∷ 48 ∷ 16 ∷ 0 ∷ 16 ∷ 0 ∷ 25 ∷ 0 ∷ 0 ∷ 0 ∷ 1 ∷ 0 ∷ 0 ∷ 0 ∷
    n ∷ 0 ∷ 0 ∷ 0 ∷ 7 ∷ 7 ∷ 7 ∷ 7 ∷ []

whole : List ℕ
whole =
    2 ∷ 0 ∷ 0 ∷ 0 ∷ 0 ∷ 0 ∷ 0 ∷ 0 ∷ 0 ∷ 0 ∷ 0 ∷ 0 ∷ 170 ∷ 187 ∷
    0 ∷ 0 ∷ 0 ∷ 0 ∷ 1 ∷ 0 ∷ 0 ∷ 0 ∷ 0 ∷ 0 ∷ 0 ∷ 0 ∷ []

cut : List ℕ
cut = header 9 ++ whole ++ (5 ∷ 0 ∷ 0 ∷ 0 ∷ 2 ∷ 0 ∷ 0 ∷ 0 ∷ 0 ∷ 0 ∷ 0 ∷ 0 ∷ 1 ∷ 2 ∷ [])

lengths : file_frames cut ≡ 14 ∷ 12 ∷ []
unfolding frames header whole cut
lengths = refl

reports : report cut 60 ≡ record { number = 0; old_count = 9; new_count = 2; dropped = 14 }
unfolding frames total frame_count kept not_ivf no_room report header whole cut
reports = refl

writes : written cut (replicate 60 255) ≡ header 2 ++ whole ++ (255 ∷ 255 ∷ [])
unfolding frames total frame_count kept counted mended not_ivf no_room written header whole cut
writes = refl

no_room_lem : report cut 57 ≡ refused 7
unfolding frames total frame_count kept not_ivf no_room report header whole cut
no_room_lem = refl
