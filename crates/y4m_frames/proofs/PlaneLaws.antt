-- Laws of planes padded and cropped, row by row. Assumes nothing.
use Rattle.std.specs.Prelude.{◌≡◌, List, ℕ, min, ◌+◌, ◌-◌, ◌*◌, ◌<◌, ◌≤◌, pos, length, get_or}
use Rattle.std.proofs.Common.{ap, ◌∙◌, arith, mul-le-mul_right}
use Rattle.rfc6386.specs.Number.{clamped}
use Rattle.rfc6386.specs.Raster.{tab}
use Rattle.rfc6386.proofs.Laws.Raster.{length-tab, row_fits}
use Rattle.y4m_frames.specs.Frames.{padded, cropped, plain, whole}
use Rattle.y4m_frames.specs.Inner.{put, Padding, Cropping, PlaneSound}
use Rattle.y4m_frames.specs.declared.planes.Plane.{Plane}
use Rattle.y4m_frames.proofs.Puts.{put-put, row_padded, Stacked, stacked_more, stacked_all}

-- a row is its samples and then the last of them
pub row_laid : (d mid out s : List ℕ) (from w at pw last : ℕ) → 1 ≤ w → w ≤ pw → at + pw ≤ length d → mid ≡ put d at (tab w (λ c. get_or s (from + c) 0))
    → last ≡ get_or s (from + (w - 1)) 0 → out ≡ put mid (at + w) (tab (pw - w) (λ i. last))
    → out ≡ put d at (tab pw (λ c. get_or s (from + clamped (pos c) w) 0))
row_laid d mid out s from w at pw last h k room e l f =
    let row = tab w (λ c. get_or s (from + c) 0) in
    let n : length row ≡ w = length-tab w (λ c. get_or s (from + c) 0) in
    let m = length-tab (pw - w) (λ i. get_or s (from + (w - 1)) 0) in
    let j : at + w ≡ at + length row = omega arith in
    f
    ∙ ap (λ (x : ℕ). put mid (at + w) (tab (pw - w) (λ i. x))) l
    ∙ ap (λ (x : List ℕ). put x (at + w) (tab (pw - w) (λ i. get_or s (from + (w - 1)) 0))) e
    ∙ ap (λ (x : ℕ). put (put d at row) x (tab (pw - w) (λ i. get_or s (from + (w - 1)) 0))) j
    ∙ put-put d at row (tab (pw - w) (λ i. get_or s (from + (w - 1)) 0)) (omega arith)
    ∙ ap (put d at) (row_padded s from w pw h k)

-- ---- padding
abbrev pub nearest : List ℕ → ℕ → ℕ → ℕ → ℕ → ℕ → ℕ
nearest s from w h r c = get_or s (from + clamped (pos r) h * w + clamped (pos c) w) 0

-- where a turn reads and writes
pub pad_places : (file from w h out at pw ph r row : ℕ) → Padding file from w h out at pw ph → r < ph → row ≡ min r (h - 1)
    → (from + (row * w + w) ≤ file) × (at + (r * pw + pw) ≤ out)
pad_places file from w h out at pw ph r row p k e =
    let high = p.high in
    let held = p.held in
    let room = p.room in
    (omega (arith, row_fits row h w (omega arith)), omega (arith, row_fits r ph pw k))

pub pad_more : (s d out out' : List ℕ) (from w h at pw ph r row : ℕ) → Padding (length s) from w h (length d) at pw ph → r < ph → row ≡ min r (h - 1)
    → out' ≡ put out (at + r * pw) (tab pw (λ c. get_or s (from + row * w + clamped (pos c) w) 0))
    → Stacked d out at pw r (nearest s from w h) → Stacked d out' at pw (r + 1) (nearest s from w h)
pad_more s d out out' from w h at pw ph r row p k e f q =
    stacked_more d out out' at pw r ph (nearest s from w h) p.room k
    (f ∙ ap (λ (n : ℕ). put out (at + r * pw) (tab pw (λ c. get_or s (from + n * w + clamped (pos c) w) 0))) e) q

pub pad_all : (s d out : List ℕ) (from w h at pw ph r : ℕ) → r ≡ ph → Stacked d out at pw r (nearest s from w h) → out ≡ put d at (padded s from w h pw ph)
unfolding padded
pad_all s d out from w h at pw ph r e q = stacked_all d out at pw r ph (nearest s from w h) e q

-- ---- cropping
abbrev pub in_row : List ℕ → ℕ → ℕ → ℕ → ℕ → ℕ
in_row s from pw r c = get_or s (from + r * pw + c) 0

pub crop_places : (frame from pw out at w h r : ℕ) → Cropping frame from pw out at w h → r < h → (from + (r * pw + w) ≤ frame) × (at + (r * w + w) ≤ out)
crop_places frame from pw out at w h r p k =
    let across = p.across in
    let held = p.held in
    let room = p.room in
    (omega (arith, row_fits r h pw k), omega (arith, row_fits r h w k))

pub crop_more : (s d out out' : List ℕ) (from pw at w h r : ℕ) → Cropping (length s) from pw (length d) at w h → r < h
    → out' ≡ put out (at + r * w) (tab w (λ c. get_or s (from + r * pw + c) 0))
    → Stacked d out at w r (in_row s from pw) → Stacked d out' at w (r + 1) (in_row s from pw)
crop_more s d out out' from pw at w h r p k f q = stacked_more d out out' at w r h (in_row s from pw) p.room k f q

pub crop_all : (s d out : List ℕ) (from pw at w h r : ℕ) → r ≡ h → Stacked d out at w r (in_row s from pw) → out ≡ put d at (cropped s from w h pw)
unfolding cropped
crop_all s d out from pw at w h r e q = stacked_all d out at w r h (in_row s from pw) e q

-- room in rows for the rows of a sound plane
pub crop_room : (frame at out to : ℕ) (p : Plane) → PlaneSound p → at + whole p ≤ frame → to + plain p ≤ out → Cropping frame at p.wide out to p.width p.height
crop_room frame at out to p s h k = let m = mul-le-mul_right p.wide s.down in record { across = s.across; held = omega arith; room = k }
