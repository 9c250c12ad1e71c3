-- Planes and frames padded and cropped back, or cropped and padded again, as lists. Assumes nothing.
use Rattle.std.specs.Prelude.{◌≡◌, refl, true, List, ◌++◌, ℕ, min, ◌+◌, ◌-◌, ◌*◌, ◌<◌, ◌≤◌, pos, length, get_or, take, drop}
use Rattle.std.proofs.Common.{sym, ap, ap₂, ◌∙◌, append_assoc, arith, length-append, length-drop, take-append-drop, length-take-le, get_or-append-add, get_or-drop, get_or-take, take-add}
use Rattle.std.proofs.Math.ListN.{get_or-append}
use Rattle.rfc6386.specs.Number.{clamped}
use Rattle.rfc6386.specs.Raster.{tab, raster}
use Rattle.rfc6386.proofs.Laws.Raster.{is-tab, get_or-raster, raster_ext, tab-raster, row_fits}
use Rattle.y4m_header.specs.Words.{same}
use Rattle.y4m_header.proofs.Definitions.{same_equal}
use Rattle.y4m_frames.specs.Frames.{frame_mark, half, blocks, plain, whole, frame_length, padded, cropped, padded_plane, cropped_plane, padded_frame, file_frame}
use Rattle.y4m_frames.specs.Inner.{PlaneSound, Sound}
use Rattle.y4m_frames.proofs.Calls.{length-padded, length-cropped}
use Rattle.y4m_frames.specs.declared.planes.Plane.{Plane}
use Rattle.y4m_frames.specs.declared.planes.Sizes.{Sizes}

-- ---- sizes
-- THEOREM. Whole macroblocks hold n samples, and fewer do not.
pub blocks_hold : (n : ℕ) → n ≤ 16 * blocks n
blocks_hold n = omega arith

pub blocks_least : (n k : ℕ) → n ≤ 16 * k → blocks n ≤ k
blocks_least n k h = omega arith

-- THEOREM. Halves are rounded up.
pub half_even : (n : ℕ) → half (2 * n) ≡ n
half_even n = omega arith

pub half_odd : (n : ℕ) → half (2 * n + 1) ≡ n + 1
half_odd n = omega arith

-- THEOREM. Each sample of a padded plane is the nearest of the plane's.
pub padded_sample : (file : List ℕ) (at : ℕ) (p : Plane) (r c : ℕ) → r < p.high → c < p.wide
    → get_or (padded_plane file at p) (r * p.wide + c) 0 ≡ get_or file (at + clamped (pos r) p.height * p.width + clamped (pos c) p.width) 0
unfolding padded
padded_sample file at p r c h k = get_or-raster p.high p.wide (λ r c. get_or file (at + clamped (pos r) p.height * p.width + clamped (pos c) p.width) 0) r c h k

-- ---- a plane padded and cropped
-- the bytes of a list from k on
part_of : (l : List ℕ) (k n : ℕ) → k + n ≤ length l → take n (drop k l) ≡ tab n (λ i. get_or l (k + i) 0)
part_of l k n h =
    is-tab 0 n (λ i. get_or l (k + i) 0) (take n (drop k l)) (length-take-le n (drop k l) (omega (arith, length-drop k l)))
    (λ i m. get_or-take n (drop k l) i 0 m ∙ get_or-drop k l i 0)

-- THEOREM. Where a padded plane stands in a frame, cropping gives the plane's bytes.
pub plane_back : (file frame : List ℕ) (at to : ℕ) (p : Plane) → PlaneSound p → ((i : ℕ) → i < whole p → get_or frame (to + i) 0 ≡ get_or (padded_plane file at p) i 0)
    → cropped_plane frame to p ≡ tab (plain p) (λ i. get_or file (at + i) 0)
unfolding padded cropped
plane_back file frame at to p s e =
    raster_ext p.height p.width (λ r c. get_or frame (to + r * p.wide + c) 0) (λ r c. get_or file (at + (r * p.width + c)) 0) each
    ∙ sym (tab-raster p.height p.width (λ i. get_or file (at + i) 0))
  where
    each : (r c : ℕ) → r < p.height → c < p.width → get_or frame (to + r * p.wide + c) 0 ≡ get_or file (at + (r * p.width + c)) 0
    each r c h k =
        let across = s.across in
        let down = s.down in
        let there : to + r * p.wide + c ≡ to + (r * p.wide + c) = omega arith in
        let row : min r (p.height - 1) ≡ r = omega arith in
        let col : min c (p.width - 1) ≡ c = omega arith in
        let back : at + r * p.width + c ≡ at + (r * p.width + c) = omega arith in
        ap (λ (i : ℕ). get_or frame i 0) there
        ∙ e (r * p.wide + c) (omega (arith, row_fits r p.high p.wide (omega arith)))
        ∙ get_or-raster p.high p.wide (λ r c. get_or file (at + clamped (pos r) p.height * p.width + clamped (pos c) p.width) 0) r c (omega arith) (omega arith)
        ∙ ap₂ (λ (i j : ℕ). get_or file (at + i * p.width + j) 0) row col
        ∙ ap (λ (i : ℕ). get_or file i 0) back

-- ---- a frame read and written
-- a part of a list of four, by where it starts
first_part : (y r : List ℕ) (i : ℕ) → i < length y → get_or (y ++ r) (0 + i) 0 ≡ get_or y i 0
first_part y r i h = let e : 0 + i ≡ i = omega arith in ap (λ (k : ℕ). get_or (y ++ r) k 0) e ∙ get_or-append y r 0 i h

later_part : (a y r : List ℕ) (n i : ℕ) → length a ≡ n → i < length y → get_or (a ++ (y ++ r)) (n + i) 0 ≡ get_or y i 0
later_part a y r n i e h =
    ap (λ (k : ℕ). get_or (a ++ (y ++ r)) (k + i) 0) (sym e) ∙ get_or-append-add a (y ++ r) i 0 ∙ get_or-append y r 0 i h

-- THEOREM. The file's bytes of a padded frame, with what may follow it, are the mark and the samples that it was padded from.
pub frame_back : (file rest : List ℕ) (s : Sizes) → Sound s → same (take 6 file) frame_mark ≡ true → frame_length s ≤ length file
    → file_frame (padded_frame file s ++ rest) s ≡ take (frame_length s) file
unfolding padded_frame file_frame
frame_back file rest s sound marked held =
    let a = plain s.luma in
    let b = plain s.chroma in
    let y = padded_plane file 6 s.luma in
    let u = padded_plane file (6 + a) s.chroma in
    let v = padded_plane file (6 + a + b) s.chroma in
    let frame = (y ++ (u ++ v)) ++ rest in
    let ny = length-padded file 6 s.luma in
    let nu = length-padded file (6 + a) s.chroma in
    let nv = length-padded file (6 + a + b) s.chroma in
    let as-u : frame ≡ y ++ (u ++ (v ++ rest)) = append_assoc y (u ++ v) rest ∙ ap (λ (l : List ℕ). y ++ l) (append_assoc u v rest) in
    let as-v : frame ≡ (y ++ u) ++ (v ++ rest) = as-u ∙ sym (append_assoc y u (v ++ rest)) in
    let back-y : cropped_plane frame 0 s.luma ≡ tab a (λ i. get_or file (6 + i) 0) =
    plane_back file frame 6 0 s.luma sound.luma
    (λ i h. ap (λ (l : List ℕ). get_or l (0 + i) 0) as-u ∙ first_part y (u ++ (v ++ rest)) i (omega arith)) in
    let back_u : cropped_plane frame (whole s.luma) s.chroma ≡ tab b (λ i. get_or file (6 + a + i) 0) =
    plane_back file frame (6 + a) (whole s.luma) s.chroma sound.chroma
    (λ i h. ap (λ (l : List ℕ). get_or l (whole s.luma + i) 0) as-u ∙ later_part y u (v ++ rest) (whole s.luma) i ny (omega arith)) in
    let back-v : cropped_plane frame (whole s.luma + whole s.chroma) s.chroma ≡ tab b (λ i. get_or file (6 + a + b + i) 0) =
    plane_back file frame (6 + a + b) (whole s.luma + whole s.chroma) s.chroma sound.chroma
    (λ i h. ap (λ (l : List ℕ). get_or l (whole s.luma + whole s.chroma + i) 0) as-v
    ∙ later_part (y ++ u) v rest (whole s.luma + whole s.chroma) i (length-append y u ∙ omega arith) (omega arith)) in
    let left : (frame_mark ++ (cropped_plane frame 0 s.luma ++ (cropped_plane frame (whole s.luma) s.chroma ++ cropped_plane frame (whole s.luma + whole s.chroma) s.chroma)))
    ≡ (frame_mark ++ (tab a (λ i. get_or file (6 + i) 0) ++ (tab b (λ i. get_or file (6 + a + i) 0) ++ tab b (λ i. get_or file (6 + a + b + i) 0)))) =
    (λ k. frame_mark ++ (back-y k ++ (back_u k ++ back-v k))) in
    let sum : 6 + (a + (b + b)) ≡ 6 + a + b + b = omega arith in
    let right : take (6 + (a + (b + b))) file ≡ ((take 6 file ++ take a (drop 6 file)) ++ take b (drop (6 + a) file)) ++ take b (drop (6 + a + b) file) =
    ap (λ (n : ℕ). take n file) sum ∙ take-add (6 + a + b) b file ∙ ap (λ (l : List ℕ). l ++ take b (drop (6 + a + b) file)) (take-add (6 + a) b file ∙ ap (λ (l : List ℕ). l ++ take b (drop (6 + a) file)) (take-add 6 a file)) in
    let m = same_equal (take 6 file) frame_mark marked in
    let py = part_of file 6 a (omega arith) in
    let pu = part_of file (6 + a) b (omega arith) in
    let pv = part_of file (6 + a + b) b (omega arith) in
    left
    ∙ sym (right
    ∙ (λ k. ((m k ++ py k) ++ pu k) ++ pv k)
    ∙ append_assoc (frame_mark ++ tab a (λ i. get_or file (6 + i) 0)) (tab b (λ i. get_or file (6 + a + i) 0)) (tab b (λ i. get_or file (6 + a + b + i) 0))
    ∙ append_assoc frame_mark (tab a (λ i. get_or file (6 + i) 0)) (tab b (λ i. get_or file (6 + a + i) 0) ++ tab b (λ i. get_or file (6 + a + b + i) 0)))

-- ---- a frame written and read
-- a padded plane whose edge is repeated again: each sample is the nearest of the w by h that are not padding
unfoldable pub edged : List ℕ → ℕ → Plane → List ℕ
edged l at p = raster p.high p.wide (λ r c. get_or l (at + clamped (pos r) p.height * p.wide + clamped (pos c) p.width) 0)

unfoldable pub edged_frame : List ℕ → Sizes → List ℕ
edged_frame frame s = edged frame 0 s.luma ++ (edged frame (whole s.luma) s.chroma ++ edged frame (whole s.luma + whole s.chroma) s.chroma)

-- THEOREM. Where a cropped plane stands in a file, padding gives the plane with its edge repeated.
pub plane_again : (frame file : List ℕ) (at to : ℕ) (p : Plane) → PlaneSound p → ((i : ℕ) → i < plain p → get_or file (to + i) 0 ≡ get_or (cropped_plane frame at p) i 0)
    → padded_plane file to p ≡ edged frame at p
unfolding padded cropped edged
plane_again frame file at to p s e =
    raster_ext p.high p.wide (λ r c. get_or file (to + clamped (pos r) p.height * p.width + clamped (pos c) p.width) 0)
    (λ r c. get_or frame (at + clamped (pos r) p.height * p.wide + clamped (pos c) p.width) 0) (λ r c h k. each (min r (p.height - 1)) (min c (p.width - 1)) (in_rows r) (in_row c))
  where
    in_rows : (r : ℕ) → min r (p.height - 1) < p.height
    in_rows r = let rows = s.rows in omega arith

    in_row : (c : ℕ) → min c (p.width - 1) < p.width
    in_row c = let some = s.some in omega arith

    each : (r c : ℕ) → r < p.height → c < p.width → get_or file (to + r * p.width + c) 0 ≡ get_or frame (at + r * p.wide + c) 0
    each r c h k =
        let there : to + r * p.width + c ≡ to + (r * p.width + c) = omega arith in
        ap (λ (i : ℕ). get_or file i 0) there
        ∙ e (r * p.width + c) (omega (arith, row_fits r p.height p.width h))
        ∙ get_or-raster p.height p.width (λ r c. get_or frame (at + r * p.wide + c) 0) r c h k

-- THEOREM. The padded frame of what is written, with what may follow it, is the frame with its edges repeated.
pub frame_again : (frame rest : List ℕ) (s : Sizes) → Sound s → padded_frame (file_frame frame s ++ rest) s ≡ edged_frame frame s
unfolding padded_frame file_frame edged_frame
frame_again frame rest s sound =
    let a = plain s.luma in
    let b = plain s.chroma in
    let y = cropped_plane frame 0 s.luma in
    let u = cropped_plane frame (whole s.luma) s.chroma in
    let v = cropped_plane frame (whole s.luma + whole s.chroma) s.chroma in
    let file = (frame_mark ++ (y ++ (u ++ v))) ++ rest in
    let ny = length-cropped frame 0 s.luma in
    let nu = length-cropped frame (whole s.luma) s.chroma in
    let nv = length-cropped frame (whole s.luma + whole s.chroma) s.chroma in
    let as-y : file ≡ frame_mark ++ (y ++ ((u ++ v) ++ rest)) = append_assoc frame_mark (y ++ (u ++ v)) rest ∙ ap (λ (l : List ℕ). frame_mark ++ l) (append_assoc y (u ++ v) rest) in
    let as-u : file ≡ (frame_mark ++ y) ++ (u ++ (v ++ rest)) =
    as-y ∙ ap (λ (l : List ℕ). frame_mark ++ (y ++ l)) (append_assoc u v rest) ∙ sym (append_assoc frame_mark y (u ++ (v ++ rest))) in
    let as-v : file ≡ ((frame_mark ++ y) ++ u) ++ (v ++ rest) = as-u ∙ sym (append_assoc (frame_mark ++ y) u (v ++ rest)) in
    let long-u : length (frame_mark ++ y) ≡ 6 + a = length-append frame_mark y ∙ omega arith in
    let long-v : length ((frame_mark ++ y) ++ u) ≡ 6 + a + b = length-append (frame_mark ++ y) u ∙ omega arith in
    let again-y : padded_plane file 6 s.luma ≡ edged frame 0 s.luma =
    plane_again frame file 0 6 s.luma sound.luma
    (λ i h. ap (λ (l : List ℕ). get_or l (6 + i) 0) as-y ∙ later_part frame_mark y ((u ++ v) ++ rest) 6 i refl (omega arith)) in
    let again-u : padded_plane file (6 + a) s.chroma ≡ edged frame (whole s.luma) s.chroma =
    plane_again frame file (whole s.luma) (6 + a) s.chroma sound.chroma
    (λ i h. ap (λ (l : List ℕ). get_or l (6 + a + i) 0) as-u ∙ later_part (frame_mark ++ y) u (v ++ rest) (6 + a) i long-u (omega arith)) in
    let again-v : padded_plane file (6 + a + b) s.chroma ≡ edged frame (whole s.luma + whole s.chroma) s.chroma =
    plane_again frame file (whole s.luma + whole s.chroma) (6 + a + b) s.chroma sound.chroma
    (λ i h. ap (λ (l : List ℕ). get_or l (6 + a + b + i) 0) as-v ∙ later_part ((frame_mark ++ y) ++ u) v rest (6 + a + b) i long-v (omega arith)) in
    (λ k. again-y k ++ (again-u k ++ again-v k))

-- THEOREM. A padded frame, with what may follow it, is its own frame with the edges repeated.
pub padded-edged : (file rest : List ℕ) (s : Sizes) → Sound s → same (take 6 file) frame_mark ≡ true → frame_length s ≤ length file
    → edged_frame (padded_frame file s ++ rest) s ≡ padded_frame file s
padded-edged file rest s sound marked held =
    let n = frame_length s in
    sym (frame_again (padded_frame file s ++ rest) (drop n file) s sound)
    ∙ ap (λ (l : List ℕ). padded_frame (l ++ drop n file) s) (frame_back file rest s sound marked held)
    ∙ ap (λ (l : List ℕ). padded_frame l s) (take-append-drop n file)
