-- What the calls on a macroblock report: the prediction, how many samples were fetched for it (request K8), and how many were clipped (K14).
use Rattle.std.specs.Prelude.{ℕ, zero, suc, ◌+◌, ◌*◌, ◌/◌, ◌%◌, ◌^◌, Bool, true, cond, ◌&&◌, List, ◌++◌, length}
use Rattle.std.specs.Int.Signed.{le_z}
use Rattle.rfc6386.specs.Vector.{luma_vector, chroma_vector, quarter_vector, sent, mergeable}
use Rattle.rfc6386.specs.declared.Lowering.{Lowering}
use Rattle.rfc6386.specs.Picture.{Plane, image}
use Rattle.rfc6386.specs.Clips.{no_clips, both_clips, clips_by, block_clips}
use Rattle.rfc6386.specs.Fetched.{Coordinate, pixels_of, block_of, tiles_of}
use Rattle.rfc6386.specs.Refusal.{if_done}
use Rattle.rfc6386.specs.Block.{counted}
use Rattle.rfc6386.specs.Macroblock.{Reference, plane_y, plane_u, plane_v, subblock, quarter, whole, split, whole_pixel}
use Rattle.rfc6386.specs.declared.Mv.{Mv}
use Rattle.rfc6386.specs.declared.FilterSet.{FilterSet}
use Rattle.rfc6386.specs.declared.Clips.{Clips}
use Rattle.rfc6386.specs.Answer.{Prediction, Report}

-- ---- what is fetched: of Y, then of U, then of V
unfoldable pub whole_of : Lowering → Reference → ℕ → ℕ → Mv → List Coordinate
whole_of low ref col row v =
    block_of 16 (plane_y ref) (col * 16) (row * 16) (luma_vector low v)
    ++ (block_of 8 (plane_u ref) (col * 8) (row * 8) (chroma_vector low v) ++ block_of 8 (plane_v ref) (col * 8) (row * 8) (chroma_vector low v))

unfoldable pub whole_pixel_of : Lowering → Reference → ℕ → ℕ → Mv → List Coordinate
whole_pixel_of low ref col row v =
    pixels_of 16 (plane_y ref) (col * 16) (row * 16) (luma_vector low v)
    ++ (pixels_of 8 (plane_u ref) (col * 8) (row * 8) (chroma_vector low v) ++ pixels_of 8 (plane_v ref) (col * 8) (row * 8) (chroma_vector low v))

-- U and V of a split one
unfoldable pub split_chroma_of : Lowering → Reference → ℕ → ℕ → List Mv → List Coordinate
split_chroma_of low ref col row vs =
    tiles_of 2 (plane_u ref) (col * 8) (row * 8) (quarter_vector low vs) ++ tiles_of 2 (plane_v ref) (col * 8) (row * 8) (quarter_vector low vs)

unfoldable pub split_of : Lowering → Reference → ℕ → ℕ → List Mv → List Coordinate
split_of low ref col row vs = tiles_of 4 (plane_y ref) (col * 16) (row * 16) (λ b. luma_vector low (sent vs b)) ++ split_chroma_of low ref col row vs

-- ---- merging: sixteen vectors that are one are fetched as one
-- p holds of every number below n
unfoldable pub every : ℕ → (ℕ → Bool) → Bool
every zero p = true
every (suc n) p = p n && every n p

abbrev pub same_vector : Mv → Mv → Bool
same_vector a b = (le_z a.row b.row && le_z b.row a.row) && (le_z a.col b.col && le_z b.col a.col)

unfoldable pub is_one : List Mv → Bool
is_one vs = every 16 (λ b. same_vector (sent vs b) (sent vs 0)) && mergeable (sent vs 0)

unfoldable pub merging_of : Lowering → Reference → ℕ → ℕ → List Mv → List Coordinate
merging_of low ref col row vs = cond (is_one vs) (whole_of low ref col row (sent vs 0)) (split_of low ref col row vs)

-- ---- merging by quarters: a square whose vectors are all equal is fetched in one go, of any other each quarter by the same rule
-- every sample of the square of side n at column x, row y of the macroblock has the vector of its first
unfoldable pub one_in : List Mv → ℕ → ℕ → ℕ → Bool
one_in vs x y n = every (n * n) (λ i. same_vector (sent vs (subblock (y + i / n) (x + i % n))) (sent vs (subblock y x)))

-- the square of side 4 * 2 ^ k at column x, row y of the macroblock, whose luma stands at column at_x, row at_y of the plane
unfoldable pub luma : ℕ → Lowering → Plane → ℕ → ℕ → List Mv → ℕ → ℕ → List Coordinate
luma zero low p at_x at_y vs x y = block_of 4 p (at_x + x) (at_y + y) (luma_vector low (sent vs (subblock y x)))
luma (suc k) low p at_x at_y vs x y =
    let half = 4 * 2 ^ k in
    cond (one_in vs x y (half + half)) (block_of (half + half) p (at_x + x) (at_y + y) (luma_vector low (sent vs (subblock y x))))
    (luma k low p at_x at_y vs x y
    ++ (luma k low p at_x at_y vs (x + half) y ++ (luma k low p at_x at_y vs x (y + half) ++ luma k low p at_x at_y vs (x + half) (y + half))))

unfoldable pub quarters_of : Lowering → Reference → ℕ → ℕ → List Mv → List Coordinate
quarters_of low ref col row vs = luma 2 low (plane_y ref) (col * 16) (row * 16) vs 0 0 ++ split_chroma_of low ref col row vs

-- ---- what is clipped: the totals of the three planes, beside `whole_samples` and `split_samples`
unfoldable pub whole_clips : FilterSet → Lowering → Reference → ℕ → ℕ → Mv → Clips
whole_clips set low ref col row v =
    both_clips (block_clips 16 set (image (plane_y ref)) (col * 16) (row * 16) (luma_vector low v))
    (both_clips (block_clips 8 set (image (plane_u ref)) (col * 8) (row * 8) (chroma_vector low v))
    (block_clips 8 set (image (plane_v ref)) (col * 8) (row * 8) (chroma_vector low v)))

unfoldable pub split_clips : FilterSet → Lowering → Reference → ℕ → ℕ → List Mv → Clips
split_clips set low ref col row vs =
    both_clips (clips_by 16 set (image (plane_y ref)) (col * 16) (row * 16) (λ r c. luma_vector low (sent vs (subblock r c))))
    (both_clips (clips_by 8 set (image (plane_u ref)) (col * 8) (row * 8) (λ r c. quarter_vector low vs (quarter r c)))
    (clips_by 8 set (image (plane_v ref)) (col * 8) (row * 8) (λ r c. quarter_vector low vs (quarter r c))))

-- ---- what the calls report: the prediction, how many samples it fetched, and how many were clipped, none where it refuses
abbrev pub reported : Prediction → List Coordinate → Clips → Report
reported p l k = record { prediction = p; fetched = if_done p.number (length l) 0; clips = counted p.number k }

-- predict_inter_mb
unfoldable pub whole_report : FilterSet → Lowering → Reference → ℕ → ℕ → Mv → Report
whole_report set low ref col row v = reported (whole set low ref col row v) (whole_of low ref col row v) (whole_clips set low ref col row v)

-- predict_inter_mb_whole_pixel
unfoldable pub whole_pixel_report : Lowering → Reference → ℕ → ℕ → Mv → Report
whole_pixel_report low ref col row v = reported (whole_pixel low ref col row v) (whole_pixel_of low ref col row v) no_clips

-- predict_split_mv
unfoldable pub split_report : FilterSet → Lowering → Reference → ℕ → ℕ → List Mv → Report
split_report set low ref col row vs = reported (split set low ref col row vs) (split_of low ref col row vs) (split_clips set low ref col row vs)

-- predict_merging
unfoldable pub merging_report : FilterSet → Lowering → Reference → ℕ → ℕ → List Mv → Report
merging_report set low ref col row vs = reported (split set low ref col row vs) (merging_of low ref col row vs) (split_clips set low ref col row vs)

-- predict_quarters
unfoldable pub quarters_report : FilterSet → Lowering → Reference → ℕ → ℕ → List Mv → Report
quarters_report set low ref col row vs = reported (split set low ref col row vs) (quarters_of low ref col row vs) (split_clips set low ref col row vs)
