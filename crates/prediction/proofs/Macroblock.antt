-- What follows where a macroblock is accepted: every block that starts in its squares is, and what its samples are. Assumes nothing.
use mathlib.Core.Path.{◌≡◌, refl, sym, ap, ap₂, ◌∙◌, subst}
use mathlib.Core.List.{List, ◌++◌, map}
use Prim.Native.Nat.{ℕ, ◌+◌, ◌*◌, ◌<◌, ◌≤◌}
use native.Mathlib.Nat.{mul-le-mul}
use native.Mathlib.Omega.{arith}
use lib.ListN.{length, length-append}
use Rattle.std.specs.Prelude.{Err}
use Rattle.numbers.specs.declared.Refusal.{Refusal}
use Rattle.numbers.specs.Outcome.{number_of}
use Rattle.numbers.proofs.Laws.{not_done}
use Rattle.rfc6386.specs.Vector.{each, lowered, sent, quarter_averages, quarter_vector}
use Rattle.rfc6386.specs.declared.Lowering.{Lowering}
use Rattle.rfc6386.specs.Picture.{Plane}
use Rattle.rfc6386.specs.Fetched.{Coordinate}
use Rattle.rfc6386.specs.Clips.{both_clips}
use Rattle.rfc6386.specs.Refusal.{plane_refusal, Sized}
use Rattle.rfc6386.specs.Macroblock.{Source, Reference, side_plane, plane_y, plane_u, plane_v, answered}
use Rattle.rfc6386.specs.Report.{reported}
use Rattle.rfc6386.specs.Answer.{report_told}
use Rattle.rfc6386.proofs.Laws.Steps.{below}
use Rattle.rfc6386.proofs.Laws.Refusals.{Accepts, luma_accepted, u_accepted, v_accepted}
use Rattle.rfc6386.proofs.Laws.Fetched.{report-refused}
use Rattle.rfc6386.specs.declared.Mv.{Mv}
use Rattle.rfc6386.specs.declared.Clips.{Clips}
use Rattle.rfc6386.specs.declared.ReconstructedMb.{ReconstructedMb}
use Rattle.blocks.specs.Lents.{plane_in}
use Rattle.blocks.specs.Taken.{taken}
use Rattle.blocks.specs.Laws.{taken_both}
use Rattle.blocks.specs.declared.lent.Lent.{Lent}
use Rattle.prediction.specs.Tiles.{Starts}
use Rattle.prediction.specs.Stands.{Stands}

module _ {ref : Reference} {col row : ℕ} (A : Accepts ref col row) where
  starts : (n : ℕ) (q : Plane) → n ≤ 16 → ((a b : ℕ) → a < n → b < n → plane_refusal q (col * n + a) (row * n + b) ≡ 0) → Starts q (col * n) (row * n) n
  starts n q h accepted =
      let c : col ≤ 1024 = omega arith in
      let r : row ≤ 1024 = omega arith in
      record { accepted = accepted; x_small = omega (arith, mul-le-mul c h); y_small = omega (arith, mul-le-mul r h) }

  pub luma_starts : Starts (plane_y ref) (col * 16) (row * 16) 16
  luma_starts = starts 16 _ (omega arith) (luma_accepted ref col row A)

  pub u_starts : Starts (plane_u ref) (col * 8) (row * 8) 8
  u_starts = starts 8 _ (omega arith) (u_accepted ref col row A)

  pub v_starts : Starts (plane_v ref) (col * 8) (row * 8) 8
  v_starts = starts 8 _ (omega arith) (v_accepted ref col row A)

  pub sized : Sized ref.cols ref.rows
  sized = record { cols_least = A.cols_least; cols_most = A.cols_most; rows_least = A.rows_least; rows_most = A.rows_most }

-- what is made of a plane at the macroblock's place in it, also by a vector
module _ {ref : Reference} {s : Source} {n col row : ℕ} {l : Lent} (S : Stands ref s n col row l) where
  pub standing : {A : Type 0} (f : Plane → ℕ → ℕ → A) → f (plane_in l) l.at.x l.at.y ≡ f (side_plane ref s n) (col * n) (row * n)
  standing f = λ i. f (record { bytes = S.bytes i; stride = (S.place i).stride; width = (S.place i).w; height = (S.place i).h }) (S.place i).x (S.place i).y

  pub stood : {A : Type 0} (f : Plane → ℕ → ℕ → Mv → A) {m k : Mv} → m ≡ k → f (plane_in l) l.at.x l.at.y m ≡ f (side_plane ref s n) (col * n) (row * n) k
  stood f e = λ i. f (record { bytes = S.bytes i; stride = (S.place i).stride; width = (S.place i).w; height = (S.place i).h }) (S.place i).x (S.place i).y (e i)

pub stands-as : {ref : Reference} {s : Source} {n col row : ℕ} {l k : Lent} → k ≡ l → Stands ref s n col row l → Stands ref s n col row k
stands-as {ref} {s} {n} {col} {row} e = subst (Stands ref s n col row) (sym e)

-- and at the block x columns and y rows further on in a square
pub shifted : {A : Type 0} (f : Plane → ℕ → ℕ → Mv → A) (l k : Lent) (x y : ℕ) {m n : Mv} → k.plane.now ≡ l.plane.now
    → k.at ≡ record { stride = l.at.stride; w = l.at.w; h = l.at.h; x = l.at.x + x; y = l.at.y + y } → m ≡ n
    → f (plane_in k) k.at.x k.at.y m ≡ f (plane_in l) (l.at.x + x) (l.at.y + y) n
shifted f l k x y b p e = λ i. f (record { bytes = b i; stride = (p i).stride; width = (p i).w; height = (p i).h }) (p i).x (p i).y (e i)

-- a refused report, by the refusal's number
pub refused_told : (e : Refusal) (m : ℕ) (s : ReconstructedMb) (l : List Coordinate) (k : Clips) → number_of e ≡ m → report_told (Err e) ≡ reported (answered m s) l k
refused_told e m s l k h = report-refused s l k h (not_done e)

-- three planes' samples
pub three : {a a' b b' c c' : List ℕ} → a ≡ a' → b ≡ b' → c ≡ c' → ◌≡◌ {A = ReconstructedMb} (record { y = a; u = b; v = c }) (record { y = a'; u = b'; v = c' })
three p q r = λ i. record { y = p i; u = q i; v = r i }

-- the vector of quarter q, from the four of the code
pub quarter_of_lem : (low : Lowering) (vs : List Mv) (q : ℕ) → q < 4 → sent (map (each (lowered low.chroma)) (quarter_averages vs)) q ≡ quarter_vector low vs q
quarter_of_lem low vs q h = below (λ q. sent (map (each (lowered low.chroma)) (quarter_averages vs)) q ≡ quarter_vector low vs q) 4 (refl, (refl, (refl, (refl, tt)))) q h

-- ---- what two lists take together, or fetch
pub joint : (l m : List Coordinate) {a b : ℕ} → a ≡ length l → b ≡ length m → a + b ≡ length (l ++ m)
joint l m e h = ap₂ ◌+◌ e h ∙ sym (length-append l m)

pub joint-taken : (l m : List Coordinate) (k j : Clips) {a b : ℕ} → a ≡ taken (length l) k → b ≡ taken (length m) j → a + b ≡ taken (length (l ++ m)) (both_clips k j)
joint-taken l m k j e h = ap₂ ◌+◌ e h ∙ taken_both (length l) (length m) k j ∙ ap (λ (n : ℕ). taken n (both_clips k j)) (sym (length-append l m))
