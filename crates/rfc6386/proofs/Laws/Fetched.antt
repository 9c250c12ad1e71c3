-- Laws of what is fetched: how long the lists are. Assumes nothing.
use Rattle.std.specs.Prelude.{◌≡◌, Bool, true, false, cond, ◌&&◌, ◌↔◌, List, ◌∷◌, ◌++◌, map, ℤ, negsuc, ◌+ℤ◌, ◌-ℤ◌}
use Rattle.std.proofs.Math.Path.{refl, ap}
use Rattle.std.proofs.Common.{sym, ap₂, ◌∙◌, ⊎_elim, le_of_eq, mul-le-mul, not-suc-le-zero, eq-or-lt_of_le, mod-lt, div-lt_iff_lt-mul, le-leb}
use Prim.Native.Nat.{ℕ, zero, suc, ◌+◌, ◌*◌, ◌/◌, ◌%◌, ◌^◌, ◌<◌, ◌≤◌}
use native.Mathlib.Omega.{arith}
use Rattle.std.proofs.Math.Arith.{digits_div, digits_mod}
use Rattle.std.proofs.Math.ListN.{length, length-append}
use Rattle.std.proofs.Math.IntN.{pos}
use Rattle.std.specs.Int.Signed.{le_z}
use Rattle.signed.specs.Int.{le_z-true, int}
use Rattle.rfc6386.specs.Vector.{whole_part, luma_vector, sent, is_whole, mergeable, One}
use Rattle.rfc6386.specs.declared.Lowering.{Lowering}
use Rattle.rfc6386.specs.Raster.{tab, raster}
use Rattle.rfc6386.specs.Sums.{sum_to}
use Rattle.rfc6386.specs.Picture.{Plane, sample_at, image, square, pixels, halo}
use Rattle.rfc6386.specs.Refusal.{if_done, plane_refusal}
use Rattle.rfc6386.specs.Block.{shown, pixels4, pixels8, pixels16, halo9, halo13, halo21}
use Rattle.rfc6386.specs.Macroblock.{subblock, answered}
use Rattle.rfc6386.specs.Answer.{no_samples, FetchAnswer, Report}
use Rattle.rfc6386.specs.Fetched.{Coordinate, square_of, pixels_of, halo_of, block_of, joined, tiles_of}
use Rattle.rfc6386.specs.Clips.{no_clips}
use Rattle.rfc6386.specs.Report.{every, same_vector, is_one, one_in, luma, reported}
use Rattle.rfc6386.proofs.Laws.Raster.{length-tab, row_fits}
use Rattle.rfc6386.proofs.Laws.Sums.{sum_ext, sum_least}
use Rattle.rfc6386.proofs.Laws.Tests.{and-true}
use Rattle.rfc6386.proofs.Laws.Refusals.{done, refused, refused_is, done_is}
use Rattle.rfc6386.proofs.Laws.Vectors.{vector}
use Rattle.rfc6386.specs.declared.Mv.{Mv}
use Rattle.rfc6386.specs.declared.ReconstructedMb.{ReconstructedMb}
use Rattle.rfc6386.specs.declared.Clips.{Clips}

-- ---- squares and blocks
pub length-square : (n w h : ℕ) (x y : ℤ) → length (square_of n w h x y) ≡ n * n
unfolding square_of
length-square n w h x y = length-tab _ _

map-tab : {A B : Type 0} (k : ℕ) (g : A → B) (f : ℕ → A) → map g (tab k f) ≡ tab k (λ i. g (f i))
unfolding tab
map-tab zero g f = refl
map-tab {B = B} (suc k) g f = ap (λ (l : List B). g (f 0) ∷ l) (map-tab k g (λ i. f (suc i)))

-- THEOREM. The samples that are fetched are those at the coordinates, in order.
pub square_fetched : (n : ℕ) (p : Plane) (x y : ℤ) → square n (image p) x y ≡ map (λ a. sample_at p a.col a.row) (square_of n p.width p.height x y)
unfolding square image raster square_of
square_fetched n p x y = sym (map-tab (n * n) _ _)

-- what a block of n samples a side costs
abbrev pub cost : ℕ → Mv → ℕ
cost n v = cond (is_whole v) (n * n) ((n + 5) * (n + 5))

-- THEOREM (the closed form). n squared where both fractions are 0, else (n + 5) squared.
pub length-block : (n : ℕ) (p : Plane) (x y : ℕ) (v : Mv) → length (block_of n p x y v) ≡ cost n v
unfolding block_of
length-block n p x y v = at (is_whole v)
  where
    at : (b : Bool) → length (cond b (pixels_of n p x y v) (halo_of n p x y v)) ≡ cond b (n * n) ((n + 5) * (n + 5))
    at true = length-square n _ _ _ _
    at false = length-square (n + 5) _ _ _ _

-- ---- the fetches' answers: number, samples, and the closed form of the count
abbrev pub as_pixels4 : ℕ → List ℕ → FetchAnswer
as_pixels4 n l = record { number = n; samples = l; fetched = if_done n 16 0 }

abbrev pub as_pixels8 : ℕ → List ℕ → FetchAnswer
as_pixels8 n l = record { number = n; samples = l; fetched = if_done n 64 0 }

abbrev pub as_pixels16 : ℕ → List ℕ → FetchAnswer
as_pixels16 n l = record { number = n; samples = l; fetched = if_done n 256 0 }

abbrev pub as_halo9 : ℕ → List ℕ → FetchAnswer
as_halo9 n l = record { number = n; samples = l; fetched = if_done n 81 0 }

abbrev pub as_halo13 : ℕ → List ℕ → FetchAnswer
as_halo13 n l = record { number = n; samples = l; fetched = if_done n 169 0 }

abbrev pub as_halo21 : ℕ → List ℕ → FetchAnswer
as_halo21 n l = record { number = n; samples = l; fetched = if_done n 441 0 }

module _ (p : Plane) (x y : ℕ) (v : Mv) where
  pub pixels4_is : pixels4 p x y v ≡ as_pixels4 (plane_refusal p x y) (shown 16 (plane_refusal p x y) (pixels 4 (image p) x y v))
  unfolding pixels4
  pixels4_is =
      λ i. record {
        number = plane_refusal p x y;
        samples = shown 16 (plane_refusal p x y) (pixels 4 (image p) x y v);
        fetched = if_done (plane_refusal p x y) (length-square 4 p.width p.height (pos x +ℤ whole_part v.col) (pos y +ℤ whole_part v.row) i) 0;
      }

  pub pixels8_is : pixels8 p x y v ≡ as_pixels8 (plane_refusal p x y) (shown 64 (plane_refusal p x y) (pixels 8 (image p) x y v))
  unfolding pixels8
  pixels8_is =
      λ i. record {
        number = plane_refusal p x y;
        samples = shown 64 (plane_refusal p x y) (pixels 8 (image p) x y v);
        fetched = if_done (plane_refusal p x y) (length-square 8 p.width p.height (pos x +ℤ whole_part v.col) (pos y +ℤ whole_part v.row) i) 0;
      }

  pub pixels16_is : pixels16 p x y v ≡ as_pixels16 (plane_refusal p x y) (shown 256 (plane_refusal p x y) (pixels 16 (image p) x y v))
  unfolding pixels16
  pixels16_is =
      λ i. record {
        number = plane_refusal p x y;
        samples = shown 256 (plane_refusal p x y) (pixels 16 (image p) x y v);
        fetched = if_done (plane_refusal p x y) (length-square 16 p.width p.height (pos x +ℤ whole_part v.col) (pos y +ℤ whole_part v.row) i) 0;
      }

  pub halo9_is : halo9 p x y v ≡ as_halo9 (plane_refusal p x y) (shown 81 (plane_refusal p x y) (halo 4 (image p) x y v))
  unfolding halo9
  halo9_is =
      λ i. record {
        number = plane_refusal p x y;
        samples = shown 81 (plane_refusal p x y) (halo 4 (image p) x y v);
        fetched = if_done (plane_refusal p x y) (length-square 9 p.width p.height (pos x +ℤ whole_part v.col -ℤ pos 2) (pos y +ℤ whole_part v.row -ℤ pos 2) i) 0;
      }

  pub halo13_is : halo13 p x y v ≡ as_halo13 (plane_refusal p x y) (shown 169 (plane_refusal p x y) (halo 8 (image p) x y v))
  unfolding halo13
  halo13_is =
      λ i. record {
        number = plane_refusal p x y;
        samples = shown 169 (plane_refusal p x y) (halo 8 (image p) x y v);
        fetched = if_done (plane_refusal p x y) (length-square 13 p.width p.height (pos x +ℤ whole_part v.col -ℤ pos 2) (pos y +ℤ whole_part v.row -ℤ pos 2) i) 0;
      }

  pub halo21_is : halo21 p x y v ≡ as_halo21 (plane_refusal p x y) (shown 441 (plane_refusal p x y) (halo 16 (image p) x y v))
  unfolding halo21
  halo21_is =
      λ i. record {
        number = plane_refusal p x y;
        samples = shown 441 (plane_refusal p x y) (halo 16 (image p) x y v);
        fetched = if_done (plane_refusal p x y) (length-square 21 p.width p.height (pos x +ℤ whole_part v.col -ℤ pos 2) (pos y +ℤ whole_part v.row -ℤ pos 2) i) 0;
      }

-- ---- lists one after the other
module _ {A : Type 0} (f : ℕ → List A) where
  pub joined_more : (n : ℕ) → length (joined (n + 1) f) ≡ length (joined n f) + length (f n)
  unfolding joined
  joined_more n = let e : n + 1 ≡ suc n = omega arith in ap (λ (k : ℕ). length (joined k f)) e ∙ length-append (joined n f) (f n)

-- ---- equal vectors
pub every_true : (n : ℕ) (p : ℕ → Bool) → every n p ≡ true → (i : ℕ) → i < n → p i ≡ true
unfolding every
every_true zero p e i h = absurd (not-suc-le-zero h)
every_true (suc n) p e i h =
    let t = and-true (p n) (every n p) e in
    ⊎_elim (λ same. ap p same ∙ t.0) (λ less. every_true n p t.1 i less) (eq-or-lt_of_le (omega arith))

pub true-every : (n : ℕ) (p : ℕ → Bool) → ((i : ℕ) → i < n → p i ≡ true) → every n p ≡ true
unfolding every
true-every zero p h = refl
true-every (suc n) p h = ap₂ ◌&&◌ (h n (omega arith)) (true-every n p (λ i l. h i (omega arith)))

same_number : (a b : ℤ) → le_z a b && le_z b a ≡ true → a ≡ b
same_number a b e = let t = and-true (le_z a b) (le_z b a) e in omega (int, le_z-true a b t.0, le_z-true b a t.1)

itself : (z : ℤ) → le_z z z && le_z z z ≡ true
itself z = ap (λ (b : Bool). b && b) (le_itself z)
  where
    le_itself : (z : ℤ) → le_z z z ≡ true
    le_itself (pos n) = le-leb n n (omega arith)
    le_itself (negsuc n) = le-leb n n (omega arith)

pub vectors_same : (a b : Mv) → same_vector a b ≡ true → a ≡ b
vectors_same a b e = let t = and-true _ _ e in vector (same_number a.row b.row t.0) (same_number a.col b.col t.1)

pub same_vectors : {a b : Mv} → a ≡ b → same_vector a b ≡ true
same_vectors {a} e = ap (λ (v : Mv). same_vector a v) (sym e) ∙ ap₂ ◌&&◌ (itself a.row) (itself a.col)

-- THEOREM. The test is document 01's condition.
pub is_one_lem : (vs : List Mv) → (is_one vs ≡ true) ↔ One vs
unfolding is_one
is_one_lem vs =
    let same : ℕ → Bool = (λ b. same_vector (sent vs b) (sent vs 0)) in (
      (λ e.
          let t = and-true (every 16 same) (mergeable (sent vs 0)) e in
          record { alike = λ b h. vectors_same (sent vs b) (sent vs 0) (every_true 16 same t.0 b h); mergeable_is = t.1 }),
      (λ o. ap₂ ◌&&◌ (true-every 16 same (λ b h. same_vectors (o.alike b h))) o.mergeable_is),
    )

some : (n i : ℕ) → i < n * n → 0 < n
some zero i l = absurd (not-suc-le-zero l)
some (suc n) i l = omega arith

-- and of a square: every sample has the vector of the first
pub one_in_lem : (vs : List Mv) (x y n : ℕ)
    → (one_in vs x y n ≡ true) ↔ ((r c : ℕ) → r < n → c < n → sent vs (subblock (y + r) (x + c)) ≡ sent vs (subblock y x))
unfolding one_in
one_in_lem vs x y n = (
  (λ e r c hr hc. by r c hc (vectors_same _ _ (every_true (n * n) _ e (r * n + c) (omega (arith, row_fits r n n hr))))),
  (λ h. true-every (n * n) _ (λ i l. same_vectors (let w = wide i l in h (i / n) (i % n) ((div-lt_iff_lt-mul w).1 l) (mod-lt i w)))),
)
  where
    wide : (i : ℕ) → i < n * n → 0 < n
    wide i l = some n i l

    by : (r c : ℕ) → c < n → sent vs (subblock (y + (r * n + c) / n) (x + (r * n + c) % n)) ≡ sent vs (subblock y x) → sent vs (subblock (y + r) (x + c)) ≡ sent vs (subblock y x)
    by r c h e = sym (ap₂ (λ (a b : ℕ). sent vs (subblock (y + a) (x + b))) (digits_div r h) (digits_mod r h)) ∙ e

pub cost_least : (n : ℕ) (v : Mv) → n * n ≤ cost n v
cost_least n v = at (is_whole v)
  where
    at : (b : Bool) → n * n ≤ cond b (n * n) ((n + 5) * (n + 5))
    at true = omega arith
    at false = mul-le-mul {n₂ = n + 5} {m₂ = n + 5} (omega arith) (omega arith)

pub cost_most : (n : ℕ) (v : Mv) → cost n v ≤ (n + 5) * (n + 5)
cost_most n v = at (is_whole v)
  where
    at : (b : Bool) → cond b (n * n) ((n + 5) * (n + 5)) ≤ (n + 5) * (n + 5)
    at true = mul-le-mul {n₂ = n + 5} {m₂ = n + 5} (omega arith) (omega arith)
    at false = omega arith

-- a block of twice the side costs at most four
pub cost_eight : (v : Mv) → cost 8 v ≤ 4 * cost 4 v
cost_eight v = at (is_whole v)
  where
    at : (b : Bool) → cond b 64 169 ≤ 4 * cond b 16 81
    at true = omega arith
    at false = omega arith

pub cost_sixteen : (v : Mv) → cost 16 v ≤ 16 * cost 4 v
cost_sixteen v = at (is_whole v)
  where
    at : (b : Bool) → cond b 256 441 ≤ 16 * cond b 16 81
    at true = omega arith
    at false = omega arith

-- ---- luma by quarters
-- the costs of a square's 4x4 blocks, f b that of block b
abbrev pub tiles_cost : ℕ → (ℕ → ℕ) → ℕ → ℕ → ℕ
tiles_cost zero f x y = f (subblock y x)
tiles_cost (suc k) f x y =
    let half = 4 * 2 ^ k in
    tiles_cost k f x y + (tiles_cost k f (x + half) y + (tiles_cost k f x (y + half) + tiles_cost k f (x + half) (y + half)))

pub length-joined : {A : Type 0} (n : ℕ) (f : ℕ → List A) → length (joined n f) ≡ sum_to n (λ i. length (f i))
unfolding joined sum_to
length-joined zero f = refl
length-joined (suc n) f = length-append (joined n f) (f n) ∙ ap (λ (k : ℕ). k + length (f n)) (length-joined n f)

pub length_tiles : (per : ℕ) (p : Plane) (x y : ℕ) (vector : ℕ → Mv) → length (tiles_of per p x y vector) ≡ sum_to (per * per) (λ b. cost 4 (vector b))
unfolding tiles_of
length_tiles per p x y vector = length-joined (per * per) _ ∙ sum_ext (per * per) _ _ (λ b h. length-block 4 p (x + b % per * 4) (y + b / per * 4) (vector b))

pub tiles_sixteen : (f : ℕ → ℕ) → tiles_cost 2 f 0 0 ≡ sum_to 16 f
unfolding sum_to
tiles_sixteen f = omega arith

module _ (low : Lowering) (p : Plane) (at_x at_y : ℕ) (vs : List Mv) where
  abbrev due : ℕ → ℕ
  due b = cost 4 (luma_vector low (sent vs b))

  four_parts : {A : Type 0} (a b c d : List A) → length (a ++ (b ++ (c ++ d))) ≡ length a + (length b + (length c + length d))
  four_parts a b c d = omega (arith, length-append a (b ++ (c ++ d)), length-append b (c ++ d), length-append c d)

  abbrev part : ℕ → ℕ → ℕ → List Coordinate
  part k x y = luma k low p at_x at_y vs x y

  abbrev once : ℕ → ℕ → ℕ → List Coordinate
  once n x y = block_of n p (at_x + x) (at_y + y) (luma_vector low (sent vs (subblock y x)))

  abbrev parts : ℕ → ℕ → ℕ → List Coordinate
  parts k x y = let half = 4 * 2 ^ k in part k x y ++ (part k (x + half) y ++ (part k x (y + half) ++ part k (x + half) (y + half)))

  -- of a square whose vectors are not all equal
  pub luma_apart : (k x y : ℕ) → one_in vs x y (4 * 2 ^ k + 4 * 2 ^ k) ≡ false
      → let half = 4 * 2 ^ k in
      length (part (suc k) x y) ≡ length (part k x y) + (length (part k (x + half) y) + (length (part k x (y + half)) + length (part k (x + half) (y + half))))
  unfolding luma
  luma_apart k x y e =
      let half = 4 * 2 ^ k in
      ap (λ (b : Bool). length (cond b (once (half + half) x y) (parts k x y))) e
      ∙ four_parts (part k x y) (part k (x + half) y) (part k x (y + half)) (part k (x + half) (y + half))

  -- and of one whose vectors are
  pub luma_one : (k x y : ℕ) → one_in vs x y (4 * 2 ^ k + 4 * 2 ^ k) ≡ true → length (part (suc k) x y) ≡ length (once (4 * 2 ^ k + 4 * 2 ^ k) x y)
  unfolding luma
  luma_one k x y e = let half = 4 * 2 ^ k in ap (λ (b : Bool). length (cond b (once (half + half) x y) (parts k x y))) e

  pub luma_least : (x y : ℕ) → length (part 0 x y) ≡ length (once 4 x y)
  unfolding luma
  luma_least x y = refl

  least-cost : (x y : ℕ) → length (part 0 x y) ≡ tiles_cost 0 due x y
  least-cost x y = luma_least x y ∙ length-block 4 p (at_x + x) (at_y + y) (luma_vector low (sent vs (subblock y x)))

  -- where no quarter has one vector, all is by 4x4 blocks
  pub luma_split : ((q : ℕ) → q < 4 → one_in vs (q % 2 * 8) (q / 2 * 8) 8 ≡ false) → length (part 2 0 0) ≡ sum_to 16 due
  luma_split none =
      luma_apart 1 0 0 (not_all (one_in vs 0 0 16) refl)
      ∙ (λ i. quarter 0 (omega arith) i + (quarter 1 (omega arith) i + (quarter 2 (omega arith) i + quarter 3 (omega arith) i)))
      ∙ tiles_sixteen due
    where
      -- all sixteen, and so the first quarter
      not_all : (b : Bool) → one_in vs 0 0 16 ≡ b → b ≡ false
      not_all false e = refl
      not_all true e = sym ((one_in_lem vs 0 0 8).1 (λ r c hr hc. (one_in_lem vs 0 0 16).0 e r c (omega arith) (omega arith))) ∙ none 0 (omega arith)

      quarter : (q : ℕ) → q < 4 → length (part 1 (q % 2 * 8) (q / 2 * 8)) ≡ tiles_cost 1 due (q % 2 * 8) (q / 2 * 8)
      quarter q h =
          luma_apart 0 (q % 2 * 8) (q / 2 * 8) (none q h)
          ∙ (λ i. least-cost (q % 2 * 8) (q / 2 * 8) i + (least-cost (q % 2 * 8 + 4) (q / 2 * 8) i + (least-cost (q % 2 * 8) (q / 2 * 8 + 4) i + least-cost (q % 2 * 8 + 4) (q / 2 * 8 + 4) i)))

  -- a square with one vector: each of its blocks costs the same
  due_one : (x y n : ℕ) → one_in vs x y n ≡ true → (r c b : ℕ) → r < n → c < n → b ≡ subblock (y + r) (x + c) → due b ≡ cost 4 (luma_vector low (sent vs (subblock y x)))
  due_one x y n e r c b hr hc at = ap due at ∙ ap (λ (v : Mv). cost 4 (luma_vector low v)) ((one_in_lem vs x y n).0 e r c hr hc)

  quarter_most : (x y : ℕ) → length (part 1 x y) ≤ tiles_cost 1 due x y
  quarter_most x y = at (one_in vs x y 8) refl
    where
      at : (b : Bool) → one_in vs x y 8 ≡ b → length (part 1 x y) ≤ tiles_cost 1 due x y
      at true e =
          omega (
            arith,
            luma_one 0 x y e ∙ length-block 8 p (at_x + x) (at_y + y) (luma_vector low (sent vs (subblock y x))),
            cost_eight (luma_vector low (sent vs (subblock y x))),
            due_one x y 8 e 0 0 (subblock y x) (omega arith) (omega arith) (omega arith),
            due_one x y 8 e 0 4 (subblock y (x + 4)) (omega arith) (omega arith) (omega arith),
            due_one x y 8 e 4 0 (subblock (y + 4) x) (omega arith) (omega arith) (omega arith),
            due_one x y 8 e 4 4 (subblock (y + 4) (x + 4)) (omega arith) (omega arith) (omega arith),
          )
      at false e =
          omega (arith, luma_apart 0 x y e, least-cost x y, least-cost (x + 4) y, least-cost x (y + 4), least-cost (x + 4) (y + 4))

  -- THEOREM. By quarters never takes more than by 4x4 blocks.
  pub luma_most : length (part 2 0 0) ≤ sum_to 16 due
  luma_most = at (one_in vs 0 0 16) refl
    where
      at : (b : Bool) → one_in vs 0 0 16 ≡ b → length (part 2 0 0) ≤ sum_to 16 due
      at true e =
          omega (
            arith,
            luma_one 1 0 0 e ∙ length-block 16 p (at_x + 0) (at_y + 0) (luma_vector low (sent vs 0)),
            cost_sixteen (luma_vector low (sent vs 0)),
            sum_least 16 (cost 4 (luma_vector low (sent vs 0))) due (λ b h. le_of_eq (sym (due_one 0 0 16 e (b / 4 * 4) (b % 4 * 4) b (omega arith) (omega arith) (omega arith)))),
          )
      at false e = omega (arith, luma_apart 1 0 0 e, quarter_most 0 0, quarter_most 8 0, quarter_most 0 8, quarter_most 8 8, tiles_sixteen due)

  quarter_least : (x y : ℕ) → 64 ≤ length (part 1 x y)
  quarter_least x y = at (one_in vs x y 8) refl
    where
      at : (b : Bool) → one_in vs x y 8 ≡ b → 64 ≤ length (part 1 x y)
      at true e = let v = luma_vector low (sent vs (subblock y x)) in omega (arith, luma_one 0 x y e ∙ length-block 8 p (at_x + x) (at_y + y) v, cost_least 8 v)
      at false e =
          let v : ℕ → Mv = (λ b. luma_vector low (sent vs b)) in
          omega (
            arith,
            luma_apart 0 x y e,
            least-cost x y,
            least-cost (x + 4) y,
            least-cost x (y + 4),
            least-cost (x + 4) (y + 4),
            cost_least 4 (v (subblock y x)),
            cost_least 4 (v (subblock y (x + 4))),
            cost_least 4 (v (subblock (y + 4) x)),
            cost_least 4 (v (subblock (y + 4) (x + 4))),
          )

  -- THEOREM. And never less than whole pixels do.
  pub luma_some : 256 ≤ length (part 2 0 0)
  luma_some = at (one_in vs 0 0 16) refl
    where
      at : (b : Bool) → one_in vs 0 0 16 ≡ b → 256 ≤ length (part 2 0 0)
      at true e = omega (arith, luma_one 1 0 0 e ∙ length-block 16 p (at_x + 0) (at_y + 0) (luma_vector low (sent vs 0)), cost_least 16 (luma_vector low (sent vs 0)))
      at false e = omega (arith, luma_apart 1 0 0 e, quarter_least 0 0, quarter_least 8 0, quarter_least 0 8, quarter_least 8 8)

-- ---- what a call reports, by its number n
pub report-refused : {n m : ℕ} (s : ReconstructedMb) (l : List Coordinate) (k : Clips) → n ≡ m → (n ≡ 0 → ⊥)
    → ◌≡◌ {A = Report} (record { prediction = record { number = n; samples = no_samples }; fetched = 0; clips = no_clips }) (reported (answered m s) l k)
unfolding answered
report-refused {m} s l k e h =
    let not-zero : m ≡ 0 → ⊥ = (λ z. h (e ∙ z)) in
    λ i. record { prediction = refused_is s e h i; fetched = sym (refused (length l) 0 not-zero) i; clips = sym (refused k no_clips not-zero) i }

pub report-done : {n m f : ℕ} {s s' : ReconstructedMb} (l : List Coordinate) {c : Clips} (k : Clips) → n ≡ m → n ≡ 0 → s' ≡ s → f ≡ length l → c ≡ k
    → ◌≡◌ {A = Report} (record { prediction = record { number = n; samples = s' }; fetched = f; clips = c }) (reported (answered m s) l k)
unfolding answered
report-done l k e h q counts clips =
    let zero_is = sym e ∙ h in
    λ i. record { prediction = done_is e h q i; fetched = (counts ∙ sym (done (length l) 0 zero_is)) i; clips = (clips ∙ sym (done k no_clips zero_is)) i }
