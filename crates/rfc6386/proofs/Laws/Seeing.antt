-- The way to K13: which taps count, where they stand, and that the steps depend on nothing else. Assumes nothing.
use Rattle.std.specs.Prelude.{◌≡◌, ◌⊎◌, ◌↔◌, get_or, ℤ, pos, ◌+ℤ◌, ◌-ℤ◌}
use Rattle.std.proofs.Math.Path.{sym, ap₂}
use Rattle.std.proofs.Common.{ap, ◌∙◌, subst, inl, inr, arith}
use Prim.Native.Nat.{ℕ, zero, suc, min, ◌+◌, ◌-◌, ◌*◌, ◌/◌, ◌%◌, ◌<◌, ◌≤◌}
use Rattle.std.proofs.Math.Decide.{dec_le}
use Rattle.signed.specs.Int.{up, dn, int, sum, diff, one_side}
use Rattle.rfc6386.specs.Number.{clamped}
use Rattle.rfc6386.specs.Vector.{whole_part, fraction}
use Rattle.rfc6386.specs.Filter.{taps_of, step}
use Rattle.rfc6386.specs.Picture.{Plane, Image, image, place, six, across, two_steps, filtered, predicted, block_by, block}
use Rattle.rfc6386.specs.Seen.{before, after, first_seen, last_seen, Seen, SameSeen, Axis, on, Strip, first_in, last_in, Blanked, Misses}
use Rattle.rfc6386.specs.Seen.Axis.{horizontal, vertical}
use Rattle.rfc6386.proofs.Laws.Raster.{raster_ext}
use Rattle.rfc6386.proofs.Laws.Vectors.{clamped-is, fraction-under}
use Rattle.rfc6386.proofs.Laws.Steps.{step_one, mixed, bilinear-step}
use Rattle.rfc6386.proofs.Laws.Samples.{place_two, six-same}
use Rattle.rfc6386.specs.declared.Mv.{Mv}
use Rattle.rfc6386.specs.declared.FilterSet.{FilterSet}
use Rattle.rfc6386.specs.declared.FilterSet.TheVariants.{Sixtap, Bilinear}

-- ---- the taps that count: tap i of six, of which tap 2 stands at the sample's own place
record Counts (set : FilterSet) (k i : ℕ) : Type 0 where
  from : 2 ≤ i + before set k
  to : i ≤ 2 + after set k

own-place : (set : FilterSet) → Counts set 0 2
own-place Sixtap = omega arith
own-place Bilinear = omega arith

six_counts : (set : FilterSet) (k : ℕ) (f g : ℤ → ℕ) (x : ℤ) → k < 8 → ((i : ℕ) → Counts set k i → f (place x i) ≡ g (place x i))
    → step (taps_of set k) (six f x) ≡ step (taps_of set k) (six g x)
six_counts set zero f g x l h =
    step_one set _ _ _ _ _ _ ∙ ap (λ (c : ℕ). min 255 ((128 * c + 64) / 128)) (h 2 (own-place set)) ∙ sym (step_one set _ _ _ _ _ _)
six_counts Sixtap (suc k) f g x l h = six-same (taps_of Sixtap (suc k)) f g x x (λ i m. h i (omega arith))
six_counts Bilinear (suc k) f g x l h =
    bilinear-step (suc k) _ _ _ _ _ _ l ∙ ap₂ (mixed (suc k)) (h 2 (omega arith)) (h 3 (omega arith)) ∙ sym (bilinear-step (suc k) _ _ _ _ _ _ l)

-- ---- one sample
-- two pictures that agree wherever the taps that count stand, on each axis
abbrev AgreeAt : FilterSet → Image → Image → ℕ → ℕ → ℤ → ℤ → Type 0
AgreeAt set img img' j k x y = (i l : ℕ) → Counts set j i → Counts set k l → img (place x i) (place y l) ≡ img' (place x i) (place y l)

module _ (set : FilterSet) (img img' : Image) (x y : ℤ) where
  two_steps_counts : (j k : ℕ) → j < 8 → k < 8 → AgreeAt set img img' j k x y → two_steps set img j k x y ≡ two_steps set img' j k x y
  unfolding two_steps across
  two_steps_counts j k hj hk h =
      six_counts set k (λ b. across set img j x b) (λ b. across set img' j x b) y hk
      (λ l s. six_counts set j (λ a. img a (place y l)) (λ a. img' a (place y l)) x hj (λ i t. h i l t s))

  filtered_counts : (j k : ℕ) → j < 8 → k < 8 → AgreeAt set img img' j k x y → filtered set img j k x y ≡ filtered set img' j k x y
  unfolding filtered
  filtered_counts zero zero hj hk h = sym (ap₂ img (place_two x) (place_two y)) ∙ h 2 2 (own-place set) (own-place set) ∙ ap₂ img' (place_two x) (place_two y)
  filtered_counts zero (suc k) hj hk h = two_steps_counts 0 (suc k) hj hk h
  filtered_counts (suc j) k hj hk h = two_steps_counts (suc j) k hj hk h

-- ---- where they stand: among the places that the block may see, once clamped
seen-place : (set : FilterSet) (n at c i : ℕ) (m : ℤ) (size : ℕ) → c < n → Counts set (fraction m) i
    → Seen set n at m size (clamped (place (pos (at + c) +ℤ whole_part m) i) size)
seen-place set n at c i m size h s = let p = span (before set (fraction m)) (after set (fraction m)) s.from s.to in record { from = p.0; to = p.1 }
  where
    span : (b e : ℕ) → 2 ≤ i + b → i ≤ 2 + e
        → (clamped (pos at +ℤ whole_part m -ℤ pos b) size ≤ clamped (place (pos (at + c) +ℤ whole_part m) i) size)
        × (clamped (place (pos (at + c) +ℤ whole_part m) i) size ≤ clamped (pos at +ℤ whole_part m +ℤ pos (n - 1 + e)) size)
    span b e p q =
        let w = whole_part m in
        let u = pos at +ℤ w in
        let z = pos (at + c) +ℤ w in
        let a = place z i in
        let at_a = sum z (pos i) in
        let to-a = diff (z +ℤ pos i) (pos 2) in (
          omega (int, sum (pos at) w, sum (pos (at + c)) w, at_a, to-a, diff u (pos b), clamped-is (u -ℤ pos b) size, clamped-is a size, one_side a, one_side (u -ℤ pos b)),
          omega (int, sum (pos at) w, sum (pos (at + c)) w, at_a, to-a, sum u (pos (n - 1 + e)), clamped-is (u +ℤ pos (n - 1 + e)) size, clamped-is a size, one_side a, one_side (u +ℤ pos (n - 1 + e))),
        )

-- THEOREM. Two planes that agree wherever a block may see give each of its samples alike.
pub sample_seen : (set : FilterSet) (n : ℕ) (p q : Plane) (x y : ℕ) (v : Mv) → SameSeen set n x y v p q → (r c : ℕ) → r < n → c < n
    → predicted set (image p) (pos (x + c)) (pos (y + r)) v ≡ predicted set (image q) (pos (x + c)) (pos (y + r)) v
unfolding predicted image
sample_seen set n p q x y v S r c hr hc =
    filtered_counts set (image p) (image q) X Y (fraction v.col) (fraction v.row) (fraction-under v.col) (fraction-under v.row)
    (λ i l s t.
    S.samples _ _ (seen-place set n x c i v.col p.width hc s) (seen-place set n y r l v.row p.height hr t)
    ∙ ap₂ (λ (w h : ℕ). get_or q.bytes (clamped (place Y l) h * q.stride + clamped (place X i) w) 0) S.width S.height)
  where
    X : ℤ
    X = pos (x + c) +ℤ whole_part v.col

    Y : ℤ
    Y = pos (y + r) +ℤ whole_part v.row

-- ---- blocks
pub block_seen : (set : FilterSet) (n : ℕ) (p q : Plane) (x y : ℕ) (v : Mv) → SameSeen set n x y v p q → block n set (image p) x y v ≡ block n set (image q) x y v
unfolding block block_by
block_seen set n p q x y v S = raster_ext n n _ _ (λ r c hr hc. sample_seen set n p q x y v S r c hr hc)

-- a sample of a larger block, by the 4x4 block that it lies in
tile_sample : (set : FilterSet) (p q : Plane) (x y r c : ℕ) (v : Mv) → SameSeen set 4 (x + c / 4 * 4) (y + r / 4 * 4) v p q
    → predicted set (image p) (pos (x + c)) (pos (y + r)) v ≡ predicted set (image q) (pos (x + c)) (pos (y + r)) v
tile_sample set p q x y r c v S =
    let a : x + c / 4 * 4 + c % 4 ≡ x + c = omega arith in
    let b : y + r / 4 * 4 + r % 4 ≡ y + r = omega arith in
    ap₂ (λ (m k : ℕ). predicted set (image p) (pos m) (pos k) v) (sym a) (sym b)
    ∙ sample_seen set 4 p q (x + c / 4 * 4) (y + r / 4 * 4) v S (r % 4) (c % 4) (omega arith) (omega arith)
    ∙ ap₂ (λ (m k : ℕ). predicted set (image q) (pos m) (pos k) v) a b

module _ (set : FilterSet) (p q : Plane) (x y : ℕ) (g : ℕ → ℕ → Mv) where
  -- the sample in row r and column c of the 4x4 block in row i and column j of its blocks
  pub tile_seen : (i j r c : ℕ) → r < 4 → c < 4 → SameSeen set 4 (x + j * 4) (y + i * 4) (g i j) p q
      → predicted set (image p) (pos (x + (j * 4 + c))) (pos (y + (i * 4 + r))) (g ((i * 4 + r) / 4) ((j * 4 + c) / 4))
      ≡ predicted set (image q) (pos (x + (j * 4 + c))) (pos (y + (i * 4 + r))) (g ((i * 4 + r) / 4) ((j * 4 + c) / 4))
  tile_seen i j r c hr hc S =
      let R = i * 4 + r in
      let C = j * 4 + c in
      let a : i ≡ R / 4 = omega arith in
      let b : j ≡ C / 4 = omega arith in
      tile_sample set p q x y R C (g (R / 4) (C / 4)) (subst (λ (t : ℕ × ℕ). SameSeen set 4 (x + t.1 * 4) (y + t.0 * 4) (g t.0 t.1) p q) (λ i. (a i, b i)) S)

  -- and all of a block of n by n
  pub tiles_seen : (n : ℕ) → ((i j : ℕ) → i * 4 < n → j * 4 < n → SameSeen set 4 (x + j * 4) (y + i * 4) (g i j) p q)
      → block_by n set (image p) x y (λ r c. g (r / 4) (c / 4)) ≡ block_by n set (image q) x y (λ r c. g (r / 4) (c / 4))
  unfolding block_by
  tiles_seen n S = raster_ext n n _ _ (λ r c hr hc. tile_sample set p q x y r c (g (r / 4) (c / 4)) (S (r / 4) (c / 4) (omega arith) (omega arith)))

-- ---- a strip that a block misses
seen-on : (axis : Axis) {set : FilterSet} {n x y w h a b : ℕ} {s t : ℤ} → Seen set n x s w a → Seen set n y t h b
    → Seen set n (on axis x y) (on axis s t) (on axis w h) (on axis a b)
seen-on horizontal S T = S
seen-on vertical S T = T

seen_inside : {set : FilterSet} {n at size q : ℕ} {m : ℤ} → 1 ≤ size → Seen set n at m size q → q < size
seen_inside {set} {n} {at} {size} {q} {m} h S = omega (arith, clamped-is (pos at +ℤ whole_part m +ℤ pos (n - 1 + after set (fraction m))) size, S.to)

pub strip_same : (s : Strip) (n : ℕ) (set : FilterSet) (m x y : ℕ) (v : Mv) (p q : Plane) → 1 ≤ p.width → 1 ≤ p.height
    → Blanked s n p q → Misses s n set m x y v p → SameSeen set m x y v p q
strip_same s n set m x y v p q hw hh B M =
    record {
      width = B.width;
      height = B.height;
      samples = λ a b S T. B.samples a b (seen_inside hw S) (seen_inside hh T) (out (seen-on s.axis S T) M);
    }
  where
    out : {at size q : ℕ} {z : ℤ} → Seen set m at z size q → (last_seen set m at z size < first_in s n) ⊎ (last_in s n < first_seen set at z size)
        → (q < first_in s n) ⊎ (last_in s n < q)
    out S (inl h) = inl (omega (arith, S.to))
    out S (inr h) = inr (omega (arith, S.from))

-- ---- the places are those that the words name
-- so many places from u on, each clamped, are those from the first to the last of them
module _ (u : ℤ) (count size q : ℕ) (some : 1 ≤ count) where
  run-to : (i : ℕ) → i < count → q ≡ clamped (u +ℤ pos i) size → (clamped u size ≤ q) × (q ≤ clamped (u +ℤ pos (count - 1)) size)
  run-to i h e =
      let last = u +ℤ pos (count - 1) in
      let z = u +ℤ pos i in (
        omega (int, e, clamped-is u size, clamped-is z size, sum u (pos i), one_side u, one_side z),
        omega (int, e, clamped-is last size, clamped-is z size, sum u (pos i), sum u (pos (count - 1)), one_side last, one_side z),
      )

  run-from : clamped u size ≤ q → q ≤ clamped (u +ℤ pos (count - 1)) size → (i : ℕ) × (i < count) × (q ≡ clamped (u +ℤ pos i) size)
  run-from h k = at (dec_le (up u) (q + dn u)) (dec_le (q + dn u) (up u + (count - 1)))
    where
      last : ℤ
      last = u +ℤ pos (count - 1)

      -- before the first, among them, past the last
      at : Dec (up u ≤ q + dn u) → Dec (q + dn u ≤ up u + (count - 1)) → (i : ℕ) × (i < count) × (q ≡ clamped (u +ℤ pos i) size)
      at (no n) d = (0, omega arith, omega (int, h, k, n, clamped-is u size, clamped-is last size, clamped-is (u +ℤ pos 0) size, sum u (pos 0), one_side u, one_side (u +ℤ pos 0)))
      at (yes a) (yes b) =
          let i = (q + dn u) - up u in
          let z = u +ℤ pos i in
          (i, omega arith, omega (int, a, k, clamped-is last size, clamped-is z size, sum u (pos i), one_side z))
      at (yes a) (no n) = (count - 1, omega arith, omega (int, k, n, clamped-is last size, sum u (pos (count - 1)), one_side last))

-- THEOREM. `Seen` names exactly these places: those of the block, moved by the whole part, and those that the fraction adds, each clamped to
-- the plane.
pub seen_exactly : (set : FilterSet) (n at : ℕ) (m : ℤ) (size q : ℕ) → 1 ≤ n
    → Seen set n at m size q
    ↔ ((i : ℕ)
    × (i < before set (fraction m) + n + after set (fraction m))
    × (q ≡ clamped (pos at +ℤ whole_part m -ℤ pos (before set (fraction m)) +ℤ pos i) size))
seen_exactly set n at m size q h = (
  λ S. run-from u count size q some S.from (subst (λ (z : ℤ). q ≤ clamped z size) ends S.to),
  λ t. let p = run-to u count size q some t.0 t.1 t.2 in record { from = p.0; to = subst (λ (z : ℤ). q ≤ clamped z size) (sym ends) p.1 },
)
  where
    b : ℕ
    b = before set (fraction m)

    e : ℕ
    e = after set (fraction m)

    u : ℤ
    u = pos at +ℤ whole_part m -ℤ pos b

    count : ℕ
    count = b + n + e

    some : 1 ≤ count
    some = omega arith

    ends : pos at +ℤ whole_part m +ℤ pos (n - 1 + e) ≡ u +ℤ pos (count - 1)
    ends = let z = pos at +ℤ whole_part m in omega (int, sum z (pos (n - 1 + e)), diff z (pos b), sum u (pos (count - 1)))
