-- The way to K11: one axis of a picture turned round, in a step, a sample, a block and a plane; and the vectors that go with it. Assumes nothing.
use Rattle.std.specs.Prelude.{◌≡◌, Bool, true, ◌&&◌, List, ℕ, zero, suc, min, ◌+◌, ◌-◌, ◌*◌, ◌/◌, ◌%◌, ◌<◌, ◌≤◌, ℤ, pos, neg_ℤ, ◌+ℤ◌, ◌-ℤ◌, ◌*ℤ◌}
use Rattle.std.proofs.Math.Path.{refl, sym, ap, ap₂}
use Rattle.std.proofs.Common.{◌∙◌, arith}
use Rattle.std.proofs.Math.Bool.{false, cond}
use Rattle.std.proofs.Math.Nat.{mul-le-mul_right}
use Rattle.std.proofs.Math.ListN.{length, get_or}
use Rattle.std.proofs.Math.Seq.{ext_get_or}
use Rattle.std.specs.Int.Signed.{le_z}
use Rattle.signed.specs.Int.{up, dn, le_z-true, int, sum, diff, neg, times, one_side}
use Rattle.rfc6386.specs.Number.{clamped, nearest8}
use Rattle.rfc6386.specs.Vector.{stored, whole_part, fraction, whole_chroma, split_chroma, luma_vector, chroma_vector, zero_vector, sent, corner, average, quarter_average}
use Rattle.rfc6386.specs.Filter.{taps_of, step}
use Rattle.rfc6386.specs.Picture.{Plane, sample_at, Image, image, place, six, across, two_steps, filtered, predicted, block_by}
use Rattle.rfc6386.specs.Macroblock.{Reference}
use Rattle.rfc6386.specs.Channel.{Channel, side, whole_vector, tile_vector}
use Rattle.rfc6386.specs.Channel.Channel.{luma, chroma_u, chroma_v}
use Rattle.rfc6386.specs.Mirror.{Mirror, turn, negated, least_turnable, most_turnable, turnable, off, mirrored_bytes, mirrored_col, mirrored_row, mirrored_vector, mirrored_subblock, mirrored_vectors, Turnable, mirrored_block}
use Rattle.rfc6386.proofs.Laws.Tests.{and-true}
use Rattle.rfc6386.proofs.Laws.Vectors.{vector, near, doubled_exactly, clamped-is, fraction-under, fraction-is}
use Rattle.rfc6386.proofs.Laws.Steps.{same, step_one, step_turned}
use Rattle.rfc6386.proofs.Laws.Samples.{place_two, six-same}
use Rattle.rfc6386.proofs.Laws.Raster.{get_or-tab, tab_bytes, raster_ext, length-written, get_or-written, within_is, written_sample}
use Rattle.rfc6386.specs.Raster.{within, written}
use Rattle.rfc6386.specs.Refusal.{Fits}
use Rattle.rfc6386.proofs.Laws.Blocks.{block_at}
use Rattle.rfc6386.specs.declared.Mv.{Mv}
use Rattle.rfc6386.specs.declared.FilterSet.{FilterSet}

-- ---- one axis
-- the place that stands opposite z, where the two add up to m
abbrev pub back : Bool → ℤ → ℤ → ℤ
back false m z = z
back true m z = m -ℤ z

-- a component negated: whether it has a fraction, and which
module _ (q : ℤ) where
  none : fraction q ≡ 0 → fraction (neg_ℤ q) ≡ 0
  none e = omega (int, fraction-is q, fraction-is (neg_ℤ q), fraction-under (neg_ℤ q), neg q)

  some : 1 ≤ fraction q → fraction (neg_ℤ q) ≡ 8 - fraction q
  some h = omega (int, fraction-is q, fraction-is (neg_ℤ q), fraction-under (neg_ℤ q), fraction-under q, neg q)

  -- and where its whole part leads, from opposite places
  module _ (m z : ℤ) where
    abbrev W : ℤ
    W = (m -ℤ z) +ℤ whole_part (neg_ℤ q)

    abbrev U : ℤ
    U = z +ℤ whole_part q

    meets : fraction q ≡ 0 → m -ℤ W ≡ U
    meets e =
        omega (int, fraction-is q, fraction-is (neg_ℤ q), fraction-under (neg_ℤ q), neg q, diff m z, sum (m -ℤ z) (whole_part (neg_ℤ q)), diff m W, sum z (whole_part q))

    passes : (i : ℕ) → 1 ≤ fraction q → i < 6 → m -ℤ place W i ≡ place U (5 - i)
    passes i h l =
        omega (
          int,
          fraction-is q,
          fraction-is (neg_ℤ q),
          fraction-under (neg_ℤ q),
          fraction-under q,
          neg q,
          diff m z,
          sum (m -ℤ z) (whole_part (neg_ℤ q)),
          sum W (pos i),
          diff (W +ℤ pos i) (pos 2),
          diff m (place W i),
          sum z (whole_part q),
          sum U (pos (5 - i)),
          diff (U +ℤ pos (5 - i)) (pos 2),
        )

-- a step along it: f' is f read from the other end
module _ (set : FilterSet) (f f' : ℤ → ℕ) (m : ℤ) (h : (a : ℤ) → f' a ≡ f (m -ℤ a)) (z q : ℤ) where
  turned_copy : fraction q ≡ 0 → f' (W q m z) ≡ f (U q m z)
  turned_copy e = h (W q m z) ∙ ap f (meets q m z e)

  turned-step : (k : ℕ) → fraction q ≡ k → step (taps_of set (fraction (neg_ℤ q))) (six f' (W q m z)) ≡ step (taps_of set (fraction q)) (six f (U q m z))
  turned-step zero e =
      ap (λ (n : ℕ). step (taps_of set n) (six f' (W q m z))) (none q e)
      ∙ step_one set _ _ _ _ _ _
      ∙ ap (λ (c : ℕ). min 255 ((128 * c + 64) / 128)) (ap f' (place_two (W q m z)) ∙ turned_copy e ∙ ap f (sym (place_two (U q m z))))
      ∙ sym (step_one set _ _ _ _ _ _)
      ∙ ap (λ (n : ℕ). step (taps_of set n) (six f (U q m z))) (sym e)
  turned-step (suc k) e =
      let l : 1 ≤ fraction q = omega arith in
      let b : (i : ℕ) → i < 6 → f' (place (W q m z) i) ≡ f (place (U q m z) (5 - i)) = (λ i j. h (place (W q m z) i) ∙ ap f (passes q m z i l j)) in
      ap (λ (n : ℕ). step (taps_of set n) (six f' (W q m z))) (some q l)
      ∙ same (taps_of set (8 - fraction q)) _ _ _ _ _ _ _ _ _ _ _ _ (b 0 (omega arith)) (b 1 (omega arith)) (b 2 (omega arith)) (b 3 (omega arith)) (b 4 (omega arith)) (b 5 (omega arith))
      ∙ step_turned set (fraction q) _ _ _ _ _ _ l (fraction-under q)

-- THEOREM. Along an axis that is turned round, or is not, the step at the opposite place by the negated component is the same.
pub axis-step : (set : FilterSet) (b : Bool) (f f' : ℤ → ℕ) (m : ℤ) → ((a : ℤ) → f' a ≡ f (back b m a)) → (z q : ℤ)
    → step (taps_of set (fraction (negated b q))) (six f' (back b m z +ℤ whole_part (negated b q))) ≡ step (taps_of set (fraction q)) (six f (z +ℤ whole_part q))
axis-step set false f f' m h z q = six-same (taps_of set (fraction q)) f' f (z +ℤ whole_part q) (z +ℤ whole_part q) (λ i l. h (place (z +ℤ whole_part q) i))
axis-step set true f f' m h z q = turned-step set f f' m h z q (fraction q) refl

-- where the component has no fraction, so is the copy
axis_copy : (b : Bool) (m z q : ℤ) → fraction q ≡ 0 → back b m (back b m z +ℤ whole_part (negated b q)) ≡ z +ℤ whole_part q
axis_copy false m z q e = refl
axis_copy true m z q e = meets q m z e

axis-none : (b : Bool) (q : ℤ) → fraction q ≡ 0 → fraction (negated b q) ≡ 0
axis-none false q e = e
axis-none true q e = none q e

axis-some : (b : Bool) (q : ℤ) → fraction (negated b q) ≡ 0 → fraction q ≡ 0
axis-some false q e = e
axis-some true q e = omega (int, fraction-is q, fraction-is (neg_ℤ q), fraction-under q, neg q)

-- ---- one sample: both axes
filtered_alike : (set : FilterSet) (img img' : Image) (j k j' k' : ℕ) (X Y X' Y' : ℤ) → (j ≡ 0 → j' ≡ 0) → (k ≡ 0 → k' ≡ 0) → (j' ≡ 0 → j ≡ 0) → (k' ≡ 0 → k ≡ 0)
    → (j ≡ 0 → k ≡ 0 → img' X' Y' ≡ img X Y) → two_steps set img' j' k' X' Y' ≡ two_steps set img j k X Y → filtered set img' j' k' X' Y' ≡ filtered set img j k X Y
unfolding filtered
filtered_alike set img img' zero zero zero zero X Y X' Y' a b c d copy steps = copy refl refl
filtered_alike set img img' zero zero zero (suc k') X Y X' Y' a b c d copy steps = absurd (let e = b refl in omega arith)
filtered_alike set img img' zero zero (suc j') k' X Y X' Y' a b c d copy steps = absurd (let e = a refl in omega arith)
filtered_alike set img img' zero (suc k) zero zero X Y X' Y' a b c d copy steps = absurd (let e = d refl in omega arith)
filtered_alike set img img' zero (suc k) zero (suc k') X Y X' Y' a b c d copy steps = steps
filtered_alike set img img' zero (suc k) (suc j') k' X Y X' Y' a b c d copy steps = steps
filtered_alike set img img' (suc j) k zero zero X Y X' Y' a b c d copy steps = absurd (let e = c refl in omega arith)
filtered_alike set img img' (suc j) k zero (suc k') X Y X' Y' a b c d copy steps = steps
filtered_alike set img img' (suc j) k (suc j') k' X Y X' Y' a b c d copy steps = steps

-- THEOREM. In a picture that is mirrored, the sample at the mirrored place by the mirrored vector is the same.
pub predicted_mirror : (set : FilterSet) (m : Mirror) (img img' : Image) (mx my : ℤ) → ((a b : ℤ) → img' a b ≡ img (back m.columns mx a) (back m.rows my b))
    → (x y : ℤ) (v : Mv) → predicted set img' (back m.columns mx x) (back m.rows my y) (mirrored_vector m v) ≡ predicted set img x y v
unfolding predicted two_steps across
predicted_mirror set m img img' mx my h x y v =
    filtered_alike set img img' (fraction v.col) (fraction v.row) (fraction (negated C v.col)) (fraction (negated R v.row))
    (x +ℤ whole_part v.col) (y +ℤ whole_part v.row) X' Y'
    (axis-none C v.col) (axis-none R v.row) (axis-some C v.col) (axis-some R v.row)
    (λ e f. h X' Y' ∙ ap₂ img (axis_copy C mx x v.col e) (axis_copy R my y v.row f))
    (axis-step set R (λ b. across set img (fraction v.col) (x +ℤ whole_part v.col) b) (λ b. across set img' (fraction (negated C v.col)) X' b) my
    (λ b. axis-step set C (λ a. img a (back R my b)) (λ a. img' a b) mx (λ a. h a b) x v.col) y v.row)
  where
    C : Bool
    C = m.columns

    R : Bool
    R = m.rows

    X' : ℤ
    X' = back C mx x +ℤ whole_part (negated C v.col)

    Y' : ℤ
    Y' = back R my y +ℤ whole_part (negated R v.row)

-- ---- a plane
pub turn_under : (b : Bool) (n i : ℕ) → i < n → turn b n i < n
turn_under false n i h = h
turn_under true n i h = omega arith

turn-clamped : (b : Bool) (n : ℕ) (z : ℤ) → 1 ≤ n → turn b n (clamped z n) ≡ clamped (back b (pos (n - 1)) z) n
turn-clamped false n z h = refl
turn-clamped true n z h = omega (int, clamped-is z n, clamped-is (pos (n - 1) -ℤ z) n, diff (pos (n - 1)) z, one_side z, one_side (pos (n - 1) -ℤ z))

pub length_mirrored : (m : Mirror) (p : Plane) → length (mirrored_bytes m p) ≡ length p.bytes
unfolding mirrored_bytes
length_mirrored m p = length-written _ _ _ _ _ _ _

pub mirrored_bytes_lem : (m : Mirror) (p : Plane) → ((i : ℕ) → get_or p.bytes i 0 ≤ 255) → (i : ℕ) → get_or (mirrored_bytes m p) i 0 ≤ 255
unfolding mirrored_bytes written
mirrored_bytes_lem m p h = tab_bytes (length p.bytes) _ (λ i l. either (within 0 p.height (i / p.stride) && within 0 p.width (i % p.stride)) _ _ (h _) (h i))
  where
    either : (b : Bool) (x y : ℕ) → x ≤ 255 → y ≤ 255 → cond b x y ≤ 255
    either true x y p q = p
    either false x y p q = q

abbrev pub mirrored_plane : Mirror → Plane → Plane
mirrored_plane m p = record { bytes = mirrored_bytes m p; stride = p.stride; width = p.width; height = p.height }

pub fits_mirrored : (m : Mirror) (p : Plane) → Fits p → Fits (mirrored_plane m p)
fits_mirrored m p F = record { stride_least = F.stride_least; stride_most = F.stride_most; bytes = omega (arith, F.bytes, length_mirrored m p) }

-- THEOREM. The mirrored plane is the picture seen from the other sides.
pub image_mirrored : (m : Mirror) (p : Plane) → 1 ≤ p.width → 1 ≤ p.height → Fits p → (a b : ℤ)
    → image (mirrored_plane m p) a b ≡ image p (back m.columns (pos (p.width - 1)) a) (back m.rows (pos (p.height - 1)) b)
unfolding image mirrored_bytes
image_mirrored m p hw hh F a b =
    let c = clamped a p.width in
    let r = clamped b p.height in
    let lc : c < p.width = omega (arith, clamped-is a p.width) in
    let lr : r < p.height = omega (arith, clamped-is b p.height) in
    let room : r * p.stride ≤ (p.height - 1) * p.stride = mul-le-mul_right p.stride (omega arith) in
    written_sample p.bytes p.stride p.width p.height (λ r c. sample_at p (turn m.columns p.width c) (turn m.rows p.height r)) r c lr lc
    F.stride_least (omega (arith, F.bytes))
    ∙ ap₂ (sample_at p) (turn-clamped m.columns p.width a hw) (turn-clamped m.rows p.height b hh)

-- one mirror after another is a third, where it is so on each axis
module _ (m n o : Mirror) (p : Plane) (F : Fits p)
    (hc : (i : ℕ) → i < p.width → turn n.columns p.width (turn m.columns p.width i) ≡ turn o.columns p.width i)
    (hr : (i : ℕ) → i < p.height → turn n.rows p.height (turn m.rows p.height i) ≡ turn o.rows p.height i) where
  again : (r c : ℕ) → r < p.height → c < p.width
      → sample_at (mirrored_plane n p) (turn m.columns p.width c) (turn m.rows p.height r) ≡ sample_at p (turn o.columns p.width c) (turn o.rows p.height r)
  unfolding mirrored_bytes
  again r c lr lc =
      let R = turn m.rows p.height r in
      let C = turn m.columns p.width c in
      let u_r = turn_under m.rows p.height r lr in
      let u_c = turn_under m.columns p.width c lc in
      let room : R * p.stride ≤ (p.height - 1) * p.stride = mul-le-mul_right p.stride (omega arith) in
      written_sample p.bytes p.stride p.width p.height (λ r c. sample_at p (turn n.columns p.width c) (turn n.rows p.height r)) R C u_r u_c
      F.stride_least (omega (arith, F.bytes))
      ∙ ap₂ (sample_at p) (hc c lc) (hr r lr)

  pub mirrored-again : mirrored_bytes m (mirrored_plane n p) ≡ mirrored_bytes o p
  unfolding mirrored_bytes
  mirrored-again =
      ext_get_or 0 (mirrored_bytes m (mirrored_plane n p)) (mirrored_bytes o p) (length_mirrored m (mirrored_plane n p) ∙ length_mirrored n p ∙ sym (length_mirrored o p))
      (λ i h.
      let l : i < length p.bytes = omega (arith, length_mirrored m (mirrored_plane n p), length_mirrored n p) in
      get_or-written (mirrored_bytes n p) p.stride 0 0 p.width p.height _ i (omega (arith, length_mirrored n p))
      ∙ at i l (within 0 p.height (i / p.stride)) (within 0 p.width (i % p.stride)) refl refl
      ∙ sym (get_or-written p.bytes p.stride 0 0 p.width p.height _ i l))
    where
      stays : (i : ℕ) → i < length p.bytes → within 0 p.height (i / p.stride) && within 0 p.width (i % p.stride) ≡ false → get_or (mirrored_bytes n p) i 0 ≡ get_or p.bytes i 0
      stays i l e = get_or-written p.bytes p.stride 0 0 p.width p.height _ i l ∙ ap (λ (b : Bool). cond b (sample_at p (turn n.columns p.width (i % p.stride - 0)) (turn n.rows p.height (i / p.stride - 0))) (get_or p.bytes i 0)) e

      at : (i : ℕ) → i < length p.bytes → (R C : Bool) → within 0 p.height (i / p.stride) ≡ R → within 0 p.width (i % p.stride) ≡ C
          → cond (R && C) (sample_at (mirrored_plane n p) (turn m.columns p.width (i % p.stride - 0)) (turn m.rows p.height (i / p.stride - 0))) (get_or (mirrored_bytes n p) i 0)
          ≡ cond (R && C) (sample_at p (turn o.columns p.width (i % p.stride - 0)) (turn o.rows p.height (i / p.stride - 0))) (get_or p.bytes i 0)
      at i l true true e f =
          again (i / p.stride - 0) (i % p.stride - 0) (omega (arith, (within_is 0 p.height (i / p.stride) e).to)) (omega (arith, (within_is 0 p.width (i % p.stride) f).to))
      at i l true false e f = stays i l (ap₂ ◌&&◌ e f)
      at i l false C e f = stays i l (ap₂ ◌&&◌ e f)

-- ---- a block: its place, and a vector for each sample
pub block_mirror : (m : Mirror) (n : ℕ) (set : FilterSet) (p : Plane) → 1 ≤ p.width → 1 ≤ p.height → Fits p → (x y x' y' : ℕ) (f f' : ℕ → ℕ → Mv)
    → ((c : ℕ) → c < n → pos (x' + c) ≡ back m.columns (pos (p.width - 1)) (pos (x + turn m.columns n c)))
    → ((r : ℕ) → r < n → pos (y' + r) ≡ back m.rows (pos (p.height - 1)) (pos (y + turn m.rows n r)))
    → ((r c : ℕ) → r < n → c < n → f' r c ≡ mirrored_vector m (f (turn m.rows n r) (turn m.columns n c)))
    → block_by n set (image (mirrored_plane m p)) x' y' f' ≡ mirrored_block m n (block_by n set (image p) x y f)
unfolding block_by
block_mirror m n set p hw hh F x y x' y' f f' ex ey ev = raster_ext n n _ _ (λ r c hr hc. at r c hr hc)
  where
    at : (r c : ℕ) → r < n → c < n
        → predicted set (image (mirrored_plane m p)) (pos (x' + c)) (pos (y' + r)) (f' r c)
        ≡ get_or (block_by n set (image p) x y f) (turn m.rows n r * n + turn m.columns n c) 0
    at r c hr hc =
        let R = turn m.rows n r in
        let C = turn m.columns n c in
        (λ i. predicted set (image (mirrored_plane m p)) (ex c hc i) (ey r hr i) (ev r c hr hc i))
        ∙ predicted_mirror set m (image p) (image (mirrored_plane m p)) (pos (p.width - 1)) (pos (p.height - 1)) (image_mirrored m p hw hh F) (pos (x + C)) (pos (y + R)) (f R C)
        ∙ sym (block_at n set (image p) x y f R C (turn_under m.rows n r hr) (turn_under m.columns n c hc))

-- a macroblock's place on one axis of a picture with so many, and the mirrored place
abbrev pub Opposite : Bool → ℕ → ℕ → ℕ → Type 0
Opposite false many at other = other ≡ at
Opposite true many at other = at + other + 1 ≡ many

pub col-opposite : (m : Mirror) (ref : Reference) (col : ℕ) → col < ref.cols → Opposite m.columns ref.cols col (mirrored_col m ref col)
col-opposite m ref col h = at m.columns m.rows
  where
    at : (C R : Bool) → Opposite C ref.cols col (mirrored_col (record { columns = C; rows = R }) ref col)
    at false R = omega arith
    at true R = omega arith

pub row-opposite : (m : Mirror) (ref : Reference) (row : ℕ) → row < ref.rows → Opposite m.rows ref.rows row (mirrored_row m ref row)
row-opposite m ref row h = at m.columns m.rows
  where
    at : (C R : Bool) → Opposite R ref.rows row (mirrored_row (record { columns = C; rows = R }) ref row)
    at C false = omega arith
    at C true = omega arith

-- it is inside the picture too, and its samples stand opposite
pub opposite_inside : (b : Bool) (many at other : ℕ) → Opposite b many at other → at < many → other < many
opposite_inside false many at other o h = omega arith
opposite_inside true many at other o h = omega arith

pub opposite_samples : (k : Channel) (b : Bool) (many at other i : ℕ) → Opposite b many at other → i < side k
    → pos (other * side k + i) ≡ back b (pos (many * side k - 1)) (pos (at * side k + turn b (side k) i))
opposite_samples k false many at other i o l = ap (λ (n : ℕ). pos (n * side k + i)) o
opposite_samples luma true many at other i o l = let z = pos (many * 16 - 1) in omega (int, diff z (pos (at * 16 + (15 - i))))
opposite_samples chroma_u true many at other i o l = let z = pos (many * 8 - 1) in omega (int, diff z (pos (at * 8 + (7 - i))))
opposite_samples chroma_v true many at other i o l = let z = pos (many * 8 - 1) in omega (int, diff z (pos (at * 8 + (7 - i))))

-- ---- the vectors
-- -16383 .. 16383
pub record Small (z : ℤ) : Type 0 where
  pub most : up z ≤ 16383
  pub least : dn z ≤ 16383

pub small : (z : ℤ) → turnable z ≡ true → Small z
small z e =
    let t = and-true (le_z least_turnable z) (le_z z most_turnable) e in
    let a = le_z-true least_turnable z t.0 in
    let b = le_z-true z most_turnable t.1 in
    omega (int, one_side z)

-- one component, on an axis that is turned round or is not: as it is stored, for chroma of a whole macroblock, and of a quarter
stored-neg : (b : Bool) (z : ℤ) → (b ≡ true → turnable z ≡ true) → stored (negated b z) ≡ negated b (stored z)
stored-neg false z h = refl
stored-neg true z h =
    let S = small z (h refl) in
    doubled_exactly (neg_ℤ z) (omega (int, neg z)) (omega (int, neg z))
    ∙ omega (int, neg z, sum (neg_ℤ z) (neg_ℤ z), sum z z, neg (z +ℤ z))
    ∙ ap neg_ℤ (sym (doubled_exactly z (omega arith) (omega arith)))

near-neg : (b : Bool) (z : ℤ) → nearest8 (negated b z) ≡ negated b (nearest8 z)
near-neg false z = refl
near-neg true z = omega (int, near (neg_ℤ z), near z, neg z, neg (nearest8 z))

chroma-neg : (b : Bool) (z : ℤ) → whole_chroma (negated b z) ≡ negated b (whole_chroma z)
chroma-neg b z = ap nearest8 (four b) ∙ near-neg b (z *ℤ pos 4)
  where
    four : (b : Bool) → negated b z *ℤ pos 4 ≡ negated b (z *ℤ pos 4)
    four false = refl
    four true = omega (int, times (neg_ℤ z) 4, neg z, times z 4, neg (z *ℤ pos 4))

module _ (a b c d : ℤ) where
  abbrev two : ℤ → ℤ
  two z = z *ℤ pos 2

  split-neg : (t : Bool) → split_chroma (negated t a) (negated t b) (negated t c) (negated t d) ≡ negated t (split_chroma a b c d)
  split-neg t = ap nearest8 (all t) ∙ near-neg t (two a +ℤ two b +ℤ two c +ℤ two d)
    where
      all : (t : Bool) → two (negated t a) +ℤ two (negated t b) +ℤ two (negated t c) +ℤ two (negated t d) ≡ negated t (two a +ℤ two b +ℤ two c +ℤ two d)
      all false = refl
      all true =
          let A = two (neg_ℤ a) in
          let B = two (neg_ℤ b) in
          let C = two (neg_ℤ c) in
          let D = two (neg_ℤ d) in
          omega (
            int,
            times a 2,
            times b 2,
            times c 2,
            times d 2,
            times (neg_ℤ a) 2,
            times (neg_ℤ b) 2,
            times (neg_ℤ c) 2,
            times (neg_ℤ d) 2,
            neg a,
            neg b,
            neg c,
            neg d,
            sum (two a) (two b),
            sum (two a +ℤ two b) (two c),
            sum (two a +ℤ two b +ℤ two c) (two d),
            sum A B,
            sum (A +ℤ B) C,
            sum (A +ℤ B +ℤ C) D,
            neg (two a +ℤ two b +ℤ two c +ℤ two d),
          )

  -- the four of a quarter, their columns or their rows exchanged
  split_columns : split_chroma b a d c ≡ split_chroma a b c d
  split_columns = ap nearest8 e
    where
      e : two b +ℤ two a +ℤ two d +ℤ two c ≡ two a +ℤ two b +ℤ two c +ℤ two d
      e =
          omega (
            int,
            sum (two a) (two b),
            sum (two a +ℤ two b) (two c),
            sum (two a +ℤ two b +ℤ two c) (two d),
            sum (two b) (two a),
            sum (two b +ℤ two a) (two d),
            sum (two b +ℤ two a +ℤ two d) (two c),
          )

  split_rows : split_chroma c d a b ≡ split_chroma a b c d
  split_rows = ap nearest8 e
    where
      e : two c +ℤ two d +ℤ two a +ℤ two b ≡ two a +ℤ two b +ℤ two c +ℤ two d
      e =
          omega (
            int,
            sum (two a) (two b),
            sum (two a +ℤ two b) (two c),
            sum (two a +ℤ two b +ℤ two c) (two d),
            sum (two c) (two d),
            sum (two c +ℤ two d) (two a),
            sum (two c +ℤ two d +ℤ two a) (two b),
          )

-- the vector of a whole macroblock, in each channel
pub whole-vector : (k : Channel) (m : Mirror) (v : Mv) → Turnable m v → whole_vector k off (mirrored_vector m v) ≡ mirrored_vector m (whole_vector k off v)
whole-vector k m v T = by k
  where
    row : stored (negated m.rows v.row) ≡ negated m.rows (stored v.row)
    row = stored-neg m.rows v.row T.rows

    col : stored (negated m.columns v.col) ≡ negated m.columns (stored v.col)
    col = stored-neg m.columns v.col T.columns

    chroma : chroma_vector off (mirrored_vector m v) ≡ mirrored_vector m (chroma_vector off v)
    chroma = vector (ap whole_chroma row ∙ chroma-neg m.rows (stored v.row)) (ap whole_chroma col ∙ chroma-neg m.columns (stored v.col))

    by : (k : Channel) → whole_vector k off (mirrored_vector m v) ≡ mirrored_vector m (whole_vector k off v)
    by luma = vector row col
    by chroma_u = chroma
    by chroma_v = chroma

-- the sixteen of a split one: that of the block in row i and column j, and the average of the four of a quarter
sent_mirrored : (m : Mirror) (vs : List Mv) (i j : ℕ) → i < 4 → j < 4
    → sent (mirrored_vectors m vs) (i * 4 + j) ≡ mirrored_vector m (sent vs (turn m.rows 4 i * 4 + turn m.columns 4 j))
unfolding mirrored_vectors
sent_mirrored m vs i j hi hj =
    get_or-tab 16 (λ b. mirrored_vector m (sent vs (mirrored_subblock m b))) (i * 4 + j) zero_vector (omega arith)
    ∙ ap (λ (b : ℕ). mirrored_vector m (sent vs b)) (opposite m.columns m.rows)
  where
    opposite : (C R : Bool) → mirrored_subblock (record { columns = C; rows = R }) (i * 4 + j) ≡ turn R 4 i * 4 + turn C 4 j
    opposite false false = omega arith
    opposite false true = omega arith
    opposite true false = omega arith
    opposite true true = omega arith

turn_pair : (b : Bool) (i a : ℕ) → i < 2 → a < 2 → turn b 4 (i * 2 + a) ≡ turn b 2 i * 2 + turn b 2 a
turn_pair false i a hi ha = refl
turn_pair true i a hi ha = omega arith

-- four in two rows, of which either axis may be turned round
module _ (z : ℕ → ℕ → ℤ) where
  four_turned : (R C : Bool)
      → split_chroma (z (turn R 2 0) (turn C 2 0)) (z (turn R 2 0) (turn C 2 1)) (z (turn R 2 1) (turn C 2 0)) (z (turn R 2 1) (turn C 2 1))
      ≡ split_chroma (z 0 0) (z 0 1) (z 1 0) (z 1 1)
  four_turned false false = refl
  four_turned false true = split_columns (z 0 0) (z 0 1) (z 1 0) (z 1 1)
  four_turned true false = split_rows (z 0 0) (z 0 1) (z 1 0) (z 1 1)
  four_turned true true = split_columns (z 1 0) (z 1 1) (z 0 0) (z 0 1) ∙ split_rows (z 0 0) (z 0 1) (z 1 0) (z 1 1)

  component_turned : (R C t : Bool)
      → split_chroma (negated t (z (turn R 2 0) (turn C 2 0))) (negated t (z (turn R 2 0) (turn C 2 1))) (negated t (z (turn R 2 1) (turn C 2 0)))
      (negated t (z (turn R 2 1) (turn C 2 1)))
      ≡ negated t (split_chroma (z 0 0) (z 0 1) (z 1 0) (z 1 1))
  component_turned R C t = split-neg _ _ _ _ t ∙ ap (negated t) (four_turned R C)

-- the four of a quarter by their rows and columns
abbrev in_quarter : List Mv → ℕ → ℕ → ℕ → ℕ → Mv
in_quarter vs i j a b = sent vs ((i * 2 + a) * 4 + (j * 2 + b))

quarter-four : (vs : List Mv) (i j : ℕ) → i < 2 → j < 2
    → quarter_average vs (i * 2 + j) ≡ average (in_quarter vs i j 0 0) (in_quarter vs i j 0 1) (in_quarter vs i j 1 0) (in_quarter vs i j 1 1)
quarter-four vs i j hi hj =
    let p : corner (i * 2 + j) ≡ (i * 2 + 0) * 4 + (j * 2 + 0) = omega arith in
    let q : corner (i * 2 + j) + 1 ≡ (i * 2 + 0) * 4 + (j * 2 + 1) = omega arith in
    let r : corner (i * 2 + j) + 4 ≡ (i * 2 + 1) * 4 + (j * 2 + 0) = omega arith in
    let s : corner (i * 2 + j) + 5 ≡ (i * 2 + 1) * 4 + (j * 2 + 1) = omega arith in
    λ t. average (sent vs (p t)) (sent vs (q t)) (sent vs (r t)) (sent vs (s t))

quarter_mirrored : (m : Mirror) (vs : List Mv) (i j : ℕ) → i < 2 → j < 2
    → quarter_average (mirrored_vectors m vs) (i * 2 + j) ≡ mirrored_vector m (quarter_average vs (turn m.rows 2 i * 2 + turn m.columns 2 j))
quarter_mirrored m vs i j hi hj =
    quarter-four (mirrored_vectors m vs) i j hi hj
    ∙ (λ t. average (each 0 0 (omega arith) (omega arith) t) (each 0 1 (omega arith) (omega arith) t) (each 1 0 (omega arith) (omega arith) t) (each 1 1 (omega arith) (omega arith) t))
    ∙ vector (component_turned (λ a b. (in_quarter vs I J a b).row) m.rows m.columns m.rows) (component_turned (λ a b. (in_quarter vs I J a b).col) m.rows m.columns m.columns)
    ∙ ap (mirrored_vector m) (sym (quarter-four vs I J (turn_under m.rows 2 i hi) (turn_under m.columns 2 j hj)))
  where
    I : ℕ
    I = turn m.rows 2 i

    J : ℕ
    J = turn m.columns 2 j

    each : (a b : ℕ) → a < 2 → b < 2 → in_quarter (mirrored_vectors m vs) i j a b ≡ mirrored_vector m (in_quarter vs I J (turn m.rows 2 a) (turn m.columns 2 b))
    each a b ha hb =
        sent_mirrored m vs (i * 2 + a) (j * 2 + b) (omega arith) (omega arith)
        ∙ ap₂ (λ (r c : ℕ). mirrored_vector m (sent vs (r * 4 + c))) (turn_pair m.rows i a hi ha) (turn_pair m.columns j b hj hb)

-- the vector of each of its 4x4 blocks, in each channel
pub tile-vector : (k : Channel) (m : Mirror) (vs : List Mv) → ((b : ℕ) → b < 16 → Turnable m (sent vs b)) → (i j : ℕ) → i < side k / 4 → j < side k / 4
    → tile_vector k off (mirrored_vectors m vs) i j ≡ mirrored_vector m (tile_vector k off vs (turn m.rows (side k / 4) i) (turn m.columns (side k / 4) j))
tile-vector luma m vs T i j hi hj =
    let I = turn m.rows 4 i in
    let J = turn m.columns 4 j in
    let l : I * 4 + J < 16 = omega (arith, turn_under m.rows 4 i hi, turn_under m.columns 4 j hj) in
    ap (luma_vector off) (sent_mirrored m vs i j hi hj) ∙ whole-vector luma m (sent vs (I * 4 + J)) (T (I * 4 + J) l)
tile-vector chroma_u m vs T i j hi hj = quarter_mirrored m vs i j hi hj
tile-vector chroma_v m vs T i j hi hj = quarter_mirrored m vs i j hi hj
