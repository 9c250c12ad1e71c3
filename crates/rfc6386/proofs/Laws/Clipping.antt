-- Laws of clipped samples: a step by its sums, equal samples, bytes that no step clips, what is clipped over a halo, and totals. Assumes nothing.
use Rattle.std.specs.Prelude.{◌≡◌, refl, Bool, true, cond, List, [], ◌∷◌, ℕ, zero, suc, ◌+◌, ◌-◌, ◌*◌, ◌/◌, ◌<◌, ◌≤◌, get_or, ℤ, pos, negsuc, ◌+ℤ◌}
use Rattle.std.proofs.Common.{sym, ◌∙◌, mul-one, arith, le-ltb}
use Rattle.std.proofs.Math.Path.{ap, ap₂}
use Rattle.rfc6386.specs.Number.{floor_div}
use Rattle.rfc6386.specs.Vector.{whole_part, fraction, is_whole}
use Rattle.rfc6386.specs.Filter.{taps_of, rounded}
use Rattle.rfc6386.specs.Picture.{Image, place, six, across, halo}
use Rattle.rfc6386.specs.Sums.{sum_to, sum_rows}
use Rattle.rfc6386.specs.Clips.{clip_of, step_clip, filtered_clip, predicted_clip, is_low, is_high, no_clips, totals, clips_by, block_clips, halo_clip, halo_clips}
use Rattle.rfc6386.proofs.Laws.Raster.{row_fits}
use Rattle.rfc6386.proofs.Laws.Sums.{sum-zero, rows_ext, rows_add, rows_le}
use Rattle.rfc6386.proofs.Laws.Vectors.{fraction-under}
use Rattle.rfc6386.specs.Taps.{Sizes, signed, sizes_of, sizes6}
use Rattle.rfc6386.proofs.Laws.Steps.{Is, plus_of, minus_of, sum_is, row_of, bilinear-is, below, step_le}
use Rattle.rfc6386.proofs.Laws.Samples.{Bytes, place_two, six-same, six_flat}
use Rattle.rfc6386.proofs.Laws.Halos.{whole_row, whole_col, list_image, at_place, along, fetched}
use Rattle.rfc6386.specs.declared.Mv.{Mv}
use Rattle.rfc6386.specs.declared.FilterSet.{FilterSet}
use Rattle.rfc6386.specs.declared.FilterSet.TheVariants.{Sixtap, Bilinear}
use Rattle.rfc6386.specs.declared.Clip.{Clip}
use Rattle.rfc6386.specs.declared.Clip.TheVariants.{Low, High, None}

-- ---- a step by what it adds up and takes off
-- that is p - n: nothing is clipped where it stays in 0 .. 32767
none_of : (z : ℤ) {p n : ℕ} → Is z p n → n ≤ p → p < 32768 + n → clip_of (floor_div z 128) ≡ None
unfolding clip_of
none_of (pos a) I h k = ap (λ (b : Bool). cond b High None) (le-ltb 255 (a / 128) (omega (arith, I.is)))
none_of (negsuc a) I h k = absurd (omega (arith, I.is))

pub step_none : (t : Sizes) (a b c d e f : ℕ) → minus_of t a b c d e f ≤ plus_of t a b c d e f → plus_of t a b c d e f < 32768 + minus_of t a b c d e f
    → step_clip (signed t) (a ∷ b ∷ c ∷ d ∷ e ∷ f ∷ []) ≡ None
unfolding step_clip rounded
step_none t a b c d e f h k = none_of _ (sum_is t a b c d e f) h k

-- equal samples are clipped alike
pub same_clip : (ts : List ℤ) (a b c d e f a' b' c' d' e' f' : ℕ) → a ≡ a' → b ≡ b' → c ≡ c' → d ≡ d' → e ≡ e' → f ≡ f'
    → step_clip ts (a ∷ b ∷ c ∷ d ∷ e ∷ f ∷ []) ≡ step_clip ts (a' ∷ b' ∷ c' ∷ d' ∷ e' ∷ f' ∷ [])
same_clip ts a b c d e f a' b' c' d' e' f' p q r s t u = cc

pub six_clip : (ts : List ℤ) (f g : ℤ → ℕ) (x y : ℤ) → ((i : ℕ) → i < 6 → f (place x i) ≡ g (place y i)) → step_clip ts (six f x) ≡ step_clip ts (six g y)
six_clip ts f g x y h =
    same_clip ts _ _ _ _ _ _ _ _ _ _ _ _ (h 0 (omega arith)) (h 1 (omega arith)) (h 2 (omega arith)) (h 3 (omega arith)) (h 4 (omega arith)) (h 5 (omega arith))

-- ---- bytes that no step clips
-- six of one value
pub clip_flat : (set : FilterSet) (k s : ℕ) → k < 8 → s ≤ 255 → step_clip (taps_of set k) (s ∷ s ∷ s ∷ s ∷ s ∷ s ∷ []) ≡ None
clip_flat set k s h l =
    let R = row_of set k h in
    let t = sizes_of (taps_of set k) in
    ap (λ (ts : List ℤ). step_clip ts (s ∷ s ∷ s ∷ s ∷ s ∷ s ∷ [])) R.signs
    ∙ step_none t s s s s s s (omega (arith, ap (λ (n : ℕ). n * s) R.balanced)) (omega (arith, ap (λ (n : ℕ). n * s) R.balanced))

-- any under a fraction of 0
pub clip-zero : (set : FilterSet) (a b c d e f : ℕ) → c ≤ 255 → step_clip (taps_of set 0) (a ∷ b ∷ c ∷ d ∷ e ∷ f ∷ []) ≡ None
unfolding taps_of signed
clip-zero Sixtap a b c d e f h = step_none (sizes6 0 0 128 0 0 0) a b c d e f (omega arith) (omega arith)
clip-zero Bilinear a b c d e f h = step_none (sizes6 0 0 128 0 0 0) a b c d e f (omega arith) (omega arith)

-- and under bilinear
pub clip_bilinear : (k a b c d e f : ℕ) → k < 8 → c ≤ 255 → d ≤ 255 → step_clip (taps_of Bilinear k) (a ∷ b ∷ c ∷ d ∷ e ∷ f ∷ []) ≡ None
clip_bilinear k a b c d e f h p q =
    ap (λ (ts : List ℤ). step_clip ts (a ∷ b ∷ c ∷ d ∷ e ∷ f ∷ [])) (bilinear-is k h)
    ∙ step_none (sizes6 0 0 (128 - 16 * k) (16 * k) 0 0) a b c d e f (omega arith) (omega (arith, few))
  where
    few : (128 - 16 * k) * c + 16 * k * d ≤ 32640
    few =
        below (λ k. (128 - 16 * k) * c + 16 * k * d ≤ 32640) 8
        (omega arith, (omega arith, (omega arith, (omega arith, (omega arith, (omega arith, (omega arith, (omega arith, tt)))))))) k h

-- ---- one predicted sample
-- two pictures with the same samples at the places in reach
pub filtered_clip_same : (set : FilterSet) (img img' : Image) (j k : ℕ) (x y x' y' : ℤ)
    → ((i l : ℕ) → i < 6 → l < 6 → img (place x i) (place y l) ≡ img' (place x' i) (place y' l)) → filtered_clip set img j k x y ≡ filtered_clip set img' j k x' y'
unfolding filtered_clip across
filtered_clip_same set img img' zero zero x y x' y' h = refl
filtered_clip_same set img img' (suc j) zero x y x' y' h =
    six_clip (taps_of set (suc j)) (λ a. img a y) (λ a. img' a y') x x'
    (λ i hi. ap (img (place x i)) (sym (place_two y)) ∙ h i 2 hi (omega arith) ∙ ap (img' (place x' i)) (place_two y'))
filtered_clip_same set img img' j (suc k) x y x' y' h =
    six_clip (taps_of set (suc k)) (λ b. across set img j x b) (λ b. across set img' j x' b) y y'
    (λ l hl. six-same (taps_of set j) (λ a. img a (place y l)) (λ a. img' a (place y' l)) x x' (λ i hi. h i l hi hl))

-- one value at all the places in reach
filtered_clip_flat : (set : FilterSet) (img : Image) (j k : ℕ) (x y : ℤ) (s : ℕ) → j < 8 → k < 8 → s ≤ 255
    → ((i l : ℕ) → i < 6 → l < 6 → img (place x i) (place y l) ≡ s) → filtered_clip set img j k x y ≡ None
unfolding filtered_clip across
filtered_clip_flat set img zero zero x y s hj hk m h = refl
filtered_clip_flat set img (suc j) zero x y s hj hk m h =
    six_clip (taps_of set (suc j)) (λ a. img a y) (λ a. s) x x (λ i hi. ap (img (place x i)) (sym (place_two y)) ∙ h i 2 hi (omega arith))
    ∙ clip_flat set (suc j) s hj m
filtered_clip_flat set img j (suc k) x y s hj hk m h =
    six_clip (taps_of set (suc k)) (λ b. across set img j x b) (λ b. s) y y (λ l hl. six_flat set j (λ a. img a (place y l)) x s hj m (λ i hi. h i l hi hl))
    ∙ clip_flat set (suc k) s hk m

-- and bytes under bilinear
filtered_clip_bilinear : (img : Image) (j k : ℕ) (x y : ℤ) → j < 8 → k < 8 → Bytes img → filtered_clip Bilinear img j k x y ≡ None
unfolding filtered_clip across
filtered_clip_bilinear img zero zero x y hj hk B = refl
filtered_clip_bilinear img (suc j) zero x y hj hk B = clip_bilinear (suc j) _ _ _ _ _ _ hj (B _ y) (B _ y)
filtered_clip_bilinear img j (suc k) x y hj hk B = clip_bilinear (suc k) _ _ _ _ _ _ hk (step_le _ _) (step_le _ _)

-- ---- over a halo
pub halo_clip_lem : (set : FilterSet) (l : List ℕ) (p j k r c : ℕ) → halo_clip set l p j k r c ≡ filtered_clip set (list_image l p) j k (pos (c + 2)) (pos (r + 2))
unfolding halo_clip filtered_clip
halo_clip_lem set l p zero zero r c = refl
halo_clip_lem set l p (suc j) zero r c =
    same_clip (taps_of set (suc j)) _ _ _ _ _ _ _ _ _ _ _ _
    (at 0 _ (omega arith)) (at 1 _ (omega arith)) (at 2 _ (omega arith)) (at 3 _ (omega arith)) (at 4 _ (omega arith)) (at 5 _ (omega arith))
  where
    at : (m n : ℕ) → n ≡ (r + 2) * p + (c + m) → get_or l n 0 ≡ list_image l p (place (pos (c + 2)) m) (pos (r + 2))
    at m n e = at_place l p r 2 c m n e ∙ ap (list_image l p (place (pos (c + 2)) m)) (place_two (pos (r + 2)))
halo_clip_lem set l p j (suc k) r c =
    same_clip (taps_of set (suc k)) _ _ _ _ _ _ _ _ _ _ _ _
    (along set l p j r 0 c _ (omega arith))
    (along set l p j r 1 c _ (omega arith))
    (along set l p j r 2 c _ (omega arith))
    (along set l p j r 3 c _ (omega arith))
    (along set l p j r 4 c _ (omega arith))
    (along set l p j r 5 c _ (omega arith))

-- ---- totals
pub totals_ext : (n : ℕ) (f g : ℕ → ℕ → Clip) → ((r c : ℕ) → r < n → c < n → f r c ≡ g r c) → totals n f ≡ totals n g
unfolding totals
totals_ext n f g h =
    let low = rows_ext n n (λ r c. is_low (f r c)) (λ r c. is_low (g r c)) (λ r c hr hc. ap is_low (h r c hr hc)) in
    let high = rows_ext n n (λ r c. is_high (f r c)) (λ r c. is_high (g r c)) (λ r c hr hc. ap is_high (h r c hr hc)) in
    λ i. record { low = low i; high = high i }

pub totals_none : (n : ℕ) (f : ℕ → ℕ → Clip) → ((r c : ℕ) → r < n → c < n → f r c ≡ None) → totals n f ≡ no_clips
unfolding totals
totals_none n f h = totals_ext n f (λ r c. None) h ∙ (λ i. record { low = zeros i; high = zeros i })
  where
    zeros : sum_rows n n (λ r c. 0) ≡ 0
    zeros = sum-zero n (λ r. sum_to n (λ c. 0)) (λ r hr. sum-zero n (λ c. 0) (λ c hc. refl))

-- a sample is clipped once at most
one_clip : (c : Clip) → is_low c + is_high c ≤ 1
one_clip Low = omega arith
one_clip High = omega arith
one_clip None = omega arith

-- THEOREM. No more are clipped than there are samples.
pub totals_le : (n : ℕ) (f : ℕ → ℕ → Clip) → (totals n f).low + (totals n f).high ≤ n * n
unfolding totals
totals_le n f =
    omega (
      arith,
      rows_add n n (λ r c. is_low (f r c)) (λ r c. is_high (f r c)),
      rows_le n n 1 (λ r c. is_low (f r c) + is_high (f r c)) (λ r c hr hc. one_clip (f r c)),
      ap (λ (k : ℕ). n * k) (mul-one n),
    )

-- ---- the totals of a block
module _ (n : ℕ) (set : FilterSet) (img : Image) (x y : ℕ) where
  pub block_clips_le : (f : ℕ → ℕ → Mv) → (clips_by n set img x y f).low + (clips_by n set img x y f).high ≤ n * n
  unfolding clips_by
  block_clips_le f = totals_le n _

  -- with other vectors that are the same
  pub block_clips_ext : (f g : ℕ → ℕ → Mv) → ((r c : ℕ) → r < n → c < n → f r c ≡ g r c) → clips_by n set img x y f ≡ clips_by n set img x y g
  unfolding clips_by
  block_clips_ext f g h = totals_ext n _ _ (λ r c hr hc. ap (predicted_clip set img (pos (x + c)) (pos (y + r))) (h r c hr hc))

  -- THEOREM. None where the picture has one value,
  pub block_clips_flat : (s : ℕ) (f : ℕ → ℕ → Mv) → s ≤ 255 → ((a b : ℤ) → img a b ≡ s) → clips_by n set img x y f ≡ no_clips
  unfolding clips_by predicted_clip
  block_clips_flat s f l h =
      totals_none n _ (λ r c hr hc. filtered_clip_flat set img _ _ _ _ s (fraction-under (f r c).col) (fraction-under (f r c).row) l (λ i m hi hm. h _ _))

  -- and where no vector has a fraction.
  pub block_clips_whole : (f : ℕ → ℕ → Mv) → ((r c : ℕ) → r < n → c < n → is_whole (f r c) ≡ true) → clips_by n set img x y f ≡ no_clips
  unfolding clips_by predicted_clip filtered_clip
  block_clips_whole f h =
      totals_none n _
      (λ r c hr hc.
      ap₂ (λ (j k : ℕ). filtered_clip set img j k (pos (x + c) +ℤ whole_part (f r c).col) (pos (y + r) +ℤ whole_part (f r c).row))
      (whole_col (f r c) (h r c hr hc)) (whole_row (f r c) (h r c hr hc)))

-- THEOREM. None under bilinear.
pub block_clips_bilinear : (n : ℕ) (img : Image) (x y : ℕ) (f : ℕ → ℕ → Mv) → Bytes img → clips_by n Bilinear img x y f ≡ no_clips
unfolding clips_by predicted_clip
block_clips_bilinear n img x y f B =
    totals_none n _ (λ r c hr hc. filtered_clip_bilinear img _ _ _ _ (fraction-under (f r c).col) (fraction-under (f r c).row) B)

-- ---- and over a halo
pub halo_clips_le : (n : ℕ) (set : FilterSet) (l : List ℕ) (j k : ℕ) → (halo_clips n set l j k).low + (halo_clips n set l j k).high ≤ n * n
unfolding halo_clips
halo_clips_le n set l j k = totals_le n _

pub halo_clips_whole : (n : ℕ) (set : FilterSet) (l : List ℕ) → halo_clips n set l 0 0 ≡ no_clips
unfolding halo_clips halo_clip
halo_clips_whole n set l = totals_none n _ (λ r c hr hc. refl)

pub halo_clips_flat : (n : ℕ) (set : FilterSet) (l : List ℕ) (j k s : ℕ) → j < 8 → k < 8 → s ≤ 255 → ((i : ℕ) → i < (n + 5) * (n + 5) → get_or l i 0 ≡ s)
    → halo_clips n set l j k ≡ no_clips
unfolding halo_clips
halo_clips_flat n set l j k s hj hk hs h =
    totals_none n _
    (λ r c hr hc.
    halo_clip_lem set l (n + 5) j k r c
    ∙ filtered_clip_flat set (list_image l (n + 5)) j k (pos (c + 2)) (pos (r + 2)) s hj hk hs
    (λ i m hi hm.
    sym (at_place l (n + 5) r m c i _ refl)
    ∙ h ((r + m) * (n + 5) + (c + i)) (omega (arith, row_fits (r + m) (n + 5) (n + 5) (omega arith)))))

-- THEOREM. Over the fetched halo as many are clipped as of the predicted block, at any width.
pub halo_clips_lem : (n : ℕ) (set : FilterSet) (img : Image) (x y : ℕ) (v : Mv)
    → halo_clips n set (halo n img x y v) (fraction v.col) (fraction v.row) ≡ block_clips n set img x y v
unfolding halo_clips block_clips clips_by predicted_clip
halo_clips_lem n set img x y v =
    totals_ext n _ _
    (λ r c hr hc.
    halo_clip_lem set (halo n img x y v) (n + 5) (fraction v.col) (fraction v.row) r c
    ∙ filtered_clip_same set (list_image (halo n img x y v) (n + 5)) img (fraction v.col) (fraction v.row) (pos (c + 2)) (pos (r + 2)) _ _
    (λ i l hi hl. sym (at_place (halo n img x y v) (n + 5) r l c i _ refl) ∙ fetched n set img x y v r l c i hr hc hl hi))

-- the same, from what the code has in hand: j and k are the fractions, and l is the halo
pub filtered_clips : (n : ℕ) (set : FilterSet) (img : Image) (x y : ℕ) (v : Mv) {l : List ℕ} {j k : ℕ}
    → l ≡ halo n img x y v → j ≡ fraction v.col → k ≡ fraction v.row → halo_clips n set l j k ≡ block_clips n set img x y v
filtered_clips n set img x y v h p q = (λ i. halo_clips n set (h i) (p i) (q i)) ∙ halo_clips_lem n set img x y v

pub whole_clips_lem : (n : ℕ) (set : FilterSet) (img : Image) (x y : ℕ) (v : Mv) → is_whole v ≡ true → block_clips n set img x y v ≡ no_clips
unfolding block_clips
whole_clips_lem n set img x y v e = block_clips_whole n set img x y (λ r c. v) (λ r c hr hc. e)
