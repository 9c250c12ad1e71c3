-- Laws of sums: term by term, bounds, parts, rows, and sums taken in the other order. Assumes nothing.
use Rattle.std.specs.Prelude.{◌≡◌, refl, ℕ, zero, suc, ◌+◌, ◌*◌, ◌/◌, ◌%◌, ◌<◌, ◌≤◌}
use Rattle.std.proofs.Common.{sym, ap, ap₂, ◌∙◌, zero-mul, suc-mul, mul-add, add-one, arith}
use Rattle.std.proofs.Math.Arith.{digits_div, digits_mod}
use Rattle.rfc6386.specs.Sums.{sum_to, sum_rows}

-- ---- a sum
pub sum_none : (f : ℕ → ℕ) → sum_to 0 f ≡ 0
unfolding sum_to
sum_none f = refl

pub sum_more : (n : ℕ) (f : ℕ → ℕ) → sum_to (n + 1) f ≡ sum_to n f + f n
unfolding sum_to
sum_more n f = rw add-one

pub sum_ext : (n : ℕ) (f g : ℕ → ℕ) → ((i : ℕ) → i < n → f i ≡ g i) → sum_to n f ≡ sum_to n g
unfolding sum_to
sum_ext zero f g h = refl
sum_ext (suc n) f g h = ap₂ ◌+◌ (sum_ext n f g (λ i l. h i (omega arith))) (h n (omega arith))

pub sum-zero : (n : ℕ) (f : ℕ → ℕ) → ((i : ℕ) → i < n → f i ≡ 0) → sum_to n f ≡ 0
unfolding sum_to
sum-zero zero f h = refl
sum-zero (suc n) f h = omega (arith, sum-zero n f (λ i l. h i (omega arith)), h n (omega arith))

pub sum_least : (n m : ℕ) (f : ℕ → ℕ) → ((i : ℕ) → i < n → m ≤ f i) → n * m ≤ sum_to n f
unfolding sum_to
sum_least zero m f h = omega arith
sum_least (suc n) m f h = omega (arith, sum_least n m f (λ i l. h i (omega arith)), h n (omega arith), suc-mul n m)

pub sum_le : (n m : ℕ) (f : ℕ → ℕ) → ((i : ℕ) → i < n → f i ≤ m) → sum_to n f ≤ n * m
unfolding sum_to
sum_le zero m f h = omega arith
sum_le (suc n) m f h = omega (arith, sum_le n m f (λ i l. h i (omega arith)), h n (omega arith), suc-mul n m)

-- of sums, and of multiples
pub sum_add : (n : ℕ) (f g : ℕ → ℕ) → sum_to n (λ i. f i + g i) ≡ sum_to n f + sum_to n g
unfolding sum_to
sum_add zero f g = refl
sum_add (suc n) f g = omega (arith, sum_add n f g)

pub sum_times : (n k : ℕ) (f : ℕ → ℕ) → sum_to n (λ i. k * f i) ≡ k * sum_to n f
unfolding sum_to
sum_times zero k f = omega arith
sum_times (suc n) k f = omega (arith, sum_times n k f, mul-add k (sum_to n f) (f n))

-- the first a terms, and b more
pub sum_parts : (a b : ℕ) (f : ℕ → ℕ) → sum_to (a + b) f ≡ sum_to a f + sum_to b (λ i. f (a + i))
unfolding sum_to
sum_parts a zero f = let e : a + 0 ≡ a = omega arith in ap (λ (k : ℕ). sum_to k f) e ∙ omega arith
sum_parts a (suc b) f = let e : a + suc b ≡ suc (a + b) = omega arith in ap (λ (k : ℕ). sum_to k f) e ∙ omega (arith, sum_parts a b f)

-- ---- rows
pub rows_ext : (rows w : ℕ) (f g : ℕ → ℕ → ℕ) → ((r c : ℕ) → r < rows → c < w → f r c ≡ g r c) → sum_rows rows w f ≡ sum_rows rows w g
rows_ext rows w f g h = sum_ext rows _ _ (λ r hr. sum_ext w (f r) (g r) (λ c hc. h r c hr hc))

pub rows_add : (rows w : ℕ) (f g : ℕ → ℕ → ℕ) → sum_rows rows w (λ r c. f r c + g r c) ≡ sum_rows rows w f + sum_rows rows w g
rows_add rows w f g = sum_ext rows _ _ (λ r hr. sum_add w (f r) (g r)) ∙ sum_add rows (λ r. sum_to w (f r)) (λ r. sum_to w (g r))

pub rows_times : (rows w k : ℕ) (f : ℕ → ℕ → ℕ) → sum_rows rows w (λ r c. k * f r c) ≡ k * sum_rows rows w f
rows_times rows w k f = sum_ext rows _ _ (λ r hr. sum_times w k (f r)) ∙ sum_times rows k (λ r. sum_to w (f r))

-- rows in two parts, side by side
pub rows_beside : (rows a b : ℕ) (f : ℕ → ℕ → ℕ) → sum_rows rows (a + b) f ≡ sum_rows rows a f + sum_rows rows b (λ r c. f r (a + c))
rows_beside rows a b f = sum_ext rows _ _ (λ r hr. sum_parts a b (f r)) ∙ sum_add rows (λ r. sum_to a (f r)) (λ r. sum_to b (λ c. f r (a + c)))

pub rows_le : (rows w m : ℕ) (f : ℕ → ℕ → ℕ) → ((r c : ℕ) → r < rows → c < w → f r c ≤ m) → sum_rows rows w f ≤ rows * (w * m)
rows_le rows w m f h = sum_le rows (w * m) _ (λ r hr. sum_le w m (f r) (λ c hc. h r c hr hc))

-- a list of rows, one after the other
pub sum_rows_lem : (rows w : ℕ) (f : ℕ → ℕ) → sum_to (rows * w) f ≡ sum_rows rows w (λ r c. f (r * w + c))
unfolding sum_to
sum_rows_lem zero w f = ap (λ (k : ℕ). sum_to k f) (zero-mul w)
sum_rows_lem (suc rows) w f =
    ap (λ (k : ℕ). sum_to k f) (suc-mul rows w)
    ∙ sum_parts (rows * w) w f
    ∙ ap (λ (k : ℕ). k + sum_to w (λ c. f (rows * w + c))) (sum_rows_lem rows w f)

-- columns instead of rows
pub sum_columns : (rows w : ℕ) (f : ℕ → ℕ → ℕ) → sum_to w (λ c. sum_to rows (λ r. f r c)) ≡ sum_rows rows w f
unfolding sum_to
sum_columns zero w f = sum-zero w _ (λ c h. refl)
sum_columns (suc rows) w f = sum_add w (λ c. sum_to rows (λ r. f r c)) (f rows) ∙ ap (λ (k : ℕ). k + sum_to w (f rows)) (sum_columns rows w f)

-- ---- a square, by smaller ones
-- of w by w, so many to a row, in raster order
pub sum_tiles : (per w : ℕ) (f : ℕ → ℕ → ℕ)
    → sum_to (per * per) (λ b. sum_rows w w (λ r c. f (b / per * w + r) (b % per * w + c))) ≡ sum_rows (per * w) (per * w) f
sum_tiles per w f =
    sum_rows_lem per per _
    ∙ rows_ext per per _ (λ R C. sum_rows w w (λ r c. f (R * w + r) (C * w + c)))
    (λ R C h_r h_c.
    let q = digits_div R h_c in
    let m = digits_mod R h_c in
    λ i. sum_rows w w (λ r c. f (q i * w + r) (m i * w + c)))
    ∙ sym (sum_ext per _ _ (λ R h_r. sum_ext w _ _ (λ r hr. sum_rows_lem per w (f (R * w + r))) ∙ sum_columns per w (λ C r. sum_to w (λ c. f (R * w + r) (C * w + c)))))
    ∙ sym (sum_rows_lem per w (λ r. sum_to (per * w) (f r)))

-- its four quarters
pub sum_quarters : (h : ℕ) (f : ℕ → ℕ → ℕ)
    → sum_rows (h + h) (h + h) f
    ≡ sum_rows h h f + sum_rows h h (λ r c. f r (h + c)) + sum_rows h h (λ r c. f (h + r) c) + sum_rows h h (λ r c. f (h + r) (h + c))
sum_quarters h f =
    sum_parts h h (λ r. sum_to (h + h) (f r))
    ∙ ap₂ ◌+◌ (rows_beside h h h f) (rows_beside h h h (λ r c. f (h + r) c))
    ∙ plus _ _ _ _
  where
    plus : (a b c d : ℕ) → a + b + (c + d) ≡ a + b + c + d
    plus a b c d = omega arith
