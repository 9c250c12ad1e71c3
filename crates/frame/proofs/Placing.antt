-- Macroblocks put side by side into a row, and rows below one another into a frame, once over the plane. Assumes nothing.
use mathlib.Core.Path.{◌≡◌, refl, sym, ap, ◌∙◌}
use mathlib.Core.Bool.{Bool, true, false, cond, ◌&&◌, ◌||◌}
use mathlib.Core.List.{List}
use Prim.Native.Nat.{ℕ, ◌+◌, ◌-◌, ◌*◌, ◌/◌, ◌%◌, ◌<◌, ◌≤◌}
use native.Mathlib.Nat.{mul-le-mul_right}
use native.Mathlib.Omega.{arith}
use lib.ListN.{length, get_or}
use lib.Seq.{ext_get_or}
use Rattle.rfc6386.specs.Raster.{written, within}
use Rattle.rfc6386.specs.Channel.{Channel, side, samples_in}
use Rattle.rfc6386.proofs.Laws.Raster.{next_row, row_fits, get_or-written, length-written, written_ext, within_is}
use Rattle.steps.specs.Rows.{Room}
use Rattle.steps.proofs.Laws.Copying.{within-false}
use Rattle.steps.proofs.Laws.Parts.{within_parts, written_rows}
use Rattle.frame.specs.Frame.{Asked, cols, prediction_at, frame_sample}
use Rattle.frame.specs.Laws.{sample_in}
use Rattle.frame.specs.Inner.{Holds, row_part, rows_part}

-- ---- a rectangle of no columns, and of no rows
module _ (d : List ℕ) (s x y w h : ℕ) (f : ℕ → ℕ → ℕ) (none : (q m : ℕ) → within y h q && within x w m ≡ false) where
  pub written_none : written d s x y w h f ≡ d
  written_none =
      ext_get_or 0 (written d s x y w h f) d (length-written d s x y w h f)
      (λ i l.
      get_or-written d s x y w h f i (omega (arith, length-written d s x y w h f))
      ∙ ap (λ (b : Bool). cond b (f (i / s - y) (i % s - x)) (get_or d i 0)) (none (i / s) (i % s)))

and-false : (b : Bool) → b && false ≡ false
and-false true = refl
and-false false = refl

no_columns : (d : List ℕ) (s x y h : ℕ) (f : ℕ → ℕ → ℕ) → written d s x y 0 h f ≡ d
no_columns d s x y h f =
    written_none d s x y 0 h f (λ q m. ap (λ (b : Bool). within y h q && b) (within-false x 0 m (λ g l. omega arith)) ∙ and-false (within y h q))

no_rows : (d : List ℕ) (s x y w : ℕ) (f : ℕ → ℕ → ℕ) → written d s x y w 0 f ≡ d
no_rows d s x y w f = written_none d s x y w 0 f (λ q m. ap (λ (b : Bool). b && within x w m) (within-false y 0 q (λ g l. omega arith)))

-- THEOREM. A rectangle of w + k columns is its first w columns, and the k columns beside them.
module _ (d : List ℕ) (s x y w h k : ℕ) (f : ℕ → ℕ → ℕ) where
  two : (a b d : ℕ) (R C C' : Bool) → (C' ≡ true → b ≡ a) → cond (R && C') b (cond (R && C) a d) ≡ cond (R && (C || C')) a d
  two a b d true true true e = e refl
  two a b d true true false e = refl
  two a b d true false true e = e refl
  two a b d true false false e = refl
  two a b d false C C' e = refl

  abbrev d₁ : List ℕ
  d₁ = written d s x y w h f

  abbrev d₂ : List ℕ
  d₂ = written d₁ s (x + w) y k h (λ r c. f r (w + c))

  pub written_columns : d₂ ≡ written d s x y (w + k) h f
  written_columns =
      ext_get_or 0 d₂ (written d s x y (w + k) h f) (n₂ ∙ n₁ ∙ sym (length-written d s x y (w + k) h f)) (λ i l. at i (omega (arith, n₂, n₁)))
    where
      n₁ : length d₁ ≡ length d
      n₁ = length-written d s x y w h f

      n₂ : length d₂ ≡ length d₁
      n₂ = length-written d₁ s (x + w) y k h (λ r c. f r (w + c))

      at : (i : ℕ) → i < length d → get_or d₂ i 0 ≡ get_or (written d s x y (w + k) h f) i 0
      at i l =
          let q = i / s in
          let m = i % s in
          get_or-written d₁ s (x + w) y k h (λ r c. f r (w + c)) i (omega (arith, n₁))
          ∙ ap (cond (within y h q && within (x + w) k m) (f (q - y) (w + (m - (x + w))))) (get_or-written d s x y w h f i l)
          ∙ two (f (q - y) (m - x)) (f (q - y) (w + (m - (x + w)))) (get_or d i 0) (within y h q) (within x w m) (within (x + w) k m)
          (λ e. let W = within_is (x + w) k m e in let z : w + (m - (x + w)) ≡ m - x = omega (arith, W.from) in ap (λ (j : ℕ). f (q - y) j) z)
          ∙ sym
          (get_or-written d s x y (w + k) h f i l
          ∙ ap (λ (b : Bool). cond (within y h q && b) (f (q - y) (m - x)) (get_or d i 0)) (within_parts x w k m))

-- ---- of a frame's plane
module _ (a : Asked) (k : Channel) (out : List ℕ) (stride : ℕ) where
  abbrev n : ℕ
  n = side k

  -- a row begins
  pub row_none : (row : ℕ) → out ≡ row_part a k out stride row 0
  unfolding row_part
  row_none row = sym (ap (λ (w : ℕ). written out stride 0 (row * n) w n (λ r c. frame_sample a k (row * n + r) c)) (omega arith) ∙ no_columns out stride 0 (row * n) n (λ r c. frame_sample a k (row * n + r) c))

  -- one macroblock more
  pub row_more : {d d' : List ℕ} (row col : ℕ) (g : ℕ → ℕ → ℕ) → d ≡ row_part a k out stride row col → d' ≡ written d stride (col * n) (row * n) n n g
      → ((r c : ℕ) → r < n → c < n → g r c ≡ get_or (samples_in k (prediction_at a col row).samples) (r * n + c) 0)
      → d' ≡ row_part a k out stride row (col + 1)
  unfolding row_part
  row_more {d} {d'} row col g e e' same =
      let f : ℕ → ℕ → ℕ = λ r c. frame_sample a k (row * n + r) c in
      let x : col * n ≡ 0 + col * n = omega arith in
      e'
      ∙ written_ext d stride (col * n) (row * n) n n g (λ r c. f r (col * n + c)) (λ r c hr hc. same r c hr hc ∙ sym (sample_in a k col row r c hr hc))
      ∙ ap (λ (l : List ℕ). written l stride (col * n) (row * n) n n (λ r c. f r (col * n + c))) e
      ∙ ap (λ (j : ℕ). written (written out stride 0 (row * n) (col * n) n f) stride j (row * n) n n (λ r c. f r (col * n + c))) x
      ∙ written_columns out stride 0 (row * n) (col * n) n n f
      ∙ ap (λ (w : ℕ). written out stride 0 (row * n) w n f) (sym (next_row col n))

  -- a frame begins
  pub rows_none : out ≡ rows_part a k out stride 0
  unfolding rows_part
  rows_none = sym (ap (λ (h : ℕ). written out stride 0 0 (cols a * n) h (frame_sample a k)) (omega arith) ∙ no_rows out stride 0 0 (cols a * n) (frame_sample a k))

  -- one row more
  pub rows_more : {d d' : List ℕ} (row : ℕ) → d ≡ rows_part a k out stride row → d' ≡ row_part a k d stride row (cols a) → d' ≡ rows_part a k out stride (row + 1)
  unfolding row_part rows_part
  rows_more {d} {d'} row e e' =
      let y : row * n ≡ 0 + row * n = omega arith in
      e'
      ∙ ap (λ (l : List ℕ). written l stride 0 (row * n) (cols a * n) n (λ r c. frame_sample a k (row * n + r) c)) e
      ∙ ap (λ (j : ℕ). written (written out stride 0 0 (cols a * n) (row * n) (frame_sample a k)) stride 0 j (cols a * n) n (λ r c. frame_sample a k (row * n + r) c)) y
      ∙ written_rows out stride 0 0 (cols a * n) (row * n) n (frame_sample a k)
      ∙ ap (λ (h : ℕ). written out stride 0 0 (cols a * n) h (frame_sample a k)) (sym (next_row row n))

-- ---- there is room for each macroblock
pub room_at : (bytes stride n cols rows col row : ℕ) → 1 ≤ n → Holds bytes stride (cols * n) (rows * n) → col < cols → row < rows
    → Room bytes stride (col * n) (row * n) n n
room_at bytes stride n cols rows col row some H hc hr =
    let x = row_fits col cols n hc in
    let y = row_fits row rows n hr in
    record {
      some = some;
      across = omega (arith, H.across);
      down = λ r h.
          let below : row * n + r ≤ rows * n - 1 = omega arith in
          omega (arith, mul-le-mul_right stride below, H.down);
    }
