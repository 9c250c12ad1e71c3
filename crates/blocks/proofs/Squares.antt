-- Squares of a plane, clamped and plain. Assumes nothing.
use mathlib.Core.Path.{◌≡◌, sym, ap, ap₂, ◌∙◌, subst}
use mathlib.Core.List.{List}
use Prim.Native.Nat.{ℕ, ◌+◌, ◌-◌, ◌*◌, ◌<◌, ◌≤◌}
use native.Mathlib.Nat.{mul-le-mul_right}
use native.Mathlib.Omega.{arith}
use lib.Arith.{digits_div, digits_mod}
use lib.IntN.{ℤ, pos, nat_abs, ◌+ℤ◌}
use lib.ListN.{length, get_or}
use mir.Syntax.{Width}
use Rattle.signed.specs.Int.{int, nat_abs_is}
use Rattle.signed.specs.Held.{Within, Held}
use Rattle.rfc6386.specs.Number.{clamped}
use Rattle.rfc6386.specs.Raster.{raster, written}
use Rattle.rfc6386.specs.Picture.{Plane, Image, image, square}
use Rattle.rfc6386.specs.Refusal.{Fits}
use Rattle.rfc6386.proofs.Laws.Raster.{row_fits, raster_ext, length-raster, get_or-raster, within-true, get_or-written, written_ext}
use Rattle.steps.specs.Rows.{laid}
use Rattle.steps.specs.Window.{window_list, put_at}
use Rattle.blocks.specs.Places.{Inside, Lies, Source, clamped_row, clamped_rect}
use Rattle.steps.proofs.Laws.Copying.{Writing, writing_more}

-- a signed argument as its callee reads it: its range
pub near_as : {w : Width} {z : ℤ} {u d u' d' : ℕ} (h : Held w z u d) → Within z u' d' → Within h.val u' d'
near_as {u' = u'} {d' = d'} h = subst (λ (x : ℤ). Within x u' d') (sym h.is)

-- a square's column and row likewise, and the square of them
module _ {w : Width} {x y : ℤ} {u d u' d' : ℕ} (hx : Held w x u d) (hy : Held w y u' d') where
  pub source_as : {p : Plane} → Source p x y → Source p hx.val hy.val
  source_as {p} S = subst (λ (z : ℤ). Source p z hy.val) (sym hx.is) (subst (λ (z : ℤ). Source p x z) (sym hy.is) S)

  pub square_as : (n : ℕ) (img : Image) {l : List ℕ} → l ≡ square n img hx.val hy.val → l ≡ square n img x y
  square_as n img e = e ∙ ap₂ (square n img) hx.is hy.is

-- a row of the plane, whole
pub in_plane_lem : {p : Plane} → Fits p → (y : ℕ) → y < p.height → y * p.stride + p.width ≤ length p.bytes
in_plane_lem {p} F y h = let l : y ≤ p.height - 1 = omega arith in omega (arith, F.bytes, mul-le-mul_right p.stride l)

-- ---- the clamped rectangle, and its corner
-- one more row of it
pub clamped_more : (p : Plane) (x y : ℤ) {n rows r v : ℕ} {d₀ d d' : List ℕ} → Writing d₀ n 0 0 n rows (λ r c. image p (x +ℤ pos c) (y +ℤ pos r)) d r → r < rows
    → v ≡ clamped (y +ℤ pos r) p.height → d' ≡ clamped_row p.bytes (v * p.stride) p.width x n d (r * n)
    → Writing d₀ n 0 0 n rows (λ r c. image p (x +ℤ pos c) (y +ℤ pos r)) d' (r + 1)
unfolding image
clamped_more p x y {n} {r} {d = d} W h ev e =
    let to : r * n ≡ (0 + r) * n + 0 = omega arith in
    writing_more W (omega arith) h (e ∙ ap₂ (λ (k j : ℕ). laid d j n (λ c. get_or p.bytes (k * p.stride + clamped (x +ℤ pos c) p.width) 0)) ev to)

-- a sample of a rectangle as wide as the rows of its list
written_at : (d : List ℕ) (w rows : ℕ) (f : ℕ → ℕ → ℕ) (r c : ℕ) → r < rows → c < w → rows * w ≤ length d → get_or (written d w 0 0 w rows f) (0 + r * w + c) 0 ≡ f r c
written_at d w rows f r c hr hc room =
    let i : 0 + r * w + c ≡ r * w + c = omega arith in
    ap (λ (k : ℕ). get_or (written d w 0 0 w rows f) k 0) i
    ∙ get_or-written d w 0 0 w rows f (r * w + c) (omega (arith, row_fits r rows w hr))
    ∙ rw (digits_div r hc, digits_mod r hc, within-true 0 rows r (omega arith) (omega arith), within-true 0 w c (omega arith) (omega arith)) (ap₂ f (omega arith) (omega arith))

pub corner_is : (p : Plane) (x y : ℤ) (d : List ℕ) {n cols rows : ℕ} {wide : List ℕ} → n ≤ cols → n ≤ rows → rows * cols ≤ length d
    → wide ≡ clamped_rect p x y cols rows d → raster n n (λ r c. get_or wide (0 + r * cols + c) 0) ≡ square n (image p) x y
unfolding square
corner_is p x y d {n} {cols} {rows} h k room e =
    raster_ext n n _ _
    (λ r c hr hc. ap (λ (l : List ℕ). get_or l (0 + r * cols + c) 0) e ∙ written_at d cols rows (λ r c. image p (x +ℤ pos c) (y +ℤ pos r)) r c (omega arith) (omega arith) room)

-- ---- the plain square
pub starts : {w : Width} {z : ℤ} {u d n size : ℕ} (h : Held w z u d) → Inside h.val n size → Lies z n size (nat_abs h.val)
starts h I = omega (int, h.is, nat_abs_is h.val, I.first, I.last)

module _ {p : Plane} {x y : ℤ} {n i j : ℕ} (F : Fits p) (X : Lies x n p.width i) (Y : Lies y n p.height j) where
  pub plain_held : (r : ℕ) → r < n → j * p.stride + i + r * p.stride + n ≤ length p.bytes
  plain_held r h = omega (arith, in_plane_lem F (j + r) (omega (arith, Y.room)), X.room)

  pub plain_is : raster n n (λ r c. get_or p.bytes (j * p.stride + i + r * p.stride + c) 0) ≡ square n (image p) x y
  unfolding square image
  plain_is =
      raster_ext n n _ _
      (λ r c hr hc.
      let ex : clamped (x +ℤ pos c) p.width ≡ i + c = ap (λ (z : ℤ). clamped (z +ℤ pos c) p.width) X.is ∙ omega (arith, X.room) in
      let ey : clamped (y +ℤ pos r) p.height ≡ j + r = ap (λ (z : ℤ). clamped (z +ℤ pos r) p.height) Y.is ∙ omega (arith, Y.room) in
      ap (λ (k : ℕ). get_or p.bytes k 0) (omega (arith, ex, ap (λ (k : ℕ). k * p.stride) ey)))

  -- THEOREM (near). Where all of the square lies inside, it is the window there, as a list.
  pub near_is : window_list n p.bytes (j * p.stride + i) p.stride ≡ square n (image p) x y
  unfolding window_list
  near_is = plain_is

-- ---- a rectangle of n by n samples put in place, by the square that they are
pub put-square : (out : List ℕ) (stride x y n : ℕ) (f : ℕ → ℕ → ℕ) {o l : List ℕ} → o ≡ written out stride x y n n f → raster n n f ≡ l → o ≡ put_at out stride x y n l
put-square out stride x y n f {l = l} e h =
    e
    ∙ written_ext out stride x y n n _ _
    (λ r c hr hc. sym (get_or-raster n n f r c hr hc) ∙ ap (λ (l : List ℕ). get_or l (r * n + c) 0) h ∙ ap (λ (i : ℕ). get_or l i 0) (omega arith))

pub square_size : (n : ℕ) (img : Image) (x y : ℤ) → length (square n img x y) ≡ n * n
unfolding square
square_size n img x y = length-raster n n _
