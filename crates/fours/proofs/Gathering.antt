-- A window gathered: copies of w of its columns, each a column further than the one before, in rows of s samples from column x on, `group` rows
-- apart. Assumes nothing.
use mathlib.Core.Path.{◌≡◌, refl, sym, ap, ap₂, ◌∙◌}
use mathlib.Core.Bool.{Bool, true, false, cond, ◌&&◌}
use mathlib.Core.List.{List}
use Prim.Native.Nat.{ℕ, ◌+◌, ◌-◌, ◌*◌, ◌<◌, ◌≤◌}
use native.Mathlib.Nat.{add-mul, mul_assoc}
use native.Mathlib.Omega.{arith}
use borrow.Author.Count.{below_more}
use lib.IntN.{ℤ}
use lib.ListN.{length, get_or}
use Rattle.rfc6386.specs.Raster.{within, written}
use Rattle.rfc6386.specs.Filter.{step}
use Rattle.rfc6386.specs.Picture.{six_at, step_at}
use Rattle.rfc6386.proofs.Laws.Raster.{row_fits, within-true, length-written}
use Rattle.rfc6386.proofs.Laws.Steps.{same_six}
use Rattle.steps.specs.Rows.{Room}
use Rattle.steps.proofs.Laws.Copying.{within-false, written_look}

-- where the copies lie in a list: n of them, of `rows` rows each
pub record Copies : Type 0 where
  pub s : ℕ
  pub x : ℕ
  pub w : ℕ
  pub rows : ℕ
  pub group : ℕ
  pub n : ℕ

pub record Fit (g : Copies) : Type 0 where
  pub some : 1 ≤ g.w
  pub across : g.x + g.w ≤ g.s
  pub down : g.rows ≤ g.group

-- those of one window, in rows of their own
abbrev pub alone_of : ℕ → ℕ → ℕ → ℕ → Copies
alone_of w rows group n = record { s = w; x = 0; w = w; rows = rows; group = group; n = n }

pub alone_fit : {w rows group n : ℕ} → 1 ≤ w → rows ≤ group → Fit (alone_of w rows group n)
alone_fit some down = record { some = some; across = omega arith; down = down }

-- k of them are there
pub record Gathered (g : Copies) (src : List ℕ) (at pitch : ℕ) (a : List ℕ) (k : ℕ) : Type 0 where
  pub size : length a ≡ g.n * g.group * g.s
  pub done : (j : ℕ) → j < k → (r c : ℕ) → r < g.rows → c < g.w
      → get_or a ((j * g.group + r) * g.s + (g.x + c)) 0 ≡ get_or src (at + r * pitch + (c + j)) 0

pub gathered_none : {g : Copies} {src : List ℕ} {at pitch : ℕ} {a : List ℕ} → length a ≡ g.n * g.group * g.s → Gathered g src at pitch a 0
gathered_none e = record { size = e; done = λ j h r c hr hc. absurd (omega arith) }

-- the room that the copy of a turn asks
pub gathered_room : {g : Copies} {src : List ℕ} {at pitch : ℕ} {a : List ℕ} {k : ℕ} → Gathered g src at pitch a k → Fit g → k < g.n
    → Room (length a) g.s g.x (k * g.group) g.w g.rows
gathered_room {g} {k = k} G F hk =
    record {
      some = F.some;
      across = F.across;
      down = λ r h.
          let q : k * g.group + r < g.n * g.group = omega (arith, row_fits k g.n g.group hk, F.down) in
          omega (arith, row_fits (k * g.group + r) (g.n * g.group) g.s q, G.size, F.across);
    }

-- a row of a copy lies in the list
row_in : {g : Copies} {src : List ℕ} {at pitch : ℕ} {a : List ℕ} {k : ℕ} → Gathered g src at pitch a k → Fit g → (j r m : ℕ) → j < g.n → r < g.rows → m < g.s
    → (j * g.group + r) * g.s + m < length a
row_in {g} G F j r m hj hr hm =
    let q : j * g.group + r < g.n * g.group = omega (arith, row_fits j g.n g.group hj, F.down) in
    omega (arith, row_fits (j * g.group + r) (g.n * g.group) g.s q, G.size)

-- one more copy
pub gathered_more : {g : Copies} {src : List ℕ} {at pitch : ℕ} {a a' : List ℕ} {k : ℕ} → Gathered g src at pitch a k → Fit g → k < g.n
    → a' ≡ written a g.s g.x (k * g.group) g.w g.rows (λ r c. get_or src (at + k + r * pitch + c) 0) → Gathered g src at pitch a' (k + 1)
gathered_more {g} {src} {at} {pitch} {a} {a'} {k} G F hk e =
    record {
      size = ap length e ∙ length-written a g.s g.x (k * g.group) g.w g.rows f ∙ G.size;
      done =
          below_more (λ j. (r c : ℕ) → r < g.rows → c < g.w → get_or a' ((j * g.group + r) * g.s + (g.x + c)) 0 ≡ get_or src (at + r * pitch + (c + j)) 0)
          k old new;
    }
  where
    f : ℕ → ℕ → ℕ
    f r c = get_or src (at + k + r * pitch + c) 0

    column : (c : ℕ) → c < g.w → within g.x g.w (g.x + c) ≡ true
    column c hc = within-true g.x g.w (g.x + c) (omega arith) (omega arith)

    old : (j : ℕ) → j < k → (r c : ℕ) → r < g.rows → c < g.w → get_or a' ((j * g.group + r) * g.s + (g.x + c)) 0 ≡ get_or src (at + r * pitch + (c + j)) 0
    old j hj r c hr hc =
        written_look a g.s g.x (k * g.group) g.w g.rows f e (j * g.group + r) (g.x + c) (omega (arith, F.across))
        (row_in G F j r (g.x + c) (omega arith) hr (omega (arith, F.across))) false true
        (within-false (k * g.group) g.rows (j * g.group + r) (λ h l. omega (arith, row_fits j k g.group hj, F.down)))
        (column c hc)
        ∙ G.done j hj r c hr hc

    new : (r c : ℕ) → r < g.rows → c < g.w → get_or a' ((k * g.group + r) * g.s + (g.x + c)) 0 ≡ get_or src (at + r * pitch + (c + k)) 0
    new r c hr hc =
        let er : k * g.group + r - k * g.group ≡ r = omega arith in
        written_look a g.s g.x (k * g.group) g.w g.rows f e (k * g.group + r) (g.x + c) (omega (arith, F.across))
        (row_in G F k r (g.x + c) hk hr (omega (arith, F.across))) true true
        (within-true (k * g.group) g.rows (k * g.group + r) (omega arith) (omega arith))
        (column c hc)
        ∙ ap (λ (q : ℕ). get_or src (at + k + q * pitch + (g.x + c - g.x)) 0) er
        ∙ ap (λ (q : ℕ). get_or src q 0) (omega arith)

-- the same, where the code has said its place otherwise
pub gathered_next : {g : Copies} {src : List ℕ} {at pitch : ℕ} {a a' : List ℕ} {k : ℕ} → Gathered g src at pitch a k → Fit g → k < g.n
    → (y from : ℕ) → y ≡ k * g.group → from ≡ at + k
    → a' ≡ written a g.s g.x y g.w g.rows (λ r c. get_or src (from + r * pitch + c) 0) → Gathered g src at pitch a' (k + 1)
gathered_next {g} {src} {at} {pitch} {a} G F hk y from ey ef e =
    gathered_more G F hk (e ∙ ap₂ (λ (y from : ℕ). written a g.s g.x y g.w g.rows (λ r c. get_or src (from + r * pitch + c) 0)) ey ef)

-- a rectangle in other columns leaves them
pub gathered_beside : {g : Copies} {src : List ℕ} {at pitch : ℕ} {a a' : List ℕ} {k : ℕ} → Gathered g src at pitch a k → Fit g → k ≤ g.n → (x' w' : ℕ)
    → ((m : ℕ) → g.x ≤ m → m < g.x + g.w → x' ≤ m → m < x' + w' → ⊥) → (y rows : ℕ) (f : ℕ → ℕ → ℕ)
    → a' ≡ written a g.s x' y w' rows f → Gathered g src at pitch a' k
gathered_beside {g} {src} {at} {pitch} {a} {a'} {k} G F hk x' w' apart y rows f e =
    record {
      size = ap length e ∙ length-written a g.s x' y w' rows f ∙ G.size;
      done = λ j hj r c hr hc.
          written_look a g.s x' y w' rows f e (j * g.group + r) (g.x + c) (omega (arith, F.across))
          (row_in G F j r (g.x + c) (omega arith) hr (omega (arith, F.across))) (within y rows (j * g.group + r)) false refl
          (within-false x' w' (g.x + c) (apart (g.x + c) (omega arith) (omega arith)))
          ∙ kept (within y rows (j * g.group + r)) _ _
          ∙ G.done j hj r c hr hc;
    }
  where
    kept : (b : Bool) (u v : ℕ) → cond (b && false) u v ≡ v
    kept true u v = refl
    kept false u v = refl

-- where copy j has row r, column c
pub gathered_at : {g : Copies} {src : List ℕ} {at pitch : ℕ} {a : List ℕ} {k : ℕ} → Gathered g src at pitch a k
    → (j r c p q : ℕ) → j < k → r < g.rows → c < g.w
    → p ≡ j * (g.group * g.s) + (r * g.s + (g.x + c)) → q ≡ at + r * pitch + (c + j) → get_or a p 0 ≡ get_or src q 0
gathered_at {g} {src} {at} {pitch} {a} G j r c p q hj hr hc ep eq =
    ap (λ (i : ℕ). get_or a i 0) (omega (arith, add-mul (j * g.group) r g.s, mul_assoc j g.group g.s))
    ∙ G.done j hj r c hr hc
    ∙ ap (λ (i : ℕ). get_or src i 0) (sym eq)

-- THEOREM. Six samples down six copies are six along the window, and so is a step over them.
pub gathered_six : {g : Copies} {src : List ℕ} {at pitch : ℕ} {a : List ℕ} {k : ℕ} → Gathered g src at pitch a k → 6 ≤ k
    → (r c i : ℕ) → r < g.rows → c < g.w → i ≡ r * g.s + (g.x + c) → six_at a i (g.group * g.s) ≡ six_at src (at + r * pitch + c) 1
gathered_six {g} G hk r c i hr hc ei =
    same_six
    (gathered_at G 0 r c _ _ (omega arith) hr hc (omega arith) (omega arith))
    (gathered_at G 1 r c _ _ (omega arith) hr hc (omega arith) (omega arith))
    (gathered_at G 2 r c _ _ (omega arith) hr hc (omega arith) (omega arith))
    (gathered_at G 3 r c _ _ (omega arith) hr hc (omega arith) (omega arith))
    (gathered_at G 4 r c _ _ (omega arith) hr hc (omega arith) (omega arith))
    (gathered_at G 5 r c _ _ (omega arith) hr hc (omega arith) (omega arith))

pub gathered-step : {g : Copies} {src : List ℕ} {at pitch : ℕ} {a : List ℕ} {k : ℕ} → Gathered g src at pitch a k → 6 ≤ k
    → (ts : List ℤ) (r c : ℕ) → r < g.rows → c < g.w → step_at ts a (r * g.s + (g.x + c)) (g.group * g.s) ≡ step_at ts src (at + r * pitch + c) 1
gathered-step G hk ts r c hr hc = ap (step ts) (gathered_six G hk r c _ hr hc refl)
