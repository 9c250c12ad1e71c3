-- Copies, element by element: a loop that lays a row into a list, one sample a turn, and one that writes a rectangle, one row a turn. The
-- invariant of each is one record, with a law for no turn yet, one for a turn, and one for all turns. Assumes nothing.
use Rattle.std.specs.Prelude.{◌≡◌, refl, Bool, true, false, cond, ◌&&◌, List, ℕ, ◌+◌, ◌-◌, ◌*◌, ◌/◌, ◌%◌, ◌<◌, ◌≤◌, leb, ltb, length, get_or, set}
use Rattle.std.proofs.Common.{sym, ap, ap₂, ◌∙◌, subst, mod-lt, div-add-mod', le_antisymm, arith, below_more, ltb-true, ltb-false, leb-true, leb-false, length-set, get_or-set_same, get_or-set_other}
use Rattle.std.proofs.Math.Arith.{digits_div, digits_mod}
use Rattle.std.proofs.Math.ListN.{get_or-eq_default}
use Rattle.rfc6386.specs.Raster.{within, written}
use Rattle.rfc6386.proofs.Laws.Raster.{is-tab, length-tab, get_or-tab, within-true, row_fits, get_or-written}
use Rattle.steps.specs.Rows.{laid}

-- ---- one of n numbers from a on, and not
pub within_cases : (a n k : ℕ) (P : Bool → Type 0) → (a ≤ k → k < a + n → P true) → ((a ≤ k → k < a + n → ⊥) → P false) → P (within a n k)
within_cases a n k P one none = go (leb a k) (ltb k (a + n)) refl refl
  where
    go : (u v : Bool) → leb a k ≡ u → ltb k (a + n) ≡ v → P (u && v)
    go true true e f = one (leb-true a k e) (ltb-true k (a + n) f)
    go true false e f = none (λ h l. omega (arith, ltb-false k (a + n) f))
    go false v e f = none (λ h l. omega (arith, leb-false a k e))

pub within-false : (a n k : ℕ) → (a ≤ k → k < a + n → ⊥) → within a n k ≡ false
within-false a n k out = within_cases a n k (λ b. b ≡ false) (λ h l. absurd (out h l)) (λ out. refl)

within_same : (a n k a' n' k' : ℕ) → (a ≤ k → k < a + n → (a' ≤ k') × (k' < a' + n')) → (a' ≤ k' → k' < a' + n' → (a ≤ k) × (k < a + n))
    → within a n k ≡ within a' n' k'
within_same a n k a' n' k' to from =
    within_cases a n k (λ b. b ≡ within a' n' k')
    (λ h l. sym (within-true a' n' k' (to h l).0 (to h l).1))
    (λ out. sym (within-false a' n' k' (λ h l. out (from h l).0 (from h l).1)))

pub either : (a b : ℕ) {P : Type 0} → (a < b → P) → (b ≤ a → P) → P
either a b {P} less more = go (ltb a b) refl
  where
    go : (t : Bool) → ltb a b ≡ t → P
    go true e = less (ltb-true a b e)
    go false e = more (ltb-false a b e)

-- ---- a row
-- d is d₀ with f 0, .., f (c - 1) from `to` on
pub record Laying (d₀ : List ℕ) (to n : ℕ) (f : ℕ → ℕ) (d : List ℕ) (c : ℕ) : Type 0 where
  pub most : c ≤ n
  pub size : length d ≡ length d₀
  pub done : (k : ℕ) → k < c → get_or d (to + k) 0 ≡ f k
  pub rest : (i : ℕ) → (to ≤ i → i < to + c → ⊥) → get_or d i 0 ≡ get_or d₀ i 0

pub laying_none : {d₀ : List ℕ} {to n : ℕ} {f : ℕ → ℕ} → Laying d₀ to n f d₀ 0
laying_none = record { most = omega arith; size = refl; done = λ k h. absurd (omega arith); rest = λ i out. refl }

pub laying_more : {d₀ d : List ℕ} {to n c v : ℕ} {f : ℕ → ℕ} → Laying d₀ to n f d c → to + n ≤ length d₀ → c < n → v ≡ f c
    → Laying d₀ to n f (set d (to + c) v) (c + 1)
laying_more {d₀} {d} {to} {n} {c} {v} {f} L room h e =
    record {
      most = omega arith;
      size = length-set d (to + c) v ∙ L.size;
      done =
          below_more (λ k. get_or (set d (to + c) v) (to + k) 0 ≡ f k) c
          (λ k l. get_or-set_other d (to + c) (to + k) v 0 (λ q. omega arith) ∙ L.done k l)
          (get_or-set_same d (to + c) v 0 (omega (arith, L.size)) ∙ e);
      rest = λ i out. get_or-set_other d (to + c) i v 0 (λ q. out (omega arith) (omega arith)) ∙ L.rest i (λ a b. out a (omega arith));
    }

pub laying_all : {d₀ d : List ℕ} {to n c : ℕ} {f : ℕ → ℕ} → Laying d₀ to n f d c → n ≤ c → d ≡ laid d₀ to n f
unfolding laid
laying_all {d₀} {d} {to} {n} {c} {f} L h =
    is-tab 0 (length d₀) _ d L.size
    (λ i l.
    within_cases to n i (λ b. get_or d i 0 ≡ cond b (f (i - to)) (get_or d₀ i 0))
    (λ a b. let q : to + (i - to) ≡ i = omega arith in subst (λ (j : ℕ). get_or d j 0 ≡ f (i - to)) q (L.done (i - to) (omega arith)))
    (λ out. L.rest i (λ a b. out a (omega arith))))

-- all three, for a function's loop
pub ruleset laying = (laying_none, laying_more, laying_all)

pub get_or-laid : (d : List ℕ) (to n : ℕ) (f : ℕ → ℕ) (i : ℕ) → i < length d → get_or (laid d to n f) i 0 ≡ cond (within to n i) (f (i - to)) (get_or d i 0)
unfolding laid
get_or-laid d to n f i h = get_or-tab _ _ i 0 h

pub length-laid : (d : List ℕ) (to n : ℕ) (f : ℕ → ℕ) → length (laid d to n f) ≡ length d
unfolding laid
length-laid d to n f = length-tab _ _

-- an element of the row, and one beside it
pub laid_in : (d : List ℕ) (to n : ℕ) (f : ℕ → ℕ) (k : ℕ) → to + n ≤ length d → k < n → get_or (laid d to n f) (to + k) 0 ≡ f k
laid_in d to n f k room h =
    get_or-laid d to n f (to + k) (omega arith)
    ∙ ap (λ (b : Bool). cond b (f (to + k - to)) (get_or d (to + k) 0)) (within-true to n (to + k) (omega arith) (omega arith))
    ∙ ap f (omega arith)

pub laid_out : (d : List ℕ) (to n : ℕ) (f : ℕ → ℕ) (i : ℕ) → i < length d → (to ≤ i → i < to + n → ⊥) → get_or (laid d to n f) i 0 ≡ get_or d i 0
laid_out d to n f i h out =
    get_or-laid d to n f i h ∙ ap (λ (b : Bool). cond b (f (i - to)) (get_or d i 0)) (within-false to n i out)

-- two rows one behind the other are one
pub laid_parts : (d : List ℕ) (to a b : ℕ) (f g h : ℕ → ℕ) → to + a + b ≤ length d → ((i : ℕ) → i < a → f i ≡ h i) → ((i : ℕ) → i < b → g i ≡ h (a + i))
    → laid (laid d to a f) (to + a) b g ≡ laid d to (a + b) h
laid_parts d to a b f g h room ef eg = laying_all {c = a + b} whole (omega arith)
  where
    size : length (laid d to a f) ≡ length d
    size = length-laid d to a f

    first : (k : ℕ) → k < a → get_or (laid (laid d to a f) (to + a) b g) (to + k) 0 ≡ h k
    first k l = laid_out (laid d to a f) (to + a) b g (to + k) (omega (arith, size)) (λ p q. omega arith) ∙ laid_in d to a f k (omega arith) l ∙ ef k l

    second : (k : ℕ) → k < b → get_or (laid (laid d to a f) (to + a) b g) (to + a + k) 0 ≡ h (a + k)
    second k l = laid_in (laid d to a f) (to + a) b g k (omega (arith, size)) l ∙ eg k l

    whole : Laying d to (a + b) h (laid (laid d to a f) (to + a) b g) (a + b)
    whole =
        record {
          most = omega arith;
          size = length-laid (laid d to a f) (to + a) b g ∙ size;
          done = λ k l.
              either k a (first k)
              (λ m.
              let i : to + a + (k - a) ≡ to + k = omega arith in
              let j : a + (k - a) ≡ k = omega arith in
              ap (λ (n : ℕ). get_or (laid (laid d to a f) (to + a) b g) n 0) (sym i) ∙ second (k - a) (omega arith) ∙ ap h j);
          rest = λ i out.
              either i (length d)
              (λ l. laid_out (laid d to a f) (to + a) b g i (omega (arith, size)) (λ p q. out (omega arith) (omega arith)) ∙ laid_out d to a f i l (λ p q. out p (omega arith)))
              (λ l.
              get_or-eq_default (laid (laid d to a f) (to + a) b g) 0 (omega (arith, size, length-laid (laid d to a f) (to + a) b g))
              ∙ sym (get_or-eq_default d 0 (omega arith)));
        }

-- ---- rows
-- d is d₀ with r of the rows written
pub record Writing (d₀ : List ℕ) (stride x y w rows : ℕ) (f : ℕ → ℕ → ℕ) (d : List ℕ) (r : ℕ) : Type 0 where
  pub most : r ≤ rows
  pub size : length d ≡ length d₀
  pub done : (i : ℕ) → i < length d₀
      → get_or d i 0 ≡ cond (within y r (i / stride) && within x w (i % stride)) (f (i / stride - y) (i % stride - x)) (get_or d₀ i 0)

pub writing_none : {d₀ : List ℕ} {stride x y w rows : ℕ} {f : ℕ → ℕ → ℕ} → Writing d₀ stride x y w rows f d₀ 0
writing_none {d₀} {stride} {x} {y} {w} {rows} {f} =
    record {
      most = omega arith;
      size = refl;
      done = λ i h.
          ap (λ (b : Bool). cond (b && within x w (i % stride)) (f (i / stride - y) (i % stride - x)) (get_or d₀ i 0))
          (sym (within-false y 0 (i / stride) (λ a b. omega arith)));
    }

-- what stands at row q, column m, once row y + r is laid over the r rows before it
module _ (s x y w r q m e : ℕ) (f : ℕ → ℕ → ℕ) (across : x + w ≤ s) (h : 0 < w → m < s) where
  abbrev to : ℕ
  to = (y + r) * s + x

  abbrev Turned : Type 0
  Turned =
      cond (within to w (q * s + m)) (f r (q * s + m - to)) (cond (within y r q && within x w m) (f (q - y) (m - x)) e)
      ≡ cond (within y (r + 1) q && within x w m) (f (q - y) (m - x)) e

  here : q ≡ y + r → Turned
  here k =
      let k' : q * s ≡ (y + r) * s = ap (λ (n : ℕ). n * s) k in
      let b = within x w m in
      let a = f (q - y) (m - x) in
      ap (λ (t : Bool). cond t (f r (q * s + m - to)) (cond (within y r q && b) a e)) (within_same to w (q * s + m) x w m (λ g l. omega arith) (λ g l. omega arith))
      ∙ ap (λ (t : Bool). cond b (f r (q * s + m - to)) (cond (t && b) a e)) (within-false y r q (λ g l. omega arith))
      ∙ ap (λ (v : ℕ). cond b v e) (ap₂ f (omega arith) (omega arith))
      ∙ ap (λ (t : Bool). cond (t && b) a e) (sym (within-true y (r + 1) q (omega arith) (omega arith)))

  away : (q ≡ y + r → ⊥) → (to ≤ q * s + m → q * s + m < to + w → ⊥) → Turned
  away k out =
      let b = within x w m in
      let a = f (q - y) (m - x) in
      ap (λ (t : Bool). cond t (f r (q * s + m - to)) (cond (within y r q && b) a e)) (within-false to w (q * s + m) out)
      ∙ ap (λ (t : Bool). cond (t && b) a e) (within_same y r q y (r + 1) q (λ g l. omega arith) (λ g l. omega arith))

  turned : Turned
  turned =
      either q (y + r) (λ l. away (λ k. omega arith) (λ a b. omega (arith, row_fits q (y + r) s l, h (omega arith))))
      (λ g. either (y + r) q (λ l. away (λ k. omega arith) (λ a b. omega (arith, row_fits (y + r) q s l))) (λ l. here (omega arith)))

pub writing_more : {d₀ d d' : List ℕ} {stride x y w rows r : ℕ} {f : ℕ → ℕ → ℕ} → Writing d₀ stride x y w rows f d r → x + w ≤ stride → r < rows
    → d' ≡ laid d ((y + r) * stride + x) w (f r) → Writing d₀ stride x y w rows f d' (r + 1)
writing_more {d₀} {d} {d'} {stride} {x} {y} {w} {rows} {r} {f} W across h e =
    record {
      most = omega arith;
      size = ap length e ∙ length-laid d ((y + r) * stride + x) w (f r) ∙ W.size;
      done = λ i l.
          let to = (y + r) * stride + x in
          let a = f (i / stride - y) (i % stride - x) in
          let b = within x w (i % stride) in
          ap (λ (k : List ℕ). get_or k i 0) e
          ∙ get_or-laid d to w (f r) i (omega (arith, W.size))
          ∙ ap (cond (within to w i) (f r (i - to))) (W.done i l)
          ∙ ap (λ (k : ℕ). cond (within to w k) (f r (k - to)) (cond (within y r (i / stride) && b) a (get_or d₀ i 0))) (sym (div-add-mod' i stride))
          ∙ turned stride x y w r (i / stride) (i % stride) (get_or d₀ i 0) f across (λ p. mod-lt i (omega arith));
    }

pub writing_all : {d₀ d : List ℕ} {stride x y w rows r : ℕ} {f : ℕ → ℕ → ℕ} → Writing d₀ stride x y w rows f d r → rows ≤ r → d ≡ written d₀ stride x y w rows f
unfolding written
writing_all {d₀} {d} {stride} {x} {y} {w} {rows} {r} {f} W h =
    is-tab 0 (length d₀) _ d W.size
    (λ i l.
    W.done i l
    ∙ ap (λ (n : ℕ). cond (within y n (i / stride) && within x w (i % stride)) (f (i / stride - y) (i % stride - x)) (get_or d₀ i 0)) (le_antisymm W.most h))

-- ---- what stands at row q, column m, once a rectangle is written
pub written_look : (d : List ℕ) {d' : List ℕ} (s x y w rows : ℕ) (f : ℕ → ℕ → ℕ) → d' ≡ written d s x y w rows f → (q m : ℕ) → m < s → q * s + m < length d → (b c : Bool)
    → within y rows q ≡ b → within x w m ≡ c → get_or d' (q * s + m) 0 ≡ cond (b && c) (f (q - y) (m - x)) (get_or d (q * s + m) 0)
written_look d s x y w rows f e q m hm h b c eb ec =
    ap (λ (l : List ℕ). get_or l (q * s + m) 0) e
    ∙ get_or-written d s x y w rows f (q * s + m) h
    ∙ rw (digits_div q hm, digits_mod q hm, eb, ec) refl
