-- Strips, laid a row of each at a time, and what a line over them leaves. Assumes nothing.
use mathlib.Core.Path.{◌≡◌, refl, sym, ap, ap₂, ◌∙◌}
use mathlib.Core.List.{List}
use Prim.Native.Nat.{ℕ, zero, ◌+◌, ◌-◌, ◌*◌, ◌/◌, ◌%◌, ◌<◌, ◌≤◌}
use native.Mathlib.Nat.{mod-lt, div-add-mod'}
use native.Mathlib.Omega.{arith}
use borrow.Author.Count.{below_more}
use lib.ListN.{length, get_or, replicate, length-replicate, get_or-replicate, get_or-eq_default}
use lib.IntN.{ℤ}
use Rattle.rfc6386.specs.Filter.{step}
use Rattle.rfc6386.specs.Picture.{six_at, step_at}
use Rattle.rfc6386.specs.Sums.{sum_to}
use Rattle.rfc6386.specs.Clips.{step_clip, clip_at}
use Rattle.rfc6386.proofs.Laws.Sums.{sum_ext, sum_parts}
use Rattle.steps.specs.Rows.{laid, laid_twice, Low}
use Rattle.steps.specs.Tally.{part, strip_tally}
use Rattle.steps.specs.Window.{six_down, over, Strips}
use Rattle.steps.proofs.Laws.Copying.{either, laid_in, laid_out, laid_parts, length-laid}
use Rattle.steps.specs.Taps.{two_taps}
use Rattle.steps.specs.declared.taps.Taps.{Taps}
use Rattle.steps.proofs.Laws.Twofold.{twice-first, twice-second, twice_else, length_twice}
use Rattle.steps.proofs.Laws.Samples.{stacked_six}
use Rattle.steps.proofs.Laws.Tallies.{says_both}

pub strips_none : {n : ℕ} {f g : ℕ → ℕ → ℕ} {m : List ℕ} → m ≡ replicate n 0 → Strips n 0 f g m
strips_none {n} {m = m} e =
    record {
      size = count;
      left = λ r h. absurd (omega arith);
      right = λ r h. absurd (omega arith);
      rest = λ i h. zeros i;
    }
  where
    count : length m ≡ n
    count = ap length e ∙ length-replicate n zero

    zeros : (i : ℕ) → get_or m i 0 ≡ 0
    zeros i =
        either i n
        (λ h. ap (λ (l : List ℕ). get_or l i 0) e ∙ get_or-replicate n i zero 0 h)
        (λ h. get_or-eq_default m 0 (omega (arith, count)))

pub strips_more : {n q : ℕ} {f g : ℕ → ℕ → ℕ} {m m' : List ℕ} → Strips n q f g m → q * 16 + 16 ≤ n → m' ≡ laid_twice m (q * 16) 8 8 (f q) (g q)
    → Strips n (q + 1) f g m'
strips_more {n} {q} {f} {g} {m} {m'} S room e =
    record {
      size = ap length e ∙ length_twice m (q * 16) 8 8 (f q) (g q) (omega arith) fits ∙ S.size;
      left =
          below_more (λ r. (c : ℕ) → c < 8 → get_or m' (r * 16 + c) 0 ≡ f r c) q
          (λ r h c k. old (r * 16 + c) (omega (arith, S.size)) (λ a b. omega arith) (λ a b. omega arith) ∙ S.left r h c k)
          (λ c k. at (q * 16 + c) ∙ twice-first m (q * 16) 8 8 (f q) (g q) (omega arith) fits c k);
      right =
          below_more (λ r. (c : ℕ) → c < 8 → get_or m' (r * 16 + 8 + c) 0 ≡ g r c) q
          (λ r h c k. old (r * 16 + 8 + c) (omega (arith, S.size)) (λ a b. omega arith) (λ a b. omega arith) ∙ S.right r h c k)
          (λ c k. at (q * 16 + 8 + c) ∙ twice-second m (q * 16) 8 8 (f q) (g q) (omega arith) fits c k);
      rest = λ i h. else i h;
    }
  where
    fits : q * 16 + 8 + 8 ≤ length m
    fits = omega (arith, S.size)

    at : (i : ℕ) → get_or m' i 0 ≡ get_or (laid_twice m (q * 16) 8 8 (f q) (g q)) i 0
    at i = ap (λ (l : List ℕ). get_or l i 0) e

    old : (i : ℕ) → i < length m → (q * 16 ≤ i → i < q * 16 + 8 → ⊥) → (q * 16 + 8 ≤ i → i < q * 16 + 8 + 8 → ⊥) → get_or m' i 0 ≡ get_or m i 0
    old i h a b = at i ∙ twice_else m (q * 16) 8 8 (f q) (g q) (omega arith) fits i h a b

    else : (i : ℕ) → (q + 1) * 16 ≤ i → get_or m' i 0 ≡ 0
    else i h =
        either i (length m)
        (λ l. old i l (λ a b. omega arith) (λ a b. omega arith) ∙ S.rest i (omega arith))
        (λ l. get_or-eq_default m' 0 (omega (arith, ap length e, length_twice m (q * 16) 8 8 (f q) (g q) (omega arith) fits)))

-- all of them are bytes
pub strips_low : {n rows : ℕ} {f g : ℕ → ℕ → ℕ} {m : List ℕ} → Strips n rows f g m → ((r c : ℕ) → f r c ≤ 255) → ((r c : ℕ) → g r c ≤ 255) → Low m
strips_low {n} {rows} {f} {g} {m} S lf lg = record { each = λ i h. one i }
  where
    one : (i : ℕ) → get_or m i 0 ≤ 255
    one i =
        let r = i / 16 in
        let k = i % 16 in
        let e : r * 16 + k ≡ i = div-add-mod' i 16 in
        let l : k < 16 = mod-lt i (omega arith) in
        either r rows
        (λ h.
        either k 8
        (λ a. omega (arith, ap (λ (j : ℕ). get_or m j 0) e, S.left r h k a, lf r k))
        (λ a.
        let b : r * 16 + 8 + (k - 8) ≡ i = omega arith in
        omega (arith, ap (λ (j : ℕ). get_or m j 0) b, S.right r h (k - 8) (omega arith), lg r (k - 8))))
        (λ h. omega (arith, S.rest i (omega arith)))

-- a list laid from the front
pub strips-laid : {n rows : ℕ} {f g : ℕ → ℕ → ℕ} (h : ℕ → ℕ) {d o : List ℕ} → d ≡ replicate n 0 → o ≡ laid d 0 (rows * 16) h → rows * 16 ≤ n
    → ((r c : ℕ) → r < rows → c < 8 → h (r * 16 + c) ≡ f r c) → ((r c : ℕ) → r < rows → c < 8 → h (r * 16 + 8 + c) ≡ g r c) → Strips n rows f g o
strips-laid {n} {rows} {f} {g} h {d} {o} z e room left right =
    record {
      size = ap length e ∙ length-laid d 0 (rows * 16) h ∙ D.size;
      left = λ r hr c hc. in_front (r * 16 + c) (omega arith) ∙ left r c hr hc;
      right = λ r hr c hc. in_front (r * 16 + 8 + c) (omega arith) ∙ right r c hr hc;
      rest = λ i k.
          either i (length d)
          (λ l. ap (λ (q : List ℕ). get_or q i 0) e ∙ laid_out d 0 (rows * 16) h i l (λ a b. omega arith) ∙ D.rest i (omega arith))
          (λ l. get_or-eq_default o 0 (omega (arith, ap length e, length-laid d 0 (rows * 16) h)));
    }
  where
    D : Strips n 0 f g d
    D = strips_none z

    in_front : (i : ℕ) → i < rows * 16 → get_or o i 0 ≡ h i
    in_front i k =
        let q : 0 + i ≡ i = omega arith in
        ap (λ (l : List ℕ). get_or l i 0) e
        ∙ ap (λ (j : ℕ). get_or (laid d 0 (rows * 16) h) j 0) (sym q)
        ∙ laid_in d 0 (rows * 16) h i (omega (arith, D.size)) k

-- ---- a line of steps down strips
-- what it reads
module _ (rows : ℕ) {k : ℕ} {f g : ℕ → ℕ → ℕ} {m : List ℕ} (M : Strips k (rows + 5) f g m) where
  left_six : (r c i : ℕ) → r < rows → c < 8 → i ≡ r * 16 + c → six_at m i 16 ≡ six_down f r c
  left_six r c i hr hc e = stacked_six 16 0 8 rows f m (λ q c hq hc. ap (λ (i : ℕ). get_or m i 0) (omega arith) ∙ M.left q hq c hc) r c i hr hc (omega arith)

  right_six : (r c i : ℕ) → r < rows → c < 8 → i ≡ r * 16 + (8 + c) → six_at m i 16 ≡ six_down g r c
  right_six r c i hr hc e = stacked_six 16 8 8 rows g m (λ q c hq hc. ap (λ (i : ℕ). get_or m i 0) (omega arith) ∙ M.right q hq c hc) r c i hr hc e

  -- laid by two halves, one behind the other
  pub strips_down : {n : ℕ} (ts : List ℤ) (d o : List ℕ) {o' : List ℕ} → d ≡ replicate n 0 → rows * 16 ≤ n
      → o ≡ laid d 0 (rows * 8) (λ i. step_at ts m (0 + i) 16) → o' ≡ laid o (rows * 8) (rows * 8) (λ i. step_at ts m (rows * 8 + i) 16)
      → Strips n rows (over ts f) (over ts g) o'
  strips_down {n} ts d o {o'} z room e e' =
      strips-laid (λ i. step_at ts m i 16) z whole room
      (λ r c hr hc. ap (step ts) (left_six r c _ hr hc refl))
      (λ r c hr hc. ap (step ts) (right_six r c _ hr hc (omega arith)))
    where
      size : length d ≡ n
      size = ap length z ∙ length-replicate n zero

      half : 0 + rows * 8 ≡ rows * 8
      half = omega arith

      both : rows * 8 + rows * 8 ≡ rows * 16
      both = omega arith

      whole : o' ≡ laid d 0 (rows * 16) (λ i. step_at ts m i 16)
      whole =
          e'
          ∙ ap₂ (λ (o : List ℕ) (to : ℕ). laid o to (rows * 8) (λ i. step_at ts m (rows * 8 + i) 16)) e (sym half)
          ∙ laid_parts d 0 (rows * 8) (rows * 8) _ _ (λ i. step_at ts m i 16) (omega (arith, size)) (λ i h. ap (λ (i : ℕ). step_at ts m i 16) (omega arith)) (λ i h. refl)
          ∙ ap (λ (n : ℕ). laid d 0 n (λ i. step_at ts m i 16)) both

  -- and the tallies of the halves, together those of the strips
  pub strips_tally : (ts : List ℤ) {a b : ℕ} → a ≡ sum_to (rows * 8) (λ i. part (clip_at ts m (0 + i) 16)) → b ≡ sum_to (rows * 8) (λ i. part (clip_at ts m (rows * 8 + i) 16))
      → a + b ≡ strip_tally rows (λ r c. step_clip ts (six_down f r c)) + strip_tally rows (λ r c. step_clip ts (six_down g r c))
  strips_tally ts ea eb =
      ap₂ ◌+◌ (ea ∙ sum_ext (rows * 8) _ _ (λ i h. ap (λ (i : ℕ). part (clip_at ts m i 16)) (omega arith))) eb
      ∙ sym (sum_parts (rows * 8) (rows * 8) (λ i. part (clip_at ts m i 16)))
      ∙ ap (λ (n : ℕ). sum_to n (λ i. part (clip_at ts m i 16))) both
      ∙ says_both 8 rows (λ i. clip_at ts m i 16) _ _
      (λ r c hr hc. ap (step_clip ts) (left_six r c _ hr hc (omega arith)))
      (λ r c hr hc. ap (step_clip ts) (right_six r c _ hr hc refl))
    where
      both : rows * 8 + rows * 8 ≡ rows * (8 + 8)
      both = omega arith

-- and of steps of two taps
pub strips_mixed : {n k rows : ℕ} {f g : ℕ → ℕ → ℕ} {m d o : List ℕ} (t : Taps) → Strips k (rows + 1) f g m → d ≡ replicate n 0 → rows * 16 ≤ n
    → o ≡ laid d 0 (rows * 16) (λ i. two_taps t (get_or m (0 + i) 0) (get_or m (0 + i + 16) 0))
    → Strips n rows (λ r c. two_taps t (f r c) (f (r + 1) c)) (λ r c. two_taps t (g r c) (g (r + 1) c)) o
strips_mixed {rows = rows} {f} {g} {m} t M z room e =
    strips-laid _ z e room
    (λ r c hr hc. ap₂ (two_taps t) (at (omega arith) ∙ M.left r (omega arith) c hc) (at (omega arith) ∙ M.left (r + 1) (omega arith) c hc))
    (λ r c hr hc. ap₂ (two_taps t) (at (omega arith) ∙ M.right r (omega arith) c hc) (at (omega arith) ∙ M.right (r + 1) (omega arith) c hc))
  where
    at : {i j : ℕ} → i ≡ j → get_or m i 0 ≡ get_or m j 0
    at e = ap (λ (k : ℕ). get_or m k 0) e

-- by what its samples, and the count of its rows, are
pub strips_as : {n rows rows' : ℕ} {f g f' g' : ℕ → ℕ → ℕ} {l : List ℕ} → Strips n rows f g l → rows ≡ rows' → ((r c : ℕ) → f r c ≡ f' r c) → ((r c : ℕ) → g r c ≡ g' r c)
    → Strips n rows' f' g' l
strips_as {n} {rows} {rows'} {f} {g} {f'} {g'} {l} S e ef eg =
    record {
      size = S.size;
      left = λ r h c k. S.left r (omega arith) c k ∙ ef r c;
      right = λ r h c k. S.right r (omega arith) c k ∙ eg r c;
      rest = λ i h. S.rest i (omega arith);
    }
