-- A window that rolls down a first pass: one more row of it, and its ring one place further. Assumes nothing.
use mathlib.Core.Path.{◌≡◌, refl, sym, ap, ap₂, ◌∙◌}
use mathlib.Core.Bool.{cond}
use mathlib.Core.List.{List}
use Prim.Native.Nat.{ℕ, zero, ◌+◌, ◌-◌, ◌*◌, ◌<◌, ◌≤◌}
use native.Mathlib.Nat.{add-mul}
use native.Mathlib.Omega.{arith}
use borrow.Author.Count.{below_more}
use lib.IntN.{ℤ}
use lib.ListN.{length, get_or, replicate, length-replicate, get_or-replicate}
use Rattle.rfc6386.specs.Filter.{step}
use Rattle.rfc6386.proofs.Laws.Steps.{same_six}
use Rattle.steps.specs.Rows.{laid, laid_twice, Low}
use Rattle.steps.specs.Taps.{two_taps}
use Rattle.steps.specs.Window.{six_down, over, mix_at}
use Rattle.steps.specs.declared.taps.Taps.{Taps}
use Rattle.steps.proofs.Laws.Copying.{within_cases, get_or-laid, length-laid, laid_in, laid_out, laid_parts}
use Rattle.sixteens.specs.Rolling.{Rolled, below, turn, Rolling, At, ring_six, ring_step}
use Rattle.sixteens.specs.declared.ring.Ring.{Ring}

-- no rows yet
pub rolled_none : {place : ℕ → ℕ} {pass : ℕ → ℕ → ℕ} {r : ℕ} {m : List ℕ} → Rolled place pass r 0 m
rolled_none = record { row = λ i h. absurd (omega arith) }

-- one more, apart from those that stand
module _ {place : ℕ → ℕ} {pass : ℕ → ℕ → ℕ} {r n to : ℕ} {g : ℕ → ℕ} {m m' : List ℕ} where
  pub rolled_more : Rolled place pass r n m → to ≡ place n → ((i : ℕ) → i < n + 1 → place i + 16 ≤ length m)
      → ((i c : ℕ) → i < n → c < 16 → place n ≤ place i + c → place i + c < place n + 16 → ⊥) → m' ≡ laid m to 16 g
      → ((c : ℕ) → c < 16 → g c ≡ pass (r + n) c) → Rolled place pass r (n + 1) m'
  rolled_more R et fits apart e eg =
      record {
        row =
            below_more (λ i. (c : ℕ) → c < 16 → get_or m' (place i + c) 0 ≡ pass (r + i) c) n
            (λ i h c k. at (place i + c) ∙ laid_out m to 16 g (place i + c) (omega (arith, fits i (omega arith))) (λ a b. apart i c h k (omega arith) (omega arith)) ∙ R.row i h c k)
            (λ c k. at (place n + c) ∙ ap (λ (t : ℕ). get_or (laid m to 16 g) (t + c) 0) (sym et) ∙ laid_in m to 16 g c (omega (arith, fits n (omega arith))) k ∙ eg c k);
      }
    where
      at : (i : ℕ) → get_or m' i 0 ≡ get_or (laid m to 16 g) i 0
      at i = ap (λ (l : List ℕ). get_or l i 0) e

-- a row of bytes laid among bytes
pub low-laid : {m m' : List ℕ} (to n : ℕ) (g : ℕ → ℕ) → Low m → ((c : ℕ) → g c ≤ 255) → m' ≡ laid m to n g → Low m'
low-laid {m} {m'} to n g L h e =
    record {
      each = λ i l.
          let k : i < length m = omega (arith, ap length e, length-laid m to n g) in
          let f = ap (λ (l : List ℕ). get_or l i 0) e ∙ get_or-laid m to n g i k in
          omega (arith, f, within_cases to n i (λ b. cond b (g (i - to)) (get_or m i 0) ≤ 255) (λ a b. h (i - to)) (λ out. L.each i k));
    }

-- ---- rows below each other, in a list that has room for five
pub record Five (pass : ℕ → ℕ → ℕ) (r n : ℕ) (m : List ℕ) : Type 0 where
  pub size : length m ≡ 80
  pub rows : Rolled below pass r n m

five_first : {pass : ℕ → ℕ → ℕ} {r : ℕ} {m' : List ℕ} (m : List ℕ) (g : ℕ → ℕ) → length m ≡ 80 → m' ≡ laid m 0 16 g → ((c : ℕ) → c < 16 → g c ≡ pass r c) → Five pass r 1 m'
five_first {pass} {r} m g size e eg =
    record {
      size = ap length e ∙ length-laid m 0 16 g ∙ size;
      rows = rolled_more rolled_none refl (λ i k. omega arith) (λ i c k. absurd (omega arith)) e (λ c k. eg c k ∙ ap (λ (q : ℕ). pass q c) (omega arith));
    }

-- two more, laid in turn
five_more : {pass : ℕ → ℕ → ℕ} {r n to : ℕ} {m m' : List ℕ} (f g : ℕ → ℕ) → Five pass r n m → n < 4 → to ≡ n * 16 → m' ≡ laid_twice m to 16 16 f g
    → ((c : ℕ) → c < 16 → f c ≡ pass (r + n) c) → ((c : ℕ) → c < 16 → g c ≡ pass (r + (n + 1)) c) → Five pass r (n + 1 + 1) m'
five_more {to = to} {m} f g F h et e ef eg =
    record {
      size = ap length e ∙ length-laid (laid m to 16 f) (to + 16) 16 g ∙ length-laid m to 16 f ∙ F.size;
      rows =
          rolled_more (rolled_more F.rows et (λ i k. omega (arith, F.size)) (λ i c k l a b. omega arith) refl ef) (omega arith)
          (λ i k. omega (arith, F.size, length-laid m to 16 f)) (λ i c k l a b. omega arith) e eg;
    }

-- the fifth takes the place of the first
pub five-next : {pass : ℕ → ℕ → ℕ} {r : ℕ} {m m' : List ℕ} → Five pass r 5 m → m' ≡ laid m 0 16 (λ c. get_or m (64 + c) 0) → Five pass (r + 4) 1 m'
five-next {m = m} F e = five_first m (λ c. get_or m (64 + c) 0) F.size e (λ c k. F.rows.row 4 (omega arith) c k)

-- of two taps: two rows more, and the first
module _ (t : Taps) (src : List ℕ) (at pitch : ℕ) where
  mix_row : (i k : ℕ) → i ≡ at + k * pitch → (c : ℕ) → two_taps t (get_or src (i + c) 0) (get_or src (i + c + 1) 0) ≡ mix_at t src at pitch 1 k c
  mix_row i k e c = ap (λ (i : ℕ). two_taps t (get_or src (i + c) 0) (get_or src (i + c + 1) 0)) e

  pub mix_first : {m' : List ℕ} (m : List ℕ) → length m ≡ 80 → m' ≡ laid m 0 16 (λ c. two_taps t (get_or src (at + c) 0) (get_or src (at + c + 1) 0)) → Five (mix_at t src at pitch 1) 0 1 m'
  mix_first m size e = five_first m _ size e (λ c h. mix_row at 0 (omega arith) c)

  pub mix_more : {i r n to : ℕ} {m m' : List ℕ} → i ≡ at → Five (mix_at t src at pitch 1) r n m → n < 4 → to ≡ n * 16
      → m' ≡ laid_twice m to 16 16 (λ c. two_taps t (get_or src (i + (r + n) * pitch + c) 0) (get_or src (i + (r + n) * pitch + c + 1) 0)) (λ c. two_taps t (get_or src (i + (r + n) * pitch + pitch + c) 0) (get_or src (i + (r + n) * pitch + pitch + c + 1) 0))
      → Five (mix_at t src at pitch 1) r (n + 1 + 1) m'
  mix_more {i} {r} {n} ei F h et e =
      five_more _ _ F h et e
      (λ c k. mix_row (i + (r + n) * pitch) (r + n) (omega arith) c)
      (λ c k. mix_row (i + (r + n) * pitch + pitch) (r + (n + 1)) (omega (arith, add-mul (r + n) 1 pitch, ap (λ (k : ℕ). k * pitch) (next r n))) c)
    where
      next : (r n : ℕ) → r + (n + 1) ≡ r + n + 1
      next r n = omega arith

-- steps down five rows
pub five-step : {pass : ℕ → ℕ → ℕ} {r : ℕ} {m : List ℕ} (t : Taps) → Five pass r 5 m → (q c : ℕ) → q < 4 → c < 16
    → two_taps t (get_or m (0 + (q * 16 + c)) 0) (get_or m (0 + (q * 16 + c) + 16) 0) ≡ two_taps t (pass (r + q) c) (pass (r + q + 1) c)
five-step {pass} {r} {m} t F q c h k =
    let i : 0 + (q * 16 + c) ≡ q * 16 + c = omega arith in
    let j : 0 + (q * 16 + c) + 16 ≡ (q + 1) * 16 + c = omega arith in
    let l : r + (q + 1) ≡ r + q + 1 = omega arith in
    ap₂ (two_taps t)
    (ap (λ (i : ℕ). get_or m i 0) i ∙ F.rows.row q (omega arith) c k)
    (ap (λ (i : ℕ). get_or m i 0) j ∙ F.rows.row (q + 1) (omega arith) c k ∙ ap (λ (r : ℕ). pass r c) l)

-- ---- the ring
turn_apart : (r i n c : ℕ) → i < n → n < 6 → c < 16 → turn r n ≤ turn r i + c → turn r i + c < turn r n + 16 → ⊥
turn_apart r i n c h k l a b = omega arith

turn_fits : (r i : ℕ) → turn r i + 16 ≤ 96
turn_fits r i = omega arith

pub low_zeros : (n : ℕ) {m : List ℕ} → m ≡ replicate n 0 → Low m
low_zeros n e =
    record { each = λ i h. omega (arith, ap (λ (l : List ℕ). get_or l i 0) e, get_or-replicate n i zero 0 (omega (arith, ap length e, length-replicate n zero))) }

pub rolling_none : {pass : ℕ → ℕ → ℕ} {r : ℕ} {m : List ℕ} → length m ≡ 96 → Low m → Rolling pass r 0 m
rolling_none size low = record { size = size; low = low; rows = rolled_none }

-- one more row of it
pub rolling_more : {pass : ℕ → ℕ → ℕ} {r n k to : ℕ} {m m' : List ℕ} → Rolling pass r n m → n < 6 → ((q c : ℕ) → pass q c ≤ 255) → to ≡ turn r n → k ≡ r + n
    → m' ≡ laid m to 16 (pass k) → Rolling pass r (n + 1) m'
rolling_more {pass} {r} {n} {k} {to} {m} R h low et ek e =
    record {
      size = ap length e ∙ length-laid m to 16 (pass k) ∙ R.size;
      low = low-laid to 16 (pass k) R.low (low k) e;
      rows =
          rolled_more R.rows et (λ i l. omega (arith, turn_fits r i, R.size)) (λ i c l g a b. turn_apart r i n c l h g a b) e
          (λ c l. ap (λ (q : ℕ). pass q c) ek);
    }

-- the oldest row is done with
pub rolling_down : {pass : ℕ → ℕ → ℕ} {r : ℕ} {m : List ℕ} → Rolling pass r 6 m → Rolling pass (r + 1) 5 m
rolling_down {pass} {r} {m} R =
    record {
      size = R.size;
      low = R.low;
      rows =
          record {
            row = λ i h c k.
                let e : turn (r + 1) i + c ≡ turn r (i + 1) + c = omega arith in
                let f : r + (i + 1) ≡ r + 1 + i = omega arith in
                ap (λ (j : ℕ). get_or m j 0) e ∙ R.rows.row (i + 1) (omega arith) c k ∙ ap (λ (q : ℕ). pass q c) f;
          };
    }

pub ring_turned : {r : ℕ} {ring ring' : Ring} → At r ring
    → ring' ≡ record { a = ring.b; b = ring.c; c = ring.d; d = ring.e; e = ring.f; f = ring.a } → At (r + 1) ring'
ring_turned {r} A e =
    record {
      a = ap (λ (w : Ring). w.a) e ∙ A.b ∙ omega arith;
      b = ap (λ (w : Ring). w.b) e ∙ A.c ∙ omega arith;
      c = ap (λ (w : Ring). w.c) e ∙ A.d ∙ omega arith;
      d = ap (λ (w : Ring). w.d) e ∙ A.e ∙ omega arith;
      e = ap (λ (w : Ring). w.e) e ∙ A.f ∙ omega arith;
      f = ap (λ (w : Ring). w.f) e ∙ A.a ∙ omega arith;
    }

-- six samples down it are six down the pass
pub ring_six_lem : {pass : ℕ → ℕ → ℕ} {r : ℕ} {m : List ℕ} {ring : Ring} → At r ring → Rolling pass r 6 m → (c : ℕ) → c < 16 → ring_six m ring c ≡ six_down pass r c
ring_six_lem {pass} {r} {m} {ring} A R c h =
    same_six
    (at 0 ring.a A.a (omega arith) ∙ ap (λ (q : ℕ). pass q c) (omega arith))
    (at 1 ring.b A.b (omega arith))
    (at 2 ring.c A.c (omega arith))
    (at 3 ring.d A.d (omega arith))
    (at 4 ring.e A.e (omega arith))
    (at 5 ring.f A.f (omega arith))
  where
    at : (i p : ℕ) → p ≡ turn r i → i < 6 → get_or m (p + c) 0 ≡ pass (r + i) c
    at i p e k = ap (λ (p : ℕ). get_or m (p + c) 0) e ∙ R.rows.row i k c h

-- and a row of steps, laid by two halves, is a row
pub ring_row : {pass : ℕ → ℕ → ℕ} {r : ℕ} {m : List ℕ} {ring : Ring} (ts : List ℤ) → At r ring → Rolling pass r 6 m → (d : List ℕ) {d' : List ℕ} (to : ℕ) → to + 16 ≤ length d
    → d' ≡ laid_twice d to 8 8 (ring_step ts m ring) (λ c. ring_step ts m ring (8 + c)) → d' ≡ laid d to 16 (over ts pass r)
ring_row {pass} {r} {m} {ring} ts A R d to room e =
    e ∙ laid_parts d to 8 8 _ _ (over ts pass r) (omega arith)
    (λ c h. ap (step ts) (ring_six_lem A R c (omega arith))) (λ c h. ap (step ts) (ring_six_lem A R (8 + c) (omega arith)))
