-- Rows of 16 samples, filled so many a turn, or two a turn that stand eight rows apart. Assumes nothing.
use mathlib.Core.Path.{◌≡◌, ap, ◌∙◌}
use mathlib.Core.List.{List}
use Prim.Native.Nat.{ℕ, ◌+◌, ◌-◌, ◌*◌, ◌/◌, ◌%◌, ◌<◌, ◌≤◌}
use native.Mathlib.Omega.{arith}
use borrow.Author.Count.{below_more}
use lib.ListN.{length, get_or}
use Rattle.rfc6386.specs.Raster.{raster}
use Rattle.rfc6386.proofs.Laws.Raster.{is-tab}
use Rattle.steps.specs.Rows.{laid, laid_twice}
use Rattle.steps.proofs.Laws.Copying.{either, length-laid, laid_in, laid_out}
use Rattle.steps.proofs.Laws.Twofold.{twice-first, twice-second, twice_else, length_twice}

-- ---- r rows from the first on
pub record Filled (n : ℕ) (f : ℕ → ℕ → ℕ) (m : List ℕ) (r : ℕ) : Type 0 where
  pub size : length m ≡ n
  pub done : (q : ℕ) → q < r → (c : ℕ) → c < 16 → get_or m (q * 16 + c) 0 ≡ f q c

pub filled_none : {n : ℕ} {f : ℕ → ℕ → ℕ} {m : List ℕ} → length m ≡ n → Filled n f m 0
filled_none e = record { size = e; done = λ q h. absurd (omega arith) }

-- k more
pub filled_more : {n r : ℕ} {f : ℕ → ℕ → ℕ} {m m' : List ℕ} (k : ℕ) (g : ℕ → ℕ) → Filled n f m r → r * 16 + k * 16 ≤ n → m' ≡ laid m (r * 16) (k * 16) g
    → ((q c : ℕ) → q < k → c < 16 → g (q * 16 + c) ≡ f (r + q) c) → Filled n f m' (r + k)
filled_more {n} {r} {f} {m} {m'} k g F room e eg =
    record {
      size = ap length e ∙ length-laid m (r * 16) (k * 16) g ∙ F.size;
      done = λ q h c l. either q r (old q c l) (λ s. new q c s h l);
    }
  where
    at : (i : ℕ) → get_or m' i 0 ≡ get_or (laid m (r * 16) (k * 16) g) i 0
    at i = ap (λ (l : List ℕ). get_or l i 0) e

    old : (q c : ℕ) → c < 16 → q < r → get_or m' (q * 16 + c) 0 ≡ f q c
    old q c l h = at (q * 16 + c) ∙ laid_out m (r * 16) (k * 16) g (q * 16 + c) (omega (arith, F.size)) (λ a b. omega arith) ∙ F.done q h c l

    new : (q c : ℕ) → r ≤ q → q < r + k → c < 16 → get_or m' (q * 16 + c) 0 ≡ f q c
    new q c s h l =
        let i : q * 16 + c ≡ r * 16 + ((q - r) * 16 + c) = omega arith in
        let j : r + (q - r) ≡ q = omega arith in
        ap (λ (i : ℕ). get_or m' i 0) i
        ∙ at (r * 16 + ((q - r) * 16 + c))
        ∙ laid_in m (r * 16) (k * 16) g ((q - r) * 16 + c) (omega (arith, F.size)) (omega arith)
        ∙ eg (q - r) c (omega arith) l
        ∙ ap (λ (q : ℕ). f q c) j

-- one more, of 16
pub filled_row : {r : ℕ} {f : ℕ → ℕ → ℕ} {m m' : List ℕ} → Filled 256 f m r → r < 16 → m' ≡ laid m (r * 16) 16 (f r) → Filled 256 f m' (r + 1)
filled_row {r} {f} F h e =
    filled_more 1 (f r) F (omega arith) e
    (λ q c k l. let i : q * 16 + c ≡ c = omega arith in let j : r ≡ r + q = omega arith in ap (f r) i ∙ ap (λ (r : ℕ). f r c) j)

pub filled-raster : {r : ℕ} {f : ℕ → ℕ → ℕ} {m : List ℕ} → Filled 256 f m r → 16 ≤ r → m ≡ raster 16 16 f
unfolding raster
filled-raster {f = f} {m} F e =
    is-tab 0 256 _ m F.size
    (λ i h.
    let j : i ≡ i / 16 * 16 + i % 16 = omega arith in
    ap (λ (i : ℕ). get_or m i 0) j ∙ F.done (i / 16) (omega arith) (i % 16) (omega arith))

-- ---- r rows from the first on, and r from the ninth on
pub record Halved (f : ℕ → ℕ → ℕ) (m : List ℕ) (r : ℕ) : Type 0 where
  pub size : length m ≡ 256
  pub upper : (q : ℕ) → q < r → (c : ℕ) → c < 16 → get_or m (q * 16 + c) 0 ≡ f q c
  pub lower : (q : ℕ) → q < r → (c : ℕ) → c < 16 → get_or m (q * 16 + 128 + c) 0 ≡ f (q + 8) c

pub halved_none : {f : ℕ → ℕ → ℕ} {m : List ℕ} → length m ≡ 256 → Halved f m 0
halved_none e = record { size = e; upper = λ q h. absurd (omega arith); lower = λ q h. absurd (omega arith) }

pub halved_more : {r : ℕ} {f : ℕ → ℕ → ℕ} {m m' : List ℕ} → Halved f m r → r < 8 → m' ≡ laid_twice m (r * 16) 128 16 (f r) (f (r + 8)) → Halved f m' (r + 1)
halved_more {r} {f} {m} {m'} H room e =
    record {
      size = ap length e ∙ length_twice m (r * 16) 128 16 (f r) (f (r + 8)) (omega arith) fits ∙ H.size;
      upper =
          below_more (λ q. (c : ℕ) → c < 16 → get_or m' (q * 16 + c) 0 ≡ f q c) r
          (λ q h c k. old (q * 16 + c) (omega (arith, H.size)) (λ a b. omega arith) (λ a b. omega arith) ∙ H.upper q h c k)
          (λ c k. at (r * 16 + c) ∙ twice-first m (r * 16) 128 16 (f r) (f (r + 8)) (omega arith) fits c k);
      lower =
          below_more (λ q. (c : ℕ) → c < 16 → get_or m' (q * 16 + 128 + c) 0 ≡ f (q + 8) c) r
          (λ q h c k. old (q * 16 + 128 + c) (omega (arith, H.size)) (λ a b. omega arith) (λ a b. omega arith) ∙ H.lower q h c k)
          (λ c k. at (r * 16 + 128 + c) ∙ twice-second m (r * 16) 128 16 (f r) (f (r + 8)) (omega arith) fits c k);
    }
  where
    fits : r * 16 + 128 + 16 ≤ length m
    fits = omega (arith, H.size)

    at : (i : ℕ) → get_or m' i 0 ≡ get_or (laid_twice m (r * 16) 128 16 (f r) (f (r + 8))) i 0
    at i = ap (λ (l : List ℕ). get_or l i 0) e

    old : (i : ℕ) → i < length m → (r * 16 ≤ i → i < r * 16 + 16 → ⊥) → (r * 16 + 128 ≤ i → i < r * 16 + 128 + 16 → ⊥) → get_or m' i 0 ≡ get_or m i 0
    old i h a b = at i ∙ twice_else m (r * 16) 128 16 (f r) (f (r + 8)) (omega arith) fits i h a b

-- eight turns, and all rows are there
pub halved-raster : {r : ℕ} {f : ℕ → ℕ → ℕ} {m : List ℕ} → Halved f m r → 8 ≤ r → m ≡ raster 16 16 f
halved-raster {r} {f} {m} H e =
    filled-raster {r = 8 + r}
    (record { size = H.size; done = λ q h c k. either q 8 (λ l. H.upper q (omega arith) c k) (lower q c h k) }) (omega arith)
  where
    lower : (q c : ℕ) → q < 8 + r → c < 16 → 8 ≤ q → get_or m (q * 16 + c) 0 ≡ f q c
    lower q c h k l =
        let j : q * 16 + c ≡ (q - 8) * 16 + 128 + c = omega arith in
        let g : q - 8 + 8 ≡ q = omega arith in
        ap (λ (i : ℕ). get_or m i 0) j ∙ H.lower (q - 8) (omega arith) c k ∙ ap (λ (q : ℕ). f q c) g
