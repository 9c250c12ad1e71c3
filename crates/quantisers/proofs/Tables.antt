-- The rule of the two tables: 128 steps that start at 4, never fall and end at 157 (DC) or 284 (AC). It is computed once for each whole table, and a law
-- carries it to every index. Assumes nothing.
use Rattle.std.specs.Prelude.{ℕ, zero, suc, ◌<◌, ◌≤◌, ◌≡◌, refl, Bool, true, ◌&&◌, List, [], ◌∷◌, leb, length, get_or}
use Rattle.std.proofs.Common.{subst, le_refl, le_trans, arith, leb-true}
use Rattle.rfc6386.proofs.Laws.Tests.{and-true}
use Rattle.quantisers.specs.Factors.{dc_steps, ac_steps}

-- no number is below the one before it
abbrev pub never_falls : List ℕ → Bool
never_falls [] = true
never_falls (x ∷ []) = true
never_falls (x ∷ (y ∷ l)) = leb x y && never_falls (y ∷ l)

pub record Table (l : List ℕ) (last : ℕ) : Type 0 where
  pub count : length l ≡ 128
  pub starts : get_or l 0 0 ≡ 4
  pub never_falls_lem : never_falls l ≡ true
  pub ends : get_or l 127 0 ≡ last

-- ---- THEOREM. Each whole table, by computing.
pub dc_table : Table dc_steps 157
unfolding dc_steps
dc_table = record { count = refl; starts = refl; never_falls_lem = refl; ends = refl }

pub ac_table : Table ac_steps 284
unfolding ac_steps
ac_table = record { count = refl; starts = refl; never_falls_lem = refl; ends = refl }

-- ---- the law
next : (x : ℕ) (l : List ℕ) → never_falls (x ∷ l) ≡ true → never_falls l ≡ true
next x [] e = refl
next x (y ∷ l) e = (and-true (leb x y) (never_falls (y ∷ l)) e).1

first : (x : ℕ) (l : List ℕ) → never_falls (x ∷ l) ≡ true → (j : ℕ) → j < length (x ∷ l) → x ≤ get_or (x ∷ l) j 0
first x l e zero h = le_refl x
first x [] e (suc j) h = absurd (omega arith)
first x (y ∷ l) e (suc j) h =
    le_trans (leb-true x y (and-true (leb x y) (never_falls (y ∷ l)) e).0) (first y l (next x (y ∷ l) e) j (omega arith))

-- a place further on has no smaller number
pub rises : (l : List ℕ) → never_falls l ≡ true → (i j : ℕ) → i ≤ j → j < length l → get_or l i 0 ≤ get_or l j 0
rises [] e i j h k = absurd (omega arith)
rises (x ∷ l) e zero j h k = first x l e j k
rises (x ∷ l) e (suc i) zero h k = absurd (omega arith)
rises (x ∷ l) e (suc i) (suc j) h k = rises l (next x l e) i j (omega arith) (omega arith)

-- ---- at every index
module _ {l : List ℕ} {last : ℕ} (t : Table l last) where
  -- THEOREM.
  pub step_rises : (i j : ℕ) → i ≤ j → j < 128 → get_or l i 0 ≤ get_or l j 0
  step_rises i j h k = rises l t.never_falls_lem i j h (omega (arith, t.count))

  pub step_least : (i : ℕ) → i < 128 → 4 ≤ get_or l i 0
  step_least i h = subst (λ (n : ℕ). n ≤ get_or l i 0) t.starts (step_rises 0 i (omega arith) h)

  pub step_most : (i : ℕ) → i < 128 → get_or l i 0 ≤ last
  step_most i h = subst (λ (n : ℕ). get_or l i 0 ≤ n) t.ends (step_rises i 127 (omega arith) (omega arith))
