-- Which coefficients are refused, said of each of them; and what an accepted list offers to the transforms. Assumes nothing.
use Rattle.std.specs.Prelude.{◌≡◌, ◌↔◌, refl, Bool, true, false, cond, ◌&&◌, ◌||◌, List, ℕ, zero, suc, ◌+◌, ◌-◌, ◌/◌, ◌%◌, ◌<◌, ◌≤◌, T, eqb, ltb, length, ℤ, pos}
use Rattle.std.proofs.Common.{sym, ap, ◌∙◌, arith, below_more}
use Rattle.std.proofs.Math.Path.{subst}
use Rattle.std.proofs.Math.Bool.{not}
use borrow.Author.Tests.{ltb-true, ltb-false, lt-ltb, le-ltb, eqb-true, eq-eqb}
use Rattle.std.proofs.Math.IntN.{nat_abs}
use Rattle.rfc6386.specs.Raster.{tab}
use Rattle.rfc6386.proofs.Laws.Raster.{length-tab, get_or-tab}
use Rattle.rfc6386.proofs.Laws.Tests.{or-false}
use Rattle.rfc6386.specs.Refusal.{or_else}
use Rattle.residue.specs.Transform.{at, inverse_wht}
use Rattle.residue.specs.Coefficients.{block, first_of_y, seeded_at, seeded, beyond, some, split_beyond, whole_beyond, residue_refusal, whole_refusal, split_refusal}
use Rattle.residue.specs.Inner.{Low, Open}

-- ---- tests
pub true-not-false : {P : Type 0} (b : Bool) → b ≡ true → b ≡ false → P
true-not-false b p q = absurd (subst T (sym p ∙ q) tt)

-- what is not true is false, and the other way round
pub by-false : (b : Bool) → (b ≡ true → ⊥) → b ≡ false
by-false true h = absurd (h refl)
by-false false h = refl

pub by-true : (b : Bool) → (b ≡ false → ⊥) → b ≡ true
by-true true h = refl
by-true false h = absurd (h refl)

-- a test is another where both are false at the same
pub same_test : (r t : Bool) {P : Type 0} → (r ≡ false) ↔ P → (t ≡ false → P) → (P → t ≡ false) → r ≡ t
same_test true t (there, here) f g = sym (by-true t (λ e. true-not-false true refl (here (f e))))
same_test false t (there, here) f g = sym (g (there refl))

pub or_none : (a b : Bool) → a ≡ false → b ≡ false → a || b ≡ false
or_none false b e f = f
or_none true b e f = true-not-false true refl e

-- p holds of no number below n
pub some_none : (n : ℕ) (p : ℕ → Bool) → some n p ≡ false → (i : ℕ) → i < n → p i ≡ false
unfolding some
some_none zero p e i h = absurd (omega arith)
some_none (suc n) p e i h =
    let both = or-false (p n) (some n p) e in
    below_more (λ i. p i ≡ false) n (some_none n p both.1) both.0 i (omega arith)

pub none-some : (n : ℕ) (p : ℕ → Bool) → ((i : ℕ) → i < n → p i ≡ false) → some n p ≡ false
unfolding some
none-some zero p h = refl
none-some (suc n) p h = or_none (p n) (some n p) (h n (omega arith)) (none-some n p (λ i l. h i (omega arith)))

-- ---- split
module _ (c : List ℤ) where
  pub split_low : split_beyond c ≡ false → Low c 0 384 4095
  unfolding split_beyond
  split_low e =
      record { low = λ k h. subst (λ (i : ℕ). nat_abs (at c i) ≤ 4095) (omega arith) (ltb-false 4095 (nat_abs (at c k)) (some_none 384 (λ i. beyond 4095 (at c i)) e k h)) }

  pub low_split : Low c 0 384 4095 → split_beyond c ≡ false
  unfolding split_beyond
  low_split l =
      none-some 384 (λ i. beyond 4095 (at c i))
      (λ k h. le-ltb 4095 (nat_abs (at c k)) (subst (λ (i : ℕ). nat_abs (at c i) ≤ 4095) (omega arith) (l.low k h)))

-- ---- whole
not_first : (i : ℕ) → (i < 256 → i % 16 ≡ 0 → ⊥) → first_of_y i ≡ false
not_first i h = at (ltb i 256) (eqb (i % 16) 0) refl refl
  where
    at : (a b : Bool) → ltb i 256 ≡ a → eqb (i % 16) 0 ≡ b → a && b ≡ false
    at true true p q = absurd (h (ltb-true i 256 p) (eqb-true (i % 16) 0 q))
    at true false p q = refl
    at false b p q = refl

pub is_first : (i : ℕ) → i < 256 → i % 16 ≡ 0 → first_of_y i ≡ true
is_first i h k = at (ltb i 256) (eqb (i % 16) 0) (lt-ltb i 256 h) (eq-eqb (i % 16) 0 k)
  where
    at : (a b : Bool) → a ≡ true → b ≡ true → a && b ≡ true
    at true true p q = refl
    at true false p q = q
    at false b p q = p

-- a first number of Y, or not
pub first_cases : (i : ℕ) (P : Bool → Type 0) → (i < 256 → i % 16 ≡ 0 → P true) → ((i < 256 → i % 16 ≡ 0 → ⊥) → P false) → P (first_of_y i)
first_cases i P one none = at (ltb i 256) (eqb (i % 16) 0) refl refl
  where
    at : (a b : Bool) → ltb i 256 ≡ a → eqb (i % 16) 0 ≡ b → P (a && b)
    at true true p q = one (ltb-true i 256 p) (eqb-true (i % 16) 0 q)
    at true false p q = none (λ h k. true-not-false (eqb (i % 16) 0) (eq-eqb (i % 16) 0 k) q)
    at false b p q = none (λ h k. true-not-false (ltb i 256) (lt-ltb i 256 h) p)

pub record Whole (c : List ℤ) : Type 0 where
  pub y2 : Low c 0 16 16383
  pub y : Open c 16 256
  pub chroma : Low c 272 128 4095

-- what is tested besides Y2
of_whole : {c : List ℤ} → Whole c → (k : ℕ) → k < 384 → (k < 256 → k % 16 ≡ 0 → ⊥) → nat_abs (at c (16 + k)) ≤ 4095
of_whole {c} w k h q = go (ltb k 256) refl
  where
    go : (b : Bool) → ltb k 256 ≡ b → nat_abs (at c (16 + k)) ≤ 4095
    go true t = w.y.low k (ltb-true k 256 t) (q (ltb-true k 256 t))
    go false t =
        let l = ltb-false k 256 t in
        let n : 272 + (k - 256) ≡ 16 + k = omega arith in
        subst (λ (i : ℕ). nat_abs (at c i) ≤ 4095) n (w.chroma.low (k - 256) (omega arith))

module _ (c : List ℤ) where
  abbrev tested : ℕ → Bool
  tested i = not (first_of_y i) && beyond 4095 (at c (16 + i))

  of_rest : (i : ℕ) → tested i ≡ false → (i < 256 → i % 16 ≡ 0 → ⊥) → nat_abs (at c (16 + i)) ≤ 4095
  of_rest i e h = ltb-false 4095 (nat_abs (at c (16 + i))) (subst (λ (b : Bool). not b && beyond 4095 (at c (16 + i)) ≡ false) (not_first i h) e)

  pub whole_low : whole_beyond c ≡ false → Whole c
  unfolding whole_beyond
  whole_low e =
      let b = or-false (some 16 (λ i. beyond 16383 (at c i))) (some 384 tested) e in
      record {
        y2 = record { low = λ k h. subst (λ (i : ℕ). nat_abs (at c i) ≤ 16383) (omega arith) (ltb-false 16383 (nat_abs (at c k)) (some_none 16 (λ i. beyond 16383 (at c i)) b.0 k h)) };
        y = record { low = λ k h q. of_rest k (some_none 384 tested b.1 k (omega arith)) (λ l m. q m) };
        chroma =
            record {
              low = λ k h.
                  subst (λ (i : ℕ). nat_abs (at c i) ≤ 4095) (omega arith) (of_rest (256 + k) (some_none 384 tested b.1 (256 + k) (omega arith)) (λ l m. omega arith));
            };
      }

  pub low_whole : Whole c → whole_beyond c ≡ false
  unfolding whole_beyond
  low_whole w =
      or_none _ _
      (none-some 16 (λ i. beyond 16383 (at c i)) (λ k h. le-ltb 16383 (nat_abs (at c k)) (subst (λ (i : ℕ). nat_abs (at c i) ≤ 16383) (omega arith) (w.y2.low k h))))
      (none-some 384 tested
      (λ k h.
      first_cases k (λ b. not b && beyond 4095 (at c (16 + k)) ≡ false) (λ l m. refl)
      (λ q. le-ltb 4095 (nat_abs (at c (16 + k))) (of_whole w k h q))))

-- what the transforms of the seeded list ask
pub length-seeded : (c : List ℤ) → length (seeded c) ≡ 384
unfolding seeded
length-seeded c = length-tab 384 (seeded_at c)

pub open-seeded : {c : List ℤ} → Whole c → Open (seeded c) 0 384
unfolding seeded
open-seeded {c} w =
    record {
      low = λ k h q.
          subst (λ (z : ℤ). nat_abs z ≤ 4095)
          (sym (ap (at (tab 384 (seeded_at c))) (omega arith) ∙ get_or-tab 384 (seeded_at c) k (pos 0) h ∙ ap (λ (b : Bool). cond b (at (inverse_wht (block c 0)) (k / 16)) (at c (16 + k))) (not_first k (λ l m. q m))))
          (of_whole w k h (λ l m. q m));
    }

pub whole_of_all : {c : List ℤ} → Low c 0 16 16383 → Low c 16 384 4095 → Whole c
whole_of_all {c} p q =
    record {
      y2 = p;
      y = record { low = λ k h l. q.low k (omega arith) };
      chroma = record { low = λ k h. subst (λ (i : ℕ). nat_abs (at c i) ≤ 4095) (omega arith) (q.low (256 + k) (omega arith)) };
    }

pub open_part : {c : List ℤ} {n m : ℕ} (i k : ℕ) → Open c n m → i % 16 ≡ 0 → i + k ≤ m → Open c (n + i) k
open_part {c} {n} {m} i k o h l =
    record { low = λ j p q. subst (λ (z : ℤ). nat_abs z ≤ 4095) (ap (at c) (omega arith)) (o.low (i + j) (omega arith) (λ e. q (omega arith))) }

pub open_low : {c : List ℤ} {n : ℕ} → Low c 0 n 4095 → Open c 0 n
open_low l = record { low = λ k h q. l.low k h }

-- ---- the later of two numbers
pub zero_late : (n m : ℕ) → or_else n m ≡ 0 → m ≡ 0
zero_late zero m e = e
zero_late (suc n) m e = absurd (omega arith)

-- ---- a list that is accepted, with the skip flag off
accepted : (count : ℕ) (test : List ℤ → Bool) (c : List ℤ) → residue_refusal count false test c ≡ 0 → (length c ≡ count) × (test c ≡ false)
accepted count test c e = at (eqb (length c) count) (test c) refl refl e
  where
    at : (a b : Bool) → eqb (length c) count ≡ a → test c ≡ b → ◌≡◌ {A = ℕ} (cond (a && (false || not b)) 0 11) 0 → (length c ≡ count) × (b ≡ false)
    at true false p q e = (eqb-true (length c) count p, refl)
    at true true p q e = absurd (omega arith)
    at false b p q e = absurd (omega arith)

pub whole_accepted : (c : List ℤ) → whole_refusal false c ≡ 0 → (length c ≡ 400) × Whole c
unfolding whole_refusal
whole_accepted c e = let a = accepted 400 whole_beyond c e in (a.0, whole_low c a.1)

pub split_accepted : (c : List ℤ) → split_refusal false c ≡ 0 → (length c ≡ 384) × Low c 0 384 4095
unfolding split_refusal
split_accepted c e = let a = accepted 384 split_beyond c e in (a.0, split_low c a.1)

-- number 11 as the code finds it: by the count, the flag, and the test
module _ (count : ℕ) (skip : Bool) (test : List ℤ → Bool) (c : List ℤ) where
  pub counted_out : (length c ≡ count → ⊥) → 11 ≡ residue_refusal count skip test c
  counted_out h = at (eqb (length c) count) (by-false (eqb (length c) count) (λ t. h (eqb-true (length c) count t)))
    where
      at : (a : Bool) → a ≡ false → ◌≡◌ {A = ℕ} 11 (cond (a && (skip || not (test c))) 0 11)
      at false e = refl
      at true e = true-not-false true refl e

  module _ (h : length c ≡ count) where
    at_count : (b : Bool) → skip || not (test c) ≡ b → cond b 0 11 ≡ residue_refusal count skip test c
    at_count b e = ap (λ (x : Bool). cond x 0 11) (sym e) ∙ at (eqb (length c) count) (eq-eqb (length c) count h)
      where
        at : (a : Bool) → a ≡ true → ◌≡◌ {A = ℕ} (cond (skip || not (test c)) 0 11) (cond (a && (skip || not (test c))) 0 11)
        at true e = refl
        at false e = true-not-false false e refl

    pub skipped : skip ≡ true → 0 ≡ residue_refusal count skip test c
    skipped e = at_count true (ap (λ (s : Bool). s || not (test c)) e)

    pub tried : skip ≡ false → (b : Bool) → test c ≡ b → cond b 11 0 ≡ residue_refusal count skip test c
    tried e true f = at_count false (λ i. e i || not (f i))
    tried e false f = at_count true (λ i. e i || not (f i))
