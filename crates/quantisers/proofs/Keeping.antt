-- Coefficients that do for others: products kept in sixteen bits are refused where the products are, and give the same finished macroblock. Assumes
-- nothing.
use Rattle.std.specs.Prelude.{ℕ, zero, suc, ◌+◌, ◌/◌, ◌<◌, ◌≤◌, ◌≡◌, refl, Bool, true, ◌&&◌, ◌||◌, List, eqb, ltb, length, ℤ, pos, negsuc, nat_abs}
use Rattle.std.proofs.Common.{sym, ap, ◌∙◌, arith, ltb-true, ltb-false, lt-ltb, le-ltb}
use Rattle.std.proofs.Math.Bool.{false, cond, not}
use Rattle.std.proofs.Math.Seq.{ext_get_or}
use Rattle.rfc6386.specs.Raster.{tab}
use Rattle.rfc6386.specs.Refusal.{or_else, if_done}
use Rattle.rfc6386.specs.Macroblock.{answered}
use Rattle.rfc6386.specs.Answer.{no_samples, Prediction}
use Rattle.rfc6386.proofs.Laws.Raster.{is-tab, length-tab, get_or-tab}
use Rattle.rfc6386.proofs.Laws.Tests.{or-false}
use Rattle.residue.specs.Transform.{at, inverse_wht}
use Rattle.residue.specs.Coefficients.{block, first_of_y, seeded_at, seeded, finished, beyond, some, split_beyond, whole_beyond, residue_refusal, whole_refusal, split_refusal}
use Rattle.residue.specs.Reconstruction.{finished_unless, whole_finished, split_finished}
use Rattle.residue.proofs.Refused.{true-not-false, some_none, low_whole, low_split, zero_late, whole_accepted, split_accepted, counted_out, skipped}
use Rattle.quantisers.specs.Inner.{sixteen, Offered, WholeOffered, SplitOffered}
use Rattle.rfc6386.specs.declared.ReconstructedMb.{ReconstructedMb}

-- ---- one number
pub kept-beyond : (n : ℕ) → n < 32767 → (z : ℤ) → beyond n (sixteen z) ≡ beyond n z
kept-beyond n h z = at (ltb n (nat_abs z)) refl
  where
    larger : (z : ℤ) → n < nat_abs z → n < nat_abs (sixteen z)
    larger (pos a) k = omega arith
    larger (negsuc a) k = omega arith

    smaller : (z : ℤ) → nat_abs z ≤ n → nat_abs (sixteen z) ≤ n
    smaller (pos a) k = omega arith
    smaller (negsuc a) k = omega arith

    at : (b : Bool) → ltb n (nat_abs z) ≡ b → ltb n (nat_abs (sixteen z)) ≡ ltb n (nat_abs z)
    at true t = lt-ltb n (nat_abs (sixteen z)) (larger z (ltb-true n (nat_abs z) t)) ∙ sym t
    at false t = le-ltb n (nat_abs (sixteen z)) (smaller z (ltb-false n (nat_abs z) t)) ∙ sym t

pub kept_same : (z : ℤ) → nat_abs z ≤ 32767 → sixteen z ≡ z
kept_same (pos a) h = ap pos (omega arith)
kept_same (negsuc a) h = ap negsuc (omega arith)

-- ---- a list of them
pub record Kept (p c : List ℤ) : Type 0 where
  pub size : length c ≡ length p
  pub each : (i : ℕ) → at c i ≡ sixteen (at p i)

module _ {p c : List ℤ} (K : Kept p c) where
  tested_alike : (n : ℕ) → n < 32767 → (i : ℕ) → beyond n (at c i) ≡ beyond n (at p i)
  tested_alike n h i = ap (beyond n) (K.each i) ∙ kept-beyond n h (at p i)

  same_at : (i n : ℕ) → n < 32767 → beyond n (at p i) ≡ false → at c i ≡ at p i
  same_at i n h t = K.each i ∙ kept_same (at p i) (omega (arith, ltb-false n (nat_abs (at p i)) t))

  -- whole
  whole_alike : whole_beyond c ≡ whole_beyond p
  unfolding whole_beyond
  whole_alike =
      let y2 = tested_alike 16383 (omega arith) in
      let others = tested_alike 4095 (omega arith) in
      λ t. some 16 (λ i. y2 i t) || some 384 (λ i. not (first_of_y i) && others (16 + i) t)

  seeded_alike : whole_beyond p ≡ false → seeded c ≡ seeded p
  unfolding whole_beyond seeded block
  seeded_alike e =
      is-tab (pos 0) 384 (seeded_at p) (tab 384 (seeded_at c)) (length-tab 384 (seeded_at c))
      (λ i h. get_or-tab 384 (seeded_at c) i (pos 0) h ∙ one i h (first_of_y i) refl)
    where
      y2 : some 16 (λ i. beyond 16383 (at p i)) ≡ false
      y2 = (or-false (some 16 (λ i. beyond 16383 (at p i))) (some 384 (λ i. not (first_of_y i) && beyond 4095 (at p (16 + i)))) e).0

      others : some 384 (λ i. not (first_of_y i) && beyond 4095 (at p (16 + i))) ≡ false
      others = (or-false (some 16 (λ i. beyond 16383 (at p i))) (some 384 (λ i. not (first_of_y i) && beyond 4095 (at p (16 + i)))) e).1

      first_block : tab 16 (λ k. at c (0 + k)) ≡ tab 16 (λ k. at p (0 + k))
      first_block =
          is-tab (pos 0) 16 (λ k. at p (0 + k)) (tab 16 (λ k. at c (0 + k))) (length-tab 16 (λ k. at c (0 + k)))
          (λ k h. get_or-tab 16 (λ k. at c (0 + k)) k (pos 0) h ∙ same_at (0 + k) 16383 (omega arith) (some_none 16 (λ i. beyond 16383 (at p i)) y2 (0 + k) (omega arith)))

      one : (i : ℕ) → i < 384 → (b : Bool) → first_of_y i ≡ b
          → cond b (at (inverse_wht (tab 16 (λ k. at c (0 + k)))) (i / 16)) (at c (16 + i)) ≡ cond b (at (inverse_wht (tab 16 (λ k. at p (0 + k)))) (i / 16)) (at p (16 + i))
      one i h true f = ap (λ (l : List ℤ). at (inverse_wht l) (i / 16)) first_block
      one i h false f =
          same_at (16 + i) 4095 (omega arith)
          (sym (ap (λ (b : Bool). not b && beyond 4095 (at p (16 + i))) f) ∙ some_none 384 (λ i. not (first_of_y i) && beyond 4095 (at p (16 + i))) others i h)

  -- split
  split_alike : split_beyond c ≡ split_beyond p
  unfolding split_beyond
  split_alike = let all = tested_alike 4095 (omega arith) in λ t. some 384 (λ i. all i t)

  list_alike : length p ≡ 384 → split_beyond p ≡ false → c ≡ p
  unfolding split_beyond
  list_alike l e =
      ext_get_or (pos 0) c p K.size (λ i h. same_at i 4095 (omega arith) (some_none 384 (λ i. beyond 4095 (at p i)) e i (omega (arith, K.size))))

  -- either does for the products
  pub whole_offered : (skip : Bool) → WholeOffered skip p c
  unfolding whole_refusal
  whole_offered skip =
      record {
        refused_alike = λ t. cond (eqb (K.size t) 400 && (skip || not (whole_alike t))) 0 11;
        used_alike = λ s e. seeded_alike (low_whole p (whole_accepted p (ap (λ (b : Bool). whole_refusal b p) (sym s) ∙ e)).1);
      }

  pub split_offered : (skip : Bool) → SplitOffered skip p c
  unfolding split_refusal
  split_offered skip =
      record {
        refused_alike = λ t. cond (eqb (K.size t) 384 && (skip || not (split_alike t))) 0 11;
        used_alike = λ s e. let a = split_accepted p (ap (λ (b : Bool). split_refusal b p) (sym s) ∙ e) in list_alike a.0 (low_split p a.1);
      }

-- ---- where nothing is worked out: for another count, and with the skip flag
module _ (count : ℕ) (test : List ℤ → Bool) (used : List ℤ → List ℤ) (skip : Bool) (p c : List ℤ) where
  abbrev refusal : Bool → List ℤ → ℕ
  refusal s l = residue_refusal count s test l

  pub offered_none : (length p ≡ count → ⊥) → (length c ≡ count → ⊥) → Offered refusal used skip p c
  offered_none h k =
      record {
        refused_alike = sym (counted_out count skip test c k) ∙ counted_out count skip test p h;
        used_alike = λ s e. let f : ◌≡◌ {A = ℕ} 11 0 = counted_out count skip test p h ∙ e in absurd (omega arith);
      }

  pub offered-skipped : length p ≡ count → length c ≡ count → skip ≡ true → Offered refusal used skip p c
  offered-skipped h k t =
      record {
        refused_alike = sym (skipped count skip test c k t) ∙ skipped count skip test p h t;
        used_alike = λ s e. true-not-false skip t s;
      }

-- ---- the finished macroblock
-- where a list is not refused, what it adds
pub unless_alike : {refusal : Bool → List ℤ → ℕ} {used : List ℤ → List ℤ} (skip : Bool) {p c : List ℤ} → Offered refusal used skip p c → refusal skip p ≡ 0
    → (s : ReconstructedMb) → finished_unless skip (used c) s ≡ finished_unless skip (used p) s
unless_alike true O z s = refl
unless_alike false O z s = ap (λ (l : List ℤ). finished l s) (O.used_alike refl z)

if_alike : {A : Type 0} (m : ℕ) (o : A) {a b : A} → (m ≡ 0 → a ≡ b) → if_done m a o ≡ if_done m b o
unfolding if_done
if_alike zero o h = h refl
if_alike (suc m) o h = refl

answered_alike : {n m : ℕ} (s s' : ReconstructedMb) → n ≡ m → (m ≡ 0 → s ≡ s') → answered n s ≡ answered m s'
unfolding answered
answered_alike {n} {m} s s' e h = ap (λ (k : ℕ). answered k s) e ∙ (λ t. record { number = m; samples = if_alike m no_samples h t })

module _ {skip : Bool} {p c : List ℤ} (P : Prediction) where
  -- THEOREM. Coefficients that do for others finish as they do.
  pub whole_finishes_alike : WholeOffered skip p c → whole_finished skip c P ≡ whole_finished skip p P
  unfolding whole_finished
  whole_finishes_alike O =
      answered_alike (finished_unless skip (seeded c) P.samples) (finished_unless skip (seeded p) P.samples) (ap (or_else P.number) O.refused_alike)
      (λ z. unless_alike skip O (zero_late P.number (whole_refusal skip p) z) P.samples)

  pub split_finishes_alike : SplitOffered skip p c → split_finished skip c P ≡ split_finished skip p P
  unfolding split_finished
  split_finishes_alike O =
      answered_alike (finished_unless skip c P.samples) (finished_unless skip p P.samples) (ap (or_else P.number) O.refused_alike)
      (λ z. unless_alike skip O (zero_late P.number (split_refusal skip p) z) P.samples)
