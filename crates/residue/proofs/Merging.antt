-- Demand 3, of the finished block: where a split macroblock's first Y coefficients are what Y2 gives for a whole one, all others are its own, and
-- neither call is refused, a vector inside -16384 .. 16383 given once and given sixteen times finish alike. Assumes nothing.
use Rattle.std.specs.Prelude.{◌≡◌, refl, Bool, true, false, cond, not, ◌&&◌, ◌||◌, List, ℕ, ◌+◌, ◌*◌, ◌/◌, ◌%◌, ◌<◌, eqb, length, ℤ, pos}
use Rattle.std.proofs.Common.{sym, ap, ◌∙◌, arith, eqb-true}
use Rattle.rfc6386.specs.Vector.{mergeable}
use Rattle.rfc6386.specs.declared.Lowering.{Lowering}
use Rattle.rfc6386.specs.Macroblock.{Reference, answered, whole, split}
use Rattle.rfc6386.specs.Telling.{sixteen}
use Rattle.rfc6386.proofs.Merging.{merge_inside}
use Rattle.rfc6386.proofs.Carried.{Place, lent_at}
use Rattle.rfc6386.proofs.Laws.Raster.{is-tab}
use Rattle.residue.specs.Transform.{at, inverse_wht}
use Rattle.residue.specs.Coefficients.{block, first_of_y, seeded_at, seeded, split_beyond, split_refusal}
use Rattle.residue.specs.Reconstruction.{finished_unless, whole_finished, split_finished}
use Rattle.residue.proofs.Refused.{first_cases, zero_late}
use Rattle.rfc6386.specs.declared.Mv.{Mv}
use Rattle.rfc6386.specs.declared.FilterSet.{FilterSet}
use Rattle.rfc6386.specs.Answer.{Prediction}

-- the coefficients s of a split macroblock are those c of a whole one, with what Y2 gives
pub record Alike (c s : List ℤ) : Type 0 where
  pub first : (b : ℕ) → b < 16 → at s (16 * b) ≡ at (inverse_wht (block c 0)) b
  pub rest : (i : ℕ) → i < 384 → first_of_y i ≡ false → at s i ≡ at c (16 + i)

-- then they are the seeded ones
pub alike-seeded : (c s : List ℤ) → length s ≡ 384 → Alike c s → s ≡ seeded c
unfolding seeded
alike-seeded c s e A =
    is-tab (pos 0) 384 (seeded_at c) s e (λ i h. first_cases i (λ b. first_of_y i ≡ b → at s i ≡ cond b (at (inverse_wht (block c 0)) (i / 16)) (at c (16 + i))) (one i) (λ q f. A.rest i h f) refl)
  where
    one : (i : ℕ) → i < 256 → i % 16 ≡ 0 → first_of_y i ≡ true → at s i ≡ at (inverse_wht (block c 0)) (i / 16)
    one i h k f = let e : i ≡ 16 * (i / 16) = omega arith in ap (at s) e ∙ A.first (i / 16) (omega arith)

-- an accepted list has the count that is due
pub split_count : (skip : Bool) (s : List ℤ) → split_refusal skip s ≡ 0 → length s ≡ 384
unfolding split_refusal
split_count skip s e = at (eqb (length s) 384) refl e
  where
    at : (b : Bool) → eqb (length s) 384 ≡ b → ◌≡◌ {A = ℕ} (cond (b && (skip || not (split_beyond s))) 0 11) 0 → length s ≡ 384
    at true t e = eqb-true (length s) 384 t
    at false t e = absurd (omega arith)

-- THEOREM. Over the definitions: on every picture, at every position.
pub finish_inside : (set : FilterSet) (low : Lowering) (ref : Reference) (col row : ℕ) (v : Mv) → mergeable v ≡ true → (skip : Bool) (c s : List ℤ) → Alike c s
    → (whole_finished skip c (whole set low ref col row v)).number ≡ 0 → (split_finished skip s (split set low ref col row (sixteen v))).number ≡ 0
    → whole_finished skip c (whole set low ref col row v) ≡ split_finished skip s (split set low ref col row (sixteen v))
unfolding whole_finished split_finished answered
finish_inside set low ref col row v e skip c s A m n =
    let p = merge_inside set low ref col row v e in
    let l = split_count skip s (zero_late (split set low ref col row (sixteen v)).number (split_refusal skip s) n) in
    let q = sym (alike-seeded c s l A) in
    λ i. answered ((m ∙ sym n) i) (finished_unless skip (q i) (p i).samples)

-- ---- of results
-- r is an answer of reconstruct_inter_mb, and of reconstruct_split_mv_mb
abbrev pub WholeGives : FilterSet → Lowering → Place → Mv → Bool → List ℤ → Prediction → Type 0
WholeGives set low p v skip c r = r ≡ whole_finished skip c (whole set low (lent_at p) p.col p.row v)

abbrev pub SplitGives : FilterSet → Lowering → Place → List Mv → Bool → List ℤ → Prediction → Type 0
SplitGives set low p vs skip s r = r ≡ split_finished skip s (split set low (lent_at p) p.col p.row vs)

-- THEOREM. Over the functions: two results that are accepted are the same.
pub finished_agree : (set : FilterSet) (low : Lowering) (v : Mv) → mergeable v ≡ true → (p : Place) (skip : Bool) (c s : List ℤ) → Alike c s → (r r' : Prediction)
    → WholeGives set low p v skip c r → SplitGives set low p (sixteen v) skip s r' → r.number ≡ 0 → r'.number ≡ 0 → r ≡ r'
finished_agree set low v e p skip c s A r r' a b m n =
    a
    ∙ finish_inside set low (lent_at p) p.col p.row v e skip c s A (sym (ap (λ (o : Prediction). o.number) a) ∙ m) (sym (ap (λ (o : Prediction). o.number) b) ∙ n)
    ∙ sym b
