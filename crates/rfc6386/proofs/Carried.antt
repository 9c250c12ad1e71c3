-- Demand 3, carried to the functions. A result is whatever a function's contract allows, on inputs of the types that the function takes; nothing
-- else is asked of it. Assumes nothing.
use Rattle.std.specs.Prelude.{◌≡◌, refl, ◌↔◌, Bool, true, false, cond, List, ℕ, ◌*◌, ◌/◌, ◌<◌, ◌≤◌, ◌^◌, length}
use Rattle.std.proofs.Common.{sym, ◌∙◌, arith, SFits}
use Rattle.std.proofs.Math.Path.{ap}
use Rattle.std.proofs.Math.ListN.{get_or}
use Rattle.std.proofs.lemmas.List.{length-replicate}
use Rattle.std.specs.Int.{w16}
use Rattle.rfc6386.specs.Vector.{lowering_of, inside, mergeable}
use Rattle.rfc6386.specs.declared.Lowering.{Lowering}
use Rattle.rfc6386.specs.Filter.{version_set}
use Rattle.rfc6386.specs.Macroblock.{Reference, lent, refusal, answered, whole, split}
use Rattle.rfc6386.specs.Version.{reserved_version, whole_by_version, split_by_version}
use Rattle.rfc6386.specs.Telling.{sixteen, only_u, upper_lower, left_right, telling, telling_sample}
use Rattle.rfc6386.proofs.Merging.{merge_inside, merge_outside}
use Rattle.rfc6386.proofs.Laws.Raster.{length-raster}
use Rattle.rfc6386.proofs.Laws.Blocks.{AllBytes}
use Rattle.rfc6386.proofs.Laws.Versions.{version_lowering, whole_meant, split_meant, whole_reserved, split_reserved}
use Rattle.rfc6386.proofs.Laws.Merging.{only-bytes}
use Rattle.rfc6386.specs.declared.Mv.{Mv}
use Rattle.rfc6386.specs.declared.FilterSet.{FilterSet}
use Rattle.rfc6386.specs.declared.Sizes.{Sizes}
use Rattle.rfc6386.specs.Answer.{Prediction}

-- ---- what a call on a macroblock is given besides vectors, table and flag
pub record Place : Type 0 where
  pub y : List ℕ
  pub u : List ℕ
  pub v : List ℕ
  pub sizes : Sizes
  pub col : ℕ
  pub row : ℕ

abbrev pub lent_at : Place → Reference
lent_at p = lent p.y p.u p.v p.sizes

-- a number of 64 bits
abbrev pub Word : ℕ → Type 0
Word n = n < 2 ^ 64

-- it has the types that the functions take: slices of bytes, and numbers of 64 bits
pub record OfTypes (p : Place) : Type 0 where
  pub bytes : AllBytes (lent_at p)
  pub y-length : Word (length p.y)
  pub u-length : Word (length p.u)
  pub v-length : Word (length p.v)
  pub y_stride : Word (lent_at p).y.stride
  pub u_stride : Word (lent_at p).u.stride
  pub v_stride : Word (lent_at p).v.stride
  pub cols : Word (lent_at p).cols
  pub rows : Word (lent_at p).rows
  pub col : Word p.col
  pub row : Word p.row

-- ---- what the contracts allow
-- r is an answer of predict_inter_mb under a table and a rule of full-pixel
abbrev pub WholeGives : FilterSet → Lowering → Place → Mv → Prediction → Type 0
WholeGives set low p v r = r ≡ whole set low (lent_at p) p.col p.row v

-- and of predict_split_mv, or predict_merging
abbrev pub SplitGives : FilterSet → Lowering → Place → List Mv → Prediction → Type 0
SplitGives set low p vs r = r ≡ split set low (lent_at p) p.col p.row vs

-- ---- the picture that tells them apart, as a call is lent it
abbrev pub first_of : Reference → Place
first_of ref =
    record {
      y = ref.y.bytes;
      u = ref.u.bytes;
      v = ref.v.bytes;
      sizes = record { mb_cols = 1; mb_rows = 1; y_stride = 16; u_stride = 8; v_stride = 8 };
      col = 0;
      row = 0;
    }

abbrev pub telling_place : Mv → Place
telling_place v = first_of (telling v)

by-inside : (P : Reference → Type 0) (v : Mv) → P upper_lower → P left_right → P (telling v)
by-inside P v p q = at (inside v.col)
  where
    at : (b : Bool) → P (cond b upper_lower left_right)
    at true = p
    at false = q

lent-telling : (v : Mv) → lent_at (telling_place v) ≡ telling v
lent-telling v = by-inside (λ ref. lent_at (first_of ref) ≡ ref) v refl refl

-- THEOREM. That picture and its place have the functions' types.
pub telling_typed : (v : Mv) → OfTypes (telling_place v)
telling_typed v = by-inside (λ ref. OfTypes (first_of ref)) v (only_typed (λ r c. r / 4 * 255) (λ r c hr hc. omega arith)) (only_typed (λ r c. c / 4 * 255) (λ r c hr hc. omega arith))
  where
    only_typed : (f : ℕ → ℕ → ℕ) → ((r c : ℕ) → r < 8 → c < 8 → f r c ≤ 255) → OfTypes (first_of (only_u f))
    only_typed f h =
        record {
          bytes = only-bytes f h;
          y-length = omega (arith, length-replicate {A = ℕ} 256 0);
          u-length = omega (arith, length-raster 8 8 f);
          v-length = omega (arith, length-replicate {A = ℕ} 64 0);
          y_stride = omega arith;
          u_stride = omega arith;
          v_stride = omega arith;
          cols = omega arith;
          rows = omega arith;
          col = omega arith;
          row = omega arith;
        }

-- ---- demand 3, of results
-- two accepted results that differ in U sample i
pub record Unlike (r s : Prediction) (i : ℕ) : Type 0 where
  pub first_accepted : r.number ≡ 0
  pub second_accepted : s.number ≡ 0
  pub in-u : i < 64
  pub differ : get_or r.samples.u i 0 ≡ get_or s.samples.u i 0 → ⊥

module _ (set : FilterSet) (low : Lowering) (v : Mv) where
  -- THEOREM (inside). On every picture, at every position, one result with the vector and one with it sixteen times are the same.
  pub results_agree : mergeable v ≡ true → (p : Place) (r s : Prediction) → WholeGives set low p v r → SplitGives set low p (sixteen v) s → r ≡ s
  results_agree e p r s a b = a ∙ merge_inside set low (lent_at p) p.col p.row v e ∙ sym b

  -- THEOREM (outside). On the picture `telling_place v` both are accepted, and U sample `telling_sample v` differs.
  pub results-differ : SFits w16 v.row → SFits w16 v.col → mergeable v ≡ false → (r s : Prediction)
      → WholeGives set low (telling_place v) v r → SplitGives set low (telling_place v) (sixteen v) s → Unlike r s (telling_sample v)
  unfolding whole split answered
  results-differ fr fc e r s a b =
      let D = merge_outside set low v fr fc e in
      let n : refusal (lent_at (telling_place v)) 0 0 ≡ 0 = ap (λ (ref : Reference). refusal ref 0 0) (lent-telling v) ∙ D.accepted in
      record {
        first_accepted = ap (λ (o : Prediction). o.number) a ∙ n;
        second_accepted = ap (λ (o : Prediction). o.number) b ∙ n;
        in-u = D.in-u;
        differ = λ same.
            D.differs
            (ap (λ (ref : Reference). get_or (whole set low ref 0 0 v).samples.u (telling_sample v) 0) (sym (lent-telling v))
            ∙ ap (λ (o : Prediction). get_or o.samples.u (telling_sample v) 0) (sym a)
            ∙ same
            ∙ ap (λ (o : Prediction). get_or o.samples.u (telling_sample v) 0) b
            ∙ ap (λ (ref : Reference). get_or (split set low ref 0 0 (sixteen v)).samples.u (telling_sample v) 0) (lent-telling v));
      }

  -- THEOREM (demand 3, of results). They are the same on every picture and position exactly where both components lie in -16384 .. 16383.
  pub results_agree_exactly : SFits w16 v.row → SFits w16 v.col
      → ((p : Place) → OfTypes p → (r s : Prediction) → WholeGives set low p v r → SplitGives set low p (sixteen v) s → r ≡ s) ↔ (mergeable v ≡ true)
  results_agree_exactly fr fc = (λ same. at same (mergeable v) refl, λ e p t. results_agree e p)
    where
      at : ((p : Place) → OfTypes p → (r s : Prediction) → WholeGives set low p v r → SplitGives set low p (sixteen v) s → r ≡ s)
          → (b : Bool) → mergeable v ≡ b → b ≡ true
      at same true e = refl
      at same false e =
          let p = telling_place v in
          let r = whole set low (lent_at p) p.col p.row v in
          let s = split set low (lent_at p) p.col p.row (sixteen v) in
          absurd ((results-differ fr fc e r s refl refl).differ (ap (λ (o : Prediction). get_or o.samples.u (telling_sample v) 0) (same p (telling_typed v) r s refl refl)))

-- on slices, with the flag
pub answers_agree_exactly : (set : FilterSet) (flag : Bool) (v : Mv) → SFits w16 v.row → SFits w16 v.col
    → ((p : Place) → OfTypes p → (r s : Prediction) → WholeGives set (lowering_of flag) p v r → SplitGives set (lowering_of flag) p (sixteen v) s → r ≡ s) ↔ (mergeable v ≡ true)
answers_agree_exactly set flag = results_agree_exactly set (lowering_of flag)

-- by version
abbrev pub WholeGivesByVersion : ℕ → Bool → Place → Mv → Prediction → Type 0
WholeGivesByVersion version standard p v r = r ≡ whole_by_version version standard (lent_at p) p.col p.row v

abbrev pub SplitGivesByVersion : ℕ → Bool → Place → List Mv → Prediction → Type 0
SplitGivesByVersion version standard p vs r = r ≡ split_by_version version standard (lent_at p) p.col p.row vs

pub answers_agree_exactly_by_version : (version : ℕ) → version ≤ 3 → (standard : Bool) (v : Mv) → SFits w16 v.row → SFits w16 v.col
    → ((p : Place) → OfTypes p → (r s : Prediction) → WholeGivesByVersion version standard p v r → SplitGivesByVersion version standard p (sixteen v) s → r ≡ s) ↔ (mergeable v ≡ true)
answers_agree_exactly_by_version version h standard v fr fc =
    let exactly = results_agree_exactly (version_set version) (version_lowering version standard) v fr fc in (
      λ same. exactly.0 (λ p t r s a b. same p t r s (a ∙ sym (as-whole p)) (b ∙ sym (as-split p))),
      λ e p t r s a b. exactly.1 e p t r s (a ∙ as-whole p) (b ∙ as-split p),
    )
  where
    as-whole : (p : Place) → whole_by_version version standard (lent_at p) p.col p.row v ≡ whole (version_set version) (version_lowering version standard) (lent_at p) p.col p.row v
    as-whole p = whole_meant version standard (lent_at p) p.col p.row h v

    as-split : (p : Place) → split_by_version version standard (lent_at p) p.col p.row (sixteen v) ≡ split (version_set version) (version_lowering version standard) (lent_at p) p.col p.row (sixteen v)
    as-split p = split_meant version standard (lent_at p) p.col p.row h (sixteen v)

-- results with a reserved version are alike: refused by 10
pub answers_refused_alike : (version : ℕ) → 3 < version → (standard : Bool) (p : Place) (v : Mv) (vs : List Mv) (r s : Prediction)
    → WholeGivesByVersion version standard p v r → SplitGivesByVersion version standard p vs s → (r ≡ reserved_version) × (s ≡ reserved_version)
answers_refused_alike version h standard p v vs r s a b =
    (a ∙ whole_reserved version standard (lent_at p) p.col p.row h v, b ∙ split_reserved version standard (lent_at p) p.col p.row h vs)
