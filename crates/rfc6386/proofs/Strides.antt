-- K1: each plane has its own stride, and tests 2 and 3 take it. Where U's and V's are equal, each call on a macroblock answers what it
-- answered while they had one. Assumes nothing.
use Rattle.std.specs.Prelude.{◌≡◌, Bool, true, false, ◌||◌, List, ℕ, ◌*◌, length}
use Rattle.std.proofs.Common.{sym, ◌∙◌}
use Rattle.std.proofs.Math.Path.{ap}
use Rattle.std.proofs.Math.Bool.{cond}
use Rattle.rfc6386.specs.declared.Lowering.{Lowering}
use Rattle.rfc6386.specs.Refusal.{bad_stride, too_few}
use Rattle.rfc6386.specs.Macroblock.{Reference, lent, size_test, place_test, refusal, whole, split, whole_pixel}
use Rattle.rfc6386.specs.declared.Mv.{Mv}
use Rattle.rfc6386.specs.declared.FilterSet.{FilterSet}
use Rattle.rfc6386.specs.declared.Sizes.{Sizes}

-- ---- tests 2 and 3, spelt out
module _ (y u v : List ℕ) (s : Sizes) where
  abbrev w16 : ℕ
  w16 = s.mb_cols * 16

  abbrev w8 : ℕ
  w8 = s.mb_cols * 8

  abbrev h16 : ℕ
  h16 = s.mb_rows * 16

  abbrev h8 : ℕ
  h8 = s.mb_rows * 8

  -- one of the three strides is at fault
  abbrev pub AStride : Bool
  AStride = bad_stride s.y_stride w16 || (bad_stride s.u_stride w8 || bad_stride s.v_stride w8)

  -- one of the three planes is short by its own stride
  abbrev pub ALength : Bool
  ALength = too_few (length y) s.y_stride w16 h16 || (too_few (length u) s.u_stride w8 h8 || too_few (length v) s.v_stride w8 h8)

  module _ (col row : ℕ) (sized : size_test (lent y u v s) ≡ false) where
    after_size : refusal (lent y u v s) col row ≡ cond AStride 2 (cond ALength 3 (cond (place_test (lent y u v s) col row) 4 0))
    unfolding refusal
    after_size = ap (λ (b : Bool). cond b 1 (cond AStride 2 (cond ALength 3 (cond (place_test (lent y u v s) col row) 4 0)))) sized

    -- THEOREM. In a picture of a good size number 2 is given where any of the three strides is at fault,
    pub any_stride : AStride ≡ true → refusal (lent y u v s) col row ≡ 2
    any_stride e = after_size ∙ ap (λ (b : Bool). cond b 2 (cond ALength 3 (cond (place_test (lent y u v s) col row) 4 0))) e

    -- and where none is, number 3 where any of the three planes is short by its own stride.
    pub any-length : AStride ≡ false → ALength ≡ true → refusal (lent y u v s) col row ≡ 3
    any-length e f =
        after_size
        ∙ ap (λ (b : Bool). cond b 2 (cond ALength 3 (cond (place_test (lent y u v s) col row) 4 0))) e
        ∙ ap (λ (b : Bool). cond b 3 (cond (place_test (lent y u v s) col row) 4 0)) f

-- ---- the definition as it stood
-- the sizes that a call took
pub record SizesOnce : Type 0 where
  pub y_stride : ℕ
  pub uv_stride : ℕ
  pub cols : ℕ
  pub rows : ℕ

-- and the reference that it was lent
abbrev pub lent_once : List ℕ → List ℕ → List ℕ → SizesOnce → Reference
lent_once y u v s =
    record {
      cols = s.cols;
      rows = s.rows;
      y = record { bytes = y; stride = s.y_stride };
      u = record { bytes = u; stride = s.uv_stride };
      v = record { bytes = v; stride = s.uv_stride };
    }

-- ---- such sizes, from those of today
abbrev pub once : Sizes → SizesOnce
once s = record { y_stride = s.y_stride; uv_stride = s.u_stride; cols = s.mb_cols; rows = s.mb_rows }

module _ (y u v : List ℕ) (s : Sizes) (equal : s.u_stride ≡ s.v_stride) where
  lent-once : lent y u v s ≡ lent_once y u v (once s)
  lent-once =
      λ i. record {
        cols = s.mb_cols;
        rows = s.mb_rows;
        y = record { bytes = y; stride = s.y_stride };
        u = record { bytes = u; stride = s.u_stride };
        v = record { bytes = v; stride = sym equal i };
      }

  -- THEOREM. Number and samples are as before: of whole prediction,
  pub whole-once : (set : FilterSet) (low : Lowering) (col row : ℕ) (mv : Mv)
      → whole set low (lent y u v s) col row mv ≡ whole set low (lent_once y u v (once s)) col row mv
  whole-once set low col row mv = ap (λ (ref : Reference). whole set low ref col row mv) lent-once

  -- of split prediction, and so of merging,
  pub split-once : (set : FilterSet) (low : Lowering) (col row : ℕ) (mvs : List Mv)
      → split set low (lent y u v s) col row mvs ≡ split set low (lent_once y u v (once s)) col row mvs
  split-once set low col row mvs = ap (λ (ref : Reference). split set low ref col row mvs) lent-once

  -- and of whole prediction at whole pixels.
  pub whole_pixel-once : (low : Lowering) (col row : ℕ) (mv : Mv) → whole_pixel low (lent y u v s) col row mv ≡ whole_pixel low (lent_once y u v (once s)) col row mv
  whole_pixel-once low col row mv = ap (λ (ref : Reference). whole_pixel low ref col row mv) lent-once
