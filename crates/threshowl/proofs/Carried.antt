-- Demand 3, carried to the C functions: the number and the 384 bytes that their contracts allow. Assumes nothing.
use mathlib.Core.Path.{◌≡◌, refl, sym, ap, ◌∙◌}
use mathlib.Core.Logic.{◌↔◌}
use mathlib.Core.Bool.{Bool, true, false, cond}
use mathlib.Core.List.{List, ◌++◌}
use Prim.Native.Nat.{ℕ, ◌+◌, ◌*◌, ◌<◌, ◌≤◌}
use native.Mathlib.Omega.{arith}
use lib.ListN.{length, get_or, replicate, get_or-append}
use lib.Seq.{get_or-append-add}
use borrow.Author.Tests.{le-ltb}
use mir.Syntax.{w16}
use mir.Val.{SFits}
use Rattle.rfc6386.specs.Vector.{lowering_of, luma_vector, chroma_vector, mergeable}
use Rattle.rfc6386.specs.declared.Lowering.{Lowering}
use Rattle.rfc6386.specs.Filter.{version_set}
use Rattle.rfc6386.specs.Picture.{image, block_by}
use Rattle.rfc6386.specs.Refusal.{or_else, if_done, count_refusal, code_refusal, room_refusal}
use Rattle.rfc6386.specs.Macroblock.{Reference, plane_y, plane_u, refusal, whole_samples, split_samples, answered, whole, split}
use Rattle.rfc6386.specs.Answer.{no_samples, Prediction}
use Rattle.rfc6386.specs.Version.{reserved_version, whole_by_version, split_by_version}
use Rattle.rfc6386.specs.Telling.{sixteen, telling_sample}
use Rattle.rfc6386.proofs.Carried.{Place, lent_at, OfTypes, telling_place, telling_typed, results_agree, results-differ}
use Rattle.rfc6386.proofs.Laws.Raster.{length-tab, length-raster}
use Rattle.rfc6386.proofs.Laws.Refusals.{done}
use Rattle.rfc6386.proofs.Laws.Blocks.{length-block}
use Rattle.rfc6386.proofs.Laws.Merging.{zeros-bytes}
use Rattle.rfc6386.proofs.Laws.Versions.{version_lowering, whole_meant, split_meant, whole_reserved, split_reserved}
use Rattle.vector_bytes.specs.Bytes.{vectors_of}
use Rattle.vector_bytes.specs.Spelled.{sixteen_spelled, spelled_is}
use Rattle.outputs.specs.Output.{flat, call_number, Left}
use Rattle.threshowl.specs.Boundary.{set_of, flag_of}
use Rattle.outputs.specs.Laws.{left_as, left-refused, one_outcome}
use Rattle.threshowl.proofs.Laws.{codes_as}
use Rattle.rfc6386.specs.declared.Mv.{Mv}
use Rattle.rfc6386.specs.declared.FilterSet.{FilterSet}
use Rattle.rfc6386.specs.declared.ReconstructedMb.{ReconstructedMb}

-- ---- what the contracts allow: the number r and the final bytes out' of an output that held out, where the codes besides the vectors get
-- the number `codes`
-- of a whole prediction
abbrev WholeOf : FilterSet → Lowering → ℕ → Place → Mv → List ℕ → ℕ → List ℕ → Type 0
WholeOf set low codes p v out r out' = Left (whole set low (lent_at p) p.col p.row v) codes out r out'

-- and of a split one
abbrev SplitOf : FilterSet → Lowering → ℕ → Place → List ℕ → List ℕ → ℕ → List ℕ → Type 0
SplitOf set low codes p vectors out r out' = Left (split set low (lent_at p) p.col p.row (vectors_of vectors)) (or_else codes (count_refusal 64 (length vectors))) out r out'

-- of threshowl_predict_whole
abbrev pub WholeLeaves : ℕ → ℕ → Place → Mv → List ℕ → ℕ → List ℕ → Type 0
WholeLeaves filter flag = WholeOf (set_of filter) (lowering_of (flag_of flag)) (code_refusal filter)

-- of threshowl_predict_split, or threshowl_predict_merging
abbrev pub SplitLeaves : ℕ → ℕ → Place → List ℕ → List ℕ → ℕ → List ℕ → Type 0
SplitLeaves filter flag = SplitOf (set_of filter) (lowering_of (flag_of flag)) (code_refusal filter)

-- of threshowl_predict_whole_by_version and threshowl_predict_split_by_version
abbrev pub WholeLeavesByVersion : ℕ → ℕ → Place → Mv → List ℕ → ℕ → List ℕ → Type 0
WholeLeavesByVersion version standard p v out r out' = Left (whole_by_version version (flag_of standard) (lent_at p) p.col p.row v) 0 out r out'

abbrev pub SplitLeavesByVersion : ℕ → ℕ → Place → List ℕ → List ℕ → ℕ → List ℕ → Type 0
SplitLeavesByVersion version standard p vectors out r out' =
    Left (split_by_version version (flag_of standard) (lent_at p) p.col p.row (vectors_of vectors)) (count_refusal 64 (length vectors)) out r out'

-- ---- demand 3
-- two calls that are done, and differ in byte i of 384
pub record Unlike (r s : ℕ) (a b : List ℕ) (i : ℕ) : Type 0 where
  pub first_done : r ≡ 0
  pub second-done : s ≡ 0
  pub inside : i < 384
  pub differ : get_or a i 0 ≡ get_or b i 0 → ⊥

-- a call's number and bytes where nothing refuses it
module _ (p : Prediction) (codes : ℕ) (out : List ℕ) (r : ℕ) (out' : List ℕ) (e : p.number ≡ 0) (c : codes ≡ 0) (room : length out ≡ 384) (L : Left p codes out r out') where
  none : call_number p codes out ≡ 0
  none = (λ i. or_else (e i) (or_else (c i) (room_refusal (room i))))

  number_zero : r ≡ 0
  number_zero = L.number_is ∙ none

  u_byte : (i : ℕ) → length p.samples.y ≡ 256 → i < length p.samples.u → get_or out' (256 + i) 0 ≡ get_or p.samples.u i 0
  u_byte i h k =
      let s = p.samples in
      ap (λ (l : List ℕ). get_or l (256 + i) 0) (L.bytes_are ∙ done (flat s) out none)
      ∙ ap (λ (n : ℕ). get_or (flat s) (n + i) 0) (sym h)
      ∙ get_or-append-add s.y (s.u ++ s.v) i 0
      ∙ get_or-append s.u s.v 0 i k

-- what the definition itself leaves
leaves : (p : Prediction) (codes : ℕ) (out : List ℕ) → Left p codes out (call_number p codes out) (if_done (call_number p codes out) (flat p.samples) out)
leaves p codes out = record { number_is = refl; bytes_are = refl }

-- the samples of an accepted prediction: 256 of Y before 64 of U
record Counted (p : Prediction) : Type 0 where
  y : length p.samples.y ≡ 256
  u : length p.samples.u ≡ 64

counted : (n : ℕ) (s : ReconstructedMb) → n ≡ 0 → length s.y ≡ 256 → length s.u ≡ 64 → Counted (answered n s)
unfolding answered
counted n s e h k =
    let d = done s no_samples e in
    record { y = ap (λ (m : ReconstructedMb). length m.y) d ∙ h; u = ap (λ (m : ReconstructedMb). length m.u) d ∙ k }

module _ (set : FilterSet) (low : Lowering) (ref : Reference) (col row : ℕ) where
  whole_counted : (v : Mv) → (whole set low ref col row v).number ≡ 0 → Counted (whole set low ref col row v)
  unfolding whole answered whole_samples
  whole_counted v e =
      counted (refusal ref col row) (whole_samples set low ref col row v) e
      (length-block 16 set (image (plane_y ref)) (col * 16) (row * 16) (luma_vector low v)) (length-block 8 set (image (plane_u ref)) (col * 8) (row * 8) (chroma_vector low v))

  split_counted : (vs : List Mv) → (split set low ref col row vs).number ≡ 0 → Counted (split set low ref col row vs)
  unfolding split answered split_samples block_by
  split_counted vs e = counted (refusal ref col row) (split_samples set low ref col row vs) e (length-raster 16 16 _) (length-raster 8 8 _)

module _ (set : FilterSet) (low : Lowering) (codes : ℕ) (v : Mv) (fr : SFits w16 v.row) (fc : SFits w16 v.col) where
  -- split's contract for the 64 bytes is its contract for the vector sixteen times
  spelled_out : (p : Place) (out : List ℕ) (r : ℕ) (out' : List ℕ) → SplitOf set low codes p (sixteen_spelled v) out r out'
      → Left (split set low (lent_at p) p.col p.row (sixteen v)) codes out r out'
  spelled_out p out r out' L =
      left_as (ap (split set low (lent_at p) p.col p.row) (spelled_is v fr fc))
      (sym (codes_as codes (length (sixteen_spelled v)) (length-tab 64 _))) L

  -- THEOREM (inside). One call with the vector and one with its bytes sixteen times leave the same number and the same bytes, whatever they are
  -- lent, refused or not.
  pub outputs_agree : mergeable v ≡ true → (p : Place) (out : List ℕ) (r s : ℕ) (a b : List ℕ)
      → WholeOf set low codes p v out r a → SplitOf set low codes p (sixteen_spelled v) out s b → (r ≡ s) × (a ≡ b)
  outputs_agree e p out r s a b L M =
      one_outcome (left_as (results_agree set low v e p _ _ refl refl) refl L) (spelled_out p out s b M)

  -- THEOREM (outside). For each other vector, with codes that are not refused and an output of 384 bytes, both calls are done on
  -- `telling_place v`, and differ in byte 256 + `telling_sample v`: that sample of U.
  pub outputs-differ : mergeable v ≡ false → codes ≡ 0 → (out : List ℕ) → length out ≡ 384 → (r s : ℕ) (a b : List ℕ)
      → WholeOf set low codes (telling_place v) v out r a → SplitOf set low codes (telling_place v) (sixteen_spelled v) out s b
      → Unlike r s a b (256 + telling_sample v)
  outputs-differ e c out room r s a b L M =
      let p = telling_place v in
      let w = whole set low (lent_at p) 0 0 v in
      let t = split set low (lent_at p) 0 0 (sixteen v) in
      let D = results-differ set low v fr fc e w t refl refl in
      let N = spelled_out p out s b M in
      let W = whole_counted set low (lent_at p) 0 0 v D.first_accepted in
      let S = split_counted set low (lent_at p) 0 0 (sixteen v) D.second_accepted in
      let i = telling_sample v in
      record {
        first_done = number_zero w codes out r a D.first_accepted c room L;
        second-done = number_zero t codes out s b D.second_accepted c room N;
        inside = omega (arith, D.in-u);
        differ = λ same.
            D.differ
            (sym (u_byte w codes out r a D.first_accepted c room L i W.y (omega (arith, D.in-u, W.u)))
            ∙ same
            ∙ u_byte t codes out s b D.second_accepted c room N i S.y (omega (arith, D.in-u, S.u)));
      }

  -- THEOREM (demand 3, of the C functions). They leave the same on every picture and position, and in every output, exactly where both
  -- components lie in -16384 .. 16383.
  pub outputs_agree_exactly : codes ≡ 0
      → ((p : Place) → OfTypes p → (out : List ℕ) → ((i : ℕ) → get_or out i 0 ≤ 255) → (r s : ℕ) (a b : List ℕ)
      → WholeOf set low codes p v out r a → SplitOf set low codes p (sixteen_spelled v) out s b → (r ≡ s) × (a ≡ b))
      ↔ (mergeable v ≡ true)
  outputs_agree_exactly c = (λ same. at same (mergeable v) refl, λ e p t out h. outputs_agree e p out)
    where
      at : ((p : Place) → OfTypes p → (out : List ℕ) → ((i : ℕ) → get_or out i 0 ≤ 255) → (r s : ℕ) (a b : List ℕ)
          → WholeOf set low codes p v out r a → SplitOf set low codes p (sixteen_spelled v) out s b → (r ≡ s) × (a ≡ b))
          → (x : Bool) → mergeable v ≡ x → x ≡ true
      at same true e = refl
      at same false e =
          let p = telling_place v in
          let out : List ℕ = replicate 384 0 in
          let w = whole set low (lent_at p) p.col p.row v in
          let t = split set low (lent_at p) p.col p.row (vectors_of (sixteen_spelled v)) in
          let L = leaves w codes out in
          let M = leaves t (or_else codes (count_refusal 64 (length (sixteen_spelled v)))) out in
          absurd
          ((outputs-differ e c out refl _ _ _ _ L M).differ
          (ap (λ (l : List ℕ). get_or l (256 + telling_sample v) 0) (same p (telling_typed v) out (zeros-bytes 384) _ _ _ _ L M).1))

-- of the calls with a filter code and a flag
pub codes_agree_exactly : (filter flag : ℕ) (v : Mv) → SFits w16 v.row → SFits w16 v.col → filter ≤ 1
    → ((p : Place) → OfTypes p → (out : List ℕ) → ((i : ℕ) → get_or out i 0 ≤ 255) → (r s : ℕ) (a b : List ℕ)
    → WholeLeaves filter flag p v out r a → SplitLeaves filter flag p (sixteen_spelled v) out s b → (r ≡ s) × (a ≡ b))
    ↔ (mergeable v ≡ true)
codes_agree_exactly filter flag v fr fc h =
    outputs_agree_exactly (set_of filter) (lowering_of (flag_of flag)) (code_refusal filter) v fr fc (ap (λ (x : Bool). cond x 5 0) (le-ltb 1 filter h))

-- of the calls by version, from 0 to 3, in either mode
pub versions_agree_exactly : (version : ℕ) → version ≤ 3 → (standard : ℕ) (v : Mv) → SFits w16 v.row → SFits w16 v.col
    → ((p : Place) → OfTypes p → (out : List ℕ) → ((i : ℕ) → get_or out i 0 ≤ 255) → (r s : ℕ) (a b : List ℕ)
    → WholeLeavesByVersion version standard p v out r a → SplitLeavesByVersion version standard p (sixteen_spelled v) out s b → (r ≡ s) × (a ≡ b))
    ↔ (mergeable v ≡ true)
versions_agree_exactly version h standard v fr fc =
    let exactly = outputs_agree_exactly (version_set version) (version_lowering version (flag_of standard)) 0 v fr fc refl in (
      λ same. exactly.0 (λ p t out k r s a b L M. same p t out k r s a b (left_as (sym (as-whole p)) refl L) (left_as (sym (as-split p _)) refl M)),
      λ e p t out k r s a b L M. exactly.1 e p t out k r s a b (left_as (as-whole p) refl L) (left_as (as-split p _) refl M),
    )
  where
    as-whole : (p : Place) → whole_by_version version (flag_of standard) (lent_at p) p.col p.row v ≡ whole (version_set version) (version_lowering version (flag_of standard)) (lent_at p) p.col p.row v
    as-whole p = whole_meant version (flag_of standard) (lent_at p) p.col p.row h v

    as-split : (p : Place) (vs : List Mv) → split_by_version version (flag_of standard) (lent_at p) p.col p.row vs ≡ split (version_set version) (version_lowering version (flag_of standard)) (lent_at p) p.col p.row vs
    as-split p vs = split_meant version (flag_of standard) (lent_at p) p.col p.row h vs

-- and with any other version both refuse by 10, and keep the output
pub versions_refused_alike : (version : ℕ) → 3 < version → (standard : ℕ) (p : Place) (v : Mv) (vectors out : List ℕ) (r s : ℕ) (a b : List ℕ)
    → WholeLeavesByVersion version standard p v out r a → SplitLeavesByVersion version standard p vectors out s b → ((r ≡ 10) × (a ≡ out)) × ((s ≡ 10) × (b ≡ out))
versions_refused_alike version h standard p v vectors out r s a b L M = (
  one_outcome (left_as (whole_reserved version (flag_of standard) (lent_at p) p.col p.row h v) refl L) (left-refused reserved_version 0 out 10 refl (λ z. omega arith)),
  one_outcome (left_as (split_reserved version (flag_of standard) (lent_at p) p.col p.row h (vectors_of vectors)) refl M)
      (left-refused reserved_version (count_refusal 64 (length vectors)) out 10 refl (λ z. omega arith)),
)
