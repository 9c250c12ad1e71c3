-- How a call with a lent output ends, and how many samples a prediction has. Assumes nothing.
use Rattle.std.specs.Prelude.{◌≡◌, refl, Bool, true, false, cond, List, ℕ, zero, suc, ◌*◌, eqb, length}
use Rattle.std.proofs.Common.{sym, ◌∙◌, subst, arith, eqb-true}
use Rattle.rfc6386.specs.Vector.{luma_vector, chroma_vector}
use Rattle.rfc6386.specs.declared.Lowering.{Lowering}
use Rattle.rfc6386.specs.Picture.{image, block_by}
use Rattle.rfc6386.specs.Clips.{no_clips}
use Rattle.rfc6386.specs.Refusal.{or_else, if_done, room_refusal}
use Rattle.rfc6386.specs.Macroblock.{Reference, plane_y, plane_u, plane_v, refusal, whole_samples, split_samples, answered, whole, split}
use Rattle.rfc6386.specs.Answer.{no_samples, Prediction, Report}
use Rattle.rfc6386.proofs.Promises.{one_result}
use Rattle.rfc6386.proofs.Laws.Raster.{length-raster}
use Rattle.rfc6386.proofs.Laws.Refusals.{done, refused}
use Rattle.rfc6386.proofs.Laws.Blocks.{length-block}
use Rattle.outputs.specs.Output.{flat, call_number, Left, EndedAnswer, Told}
use Rattle.rfc6386.specs.declared.Mv.{Mv}
use Rattle.rfc6386.specs.declared.FilterSet.{FilterSet}
use Rattle.rfc6386.specs.declared.ReconstructedMb.{ReconstructedMb}

-- ---- how a call ends
-- what is left does not depend on what a refused call would have written
pub if-done : {A : Type 0} (n : ℕ) (o : A) {a b : A} → (n ≡ 0 → a ≡ b) → if_done n a o ≡ if_done n b o
unfolding if_done
if-done zero o h = h refl
if-done (suc n) o h = refl

pub zeros : (n m : ℕ) → or_else n m ≡ 0 → m ≡ 0
zeros zero m e = e
zeros (suc n) m e = absurd (omega arith)

no_7 : (n : ℕ) → room_refusal n ≡ 0 → n ≡ 384
no_7 n e = at (eqb n 384) refl e
  where
    at : (b : Bool) → eqb n 384 ≡ b → ◌≡◌ {A = ℕ} (cond b 0 7) 0 → n ≡ 384
    at true t e = eqb-true n 384 t
    at false t e = absurd (omega arith)

module _ (p : Prediction) (codes : ℕ) (out : List ℕ) (n : ℕ) (e : n ≡ call_number p codes out) where
  pub left-refused : (n ≡ 0 → ⊥) → Left p codes out n out
  left-refused h = record { number_is = e; bytes_are = sym (refused (flat p.samples) out (λ z. h (e ∙ z))) }

  pub has_room : n ≡ 0 → length out ≡ 384
  has_room z = no_7 (length out) (zeros codes _ (zeros p.number _ (sym e ∙ z)))

  pub left-done : (out' : List ℕ) → n ≡ 0 → out' ≡ flat p.samples → Left p codes out 0 out'
  left-done out' z w = record { number_is = sym z ∙ e; bytes_are = w ∙ sym (done (flat p.samples) out (sym e ∙ z)) }

pub left_as : {p q : Prediction} {n m : ℕ} {out out' : List ℕ} {r : ℕ} → p ≡ q → n ≡ m → Left p n out r out' → Left q m out r out'
left_as {out} {out'} {r} e f h = subst (λ (x : Prediction × ℕ). Left x.0 x.1 out r out') (λ i. (e i, f i)) h

-- and with what was fetched and clipped
module _ (report : Report) (codes : ℕ) (out : List ℕ) (n : ℕ) (e : n ≡ call_number report.prediction codes out) where
  pub told-refused : (n ≡ 0 → ⊥) → Told report codes out (record { number = n; fetched = 0; clips = no_clips }) out
  told-refused h =
      let not-zero : call_number report.prediction codes out ≡ 0 → ⊥ = (λ z. h (e ∙ z)) in
      record {
        leaves = left-refused report.prediction codes out n e h;
        fetched_is = sym (refused report.fetched 0 not-zero);
        clips_are = sym (refused report.clips no_clips not-zero);
      }

  pub told-done : (out' : List ℕ) → n ≡ 0 → out' ≡ flat report.prediction.samples → Told report codes out (record { number = 0; fetched = report.fetched; clips = report.clips }) out'
  told-done out' z w =
      record {
        leaves = left-done report.prediction codes out n e out' z w;
        fetched_is = sym (done report.fetched 0 (sym e ∙ z));
        clips_are = sym (done report.clips no_clips (sym e ∙ z));
      }

pub told_as : {p q : Report} {n m : ℕ} {out out' : List ℕ} {r : EndedAnswer} → p ≡ q → n ≡ m → Told p n out r out' → Told q m out r out'
told_as {out} {out'} {r} e f h = subst (λ (x : Report × ℕ). Told x.0 x.1 out r out') (λ i. (e i, f i)) h

-- ---- THEOREM. No two outcomes meet the contract of a C function: its number, the bytes that it leaves, and what it says was fetched and clipped.
pub one_outcome : {p : Prediction} {codes : ℕ} {out : List ℕ} {r s : ℕ} {a b : List ℕ} → Left p codes out r a → Left p codes out s b → (r ≡ s) × (a ≡ b)
one_outcome h k = (one_result h.number_is k.number_is, one_result h.bytes_are k.bytes_are)

pub one_telling : {p : Report} {codes : ℕ} {out : List ℕ} {r s : EndedAnswer} {a b : List ℕ} → Told p codes out r a → Told p codes out s b → (r ≡ s) × (a ≡ b)
one_telling h k =
    let left = one_outcome h.leaves k.leaves in
    let fetched = one_result h.fetched_is k.fetched_is in
    let clips = one_result h.clips_are k.clips_are in
    (λ i. record { number = left.0 i; fetched = fetched i; clips = clips i }, left.1)

-- ---- how many samples there are
pub record Counted (s : ReconstructedMb) : Type 0 where
  pub y : length s.y ≡ 256
  pub u : length s.u ≡ 64
  pub v : length s.v ≡ 64

-- in accepted predictions
counted : (n : ℕ) (s : ReconstructedMb) → n ≡ 0 → Counted s → Counted (answered n s).samples
unfolding answered
counted n s e h = subst Counted (sym (done s no_samples e)) h

module _ (set : FilterSet) (low : Lowering) (ref : Reference) (col row : ℕ) where
  pub whole_counted : (v : Mv) → (whole set low ref col row v).number ≡ 0 → Counted (whole set low ref col row v).samples
  unfolding whole answered whole_samples
  whole_counted v e =
      counted (refusal ref col row) (whole_samples set low ref col row v) e
      (record {
        y = length-block 16 set (image (plane_y ref)) (col * 16) (row * 16) (luma_vector low v);
        u = length-block 8 set (image (plane_u ref)) (col * 8) (row * 8) (chroma_vector low v);
        v = length-block 8 set (image (plane_v ref)) (col * 8) (row * 8) (chroma_vector low v);
      })

  pub split_counted : (vs : List Mv) → (split set low ref col row vs).number ≡ 0 → Counted (split set low ref col row vs).samples
  unfolding split answered split_samples block_by
  split_counted vs e =
      counted (refusal ref col row) (split_samples set low ref col row vs) e
      (record { y = length-raster 16 16 _; u = length-raster 8 8 _; v = length-raster 8 8 _ })
