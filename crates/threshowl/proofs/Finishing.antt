-- Laws for the calls that finish a macroblock. Assumes nothing.
use mathlib.Core.Path.{◌≡◌, refl, sym, ap, ◌∙◌, subst}
use mathlib.Core.Bool.{Bool, true, false, cond, ◌&&◌}
use mathlib.Core.List.{List, ◌++◌, append_assoc}
use Prim.Native.Nat.{ℕ, zero, suc, ◌+◌, ◌*◌}
use native.Mathlib.Omega.{arith}
use lib.ListN.{length, get_or, length-append, get_or-append}
use lib.Seq.{get_or-append-add}
use lib.IntN.{ℤ}
use mir.Syntax.{w32}
use mir.Val.{SFits, to_z, of_z}
use mir.Facts.{to_z-of_z}
use Rattle.rfc6386.specs.Vector.{luma_vector, chroma_vector, is_whole}
use Rattle.rfc6386.specs.declared.Lowering.{Lowering}
use Rattle.rfc6386.specs.Picture.{image}
use Rattle.rfc6386.specs.Raster.{tab}
use Rattle.rfc6386.specs.Refusal.{or_else, if_done, room_refusal}
use Rattle.rfc6386.specs.Macroblock.{Reference, plane_y, plane_u, plane_v, refusal, whole_samples, pixel_samples, answered, whole, fraction_left}
use Rattle.rfc6386.specs.Answer.{no_samples, Prediction}
use Rattle.rfc6386.proofs.Laws.Raster.{is-tab}
use Rattle.rfc6386.proofs.Laws.Refusals.{done, refused, or_else-zero}
use Rattle.rfc6386.proofs.Laws.Halos.{whole-block}
use Rattle.residue.specs.Coefficients.{finished_plane, finished}
use Rattle.residue.specs.Reconstruction.{finished_unless}
use Rattle.residue.specs.Inner.{piece}
use Rattle.quantisers.specs.Inner.{Offered}
use Rattle.quantisers.proofs.Keeping.{unless_alike}
use Rattle.outputs.specs.Output.{flat, call_number, Left}
use Rattle.threshowl.specs.Finished.{late_number, Finishes, pixels_at, quantiser, finished_bytes}
use Rattle.outputs.specs.Laws.{if-done, Counted, has_room, zeros}
use Rattle.rfc6386.specs.declared.Mv.{Mv}
use Rattle.rfc6386.specs.declared.FilterSet.{FilterSet}
use Rattle.rfc6386.specs.declared.ReconstructedMb.{ReconstructedMb}
use Rattle.quantisers.specs.declared.QuantIndices.{QuantIndices}

-- ---- the samples of a macroblock
-- part of a list that is two
piece_front : (a b : List ℕ) (n : ℕ) → length a ≡ n → piece (a ++ b) 0 n ≡ a
unfolding piece
piece_front a b n e =
    sym (is-tab 0 n (λ k. get_or (a ++ b) (0 + k) 0) a e (λ i h. sym (ap (λ (k : ℕ). get_or (a ++ b) k 0) (omega arith) ∙ get_or-append a b 0 i (omega arith))))

piece_back : (a b : List ℕ) (n m : ℕ) → length a ≡ n → piece (a ++ b) n m ≡ piece b 0 m
unfolding piece
piece_back a b n m e =
    λ t. tab m (λ k. here k t)
  where
    here : (k : ℕ) → get_or (a ++ b) (n + k) 0 ≡ get_or b (0 + k) 0
    here k =
        ap (λ (i : ℕ). get_or (a ++ b) (i + k) 0) (sym e) ∙ get_or-append-add a b k 0 ∙ ap (λ (i : ℕ). get_or b i 0) (omega arith)

piece_empty : (a : List ℕ) (n : ℕ) → length a ≡ n → piece a 0 n ≡ a
unfolding piece
piece_empty a n e = sym (is-tab 0 n (λ k. get_or a (0 + k) 0) a e (λ i h. ap (λ (k : ℕ). get_or a k 0) (omega arith)))

pub bytes-finished : (skip : Bool) (c : List ℤ) (s : ReconstructedMb) → Counted s → finished_bytes skip c (flat s) ≡ flat (finished_unless skip c s)
unfolding finished
bytes-finished true c s n = refl
bytes-finished false c s n =
    let y = piece_front s.y (s.u ++ s.v) 256 n.y in
    let u = piece_back s.y (s.u ++ s.v) 256 64 n.y ∙ piece_front s.u s.v 64 n.u in
    let long : length (s.y ++ s.u) ≡ 320 = length-append s.y s.u ∙ omega (arith, n) in
    let v =
    ap (λ (l : List ℕ). piece l 320 64) (sym (append_assoc s.y s.u s.v))
    ∙ piece_back (s.y ++ s.u) s.v 320 64 long
    ∙ piece_empty s.v 64 n.v in
    λ t. finished_plane 16 c 0 (y t) ++ (finished_plane 8 c 256 (u t) ++ finished_plane 8 c 320 (v t))

-- ---- the number
late_last : (a b r l : ℕ) → or_else a (or_else (or_else b (or_else r l)) r) ≡ or_else (or_else a (or_else b r)) l
late_last (suc a) b r l = refl
late_last zero (suc b) r l = refl
late_last zero zero (suc r) l = refl
late_last zero zero zero zero = refl
late_last zero zero zero (suc l) = refl

module _ (p : Prediction) (codes late : ℕ) (skip : Bool) (c : List ℤ) (out : List ℕ) {n : ℕ} {out₁ : List ℕ} (L : Left p (or_else codes (or_else (room_refusal (length out)) late)) out n out₁) where
  numbered : n ≡ late_number p codes late out
  numbered = L.number_is ∙ late_last p.number codes (room_refusal (length out)) late

  -- a call that is refused
  pub finishes-refused : (n ≡ 0 → ⊥) → Finishes p codes late skip c out n out₁
  finishes-refused h =
      record {
        number_is = numbered;
        bytes_are = L.bytes_are ∙ refused (flat p.samples) out (λ z. h (L.number_is ∙ z)) ∙ sym (refused (flat (finished_unless skip c p.samples)) out (λ z. h (numbered ∙ z)));
      }

  -- and one that is not: no number at all
  module _ (z : n ≡ 0) where
    pub none_late : late ≡ 0
    none_late = zeros (call_number p codes out) late (sym numbered ∙ z)

    pub none_own : p.number ≡ 0
    none_own = or_else-zero p.number (or_else codes (room_refusal (length out))) (or_else-zero (call_number p codes out) late (sym numbered ∙ z))

    pub room_left : length out ≡ 384
    room_left = has_room p (or_else codes (or_else (room_refusal (length out)) late)) out n L.number_is z

    pub finishes-done : {out₂ : List ℕ} → Counted p.samples → out₂ ≡ finished_bytes skip c out₁ → Finishes p codes late skip c out 0 out₂
    finishes-done m e =
        record {
          number_is = sym z ∙ numbered;
          bytes_are =
              e
              ∙ ap (finished_bytes skip c) (L.bytes_are ∙ done (flat p.samples) out (sym L.number_is ∙ z))
              ∙ bytes-finished skip c p.samples m
              ∙ sym (done (flat (finished_unless skip c p.samples)) out (sym numbered ∙ z));
        }

-- ---- said otherwise
-- codes with a number after that of the room, where that is said otherwise
pub codes_are : (own room : ℕ) {codes late late' : ℕ} → codes ≡ or_else own (or_else (room_refusal room) late) → late ≡ late'
    → codes ≡ or_else own (or_else (room_refusal room) late')
codes_are own room f h = f ∙ ap (λ (l : ℕ). or_else own (or_else (room_refusal room) l)) h

pub finishes_as : {p q : Prediction} {codes codes' late late' : ℕ} {skip : Bool} {c : List ℤ} {out : List ℕ} {r r' : ℕ} {out' : List ℕ} → p ≡ q → codes ≡ codes' → late ≡ late' → r' ≡ r
    → Finishes p codes late skip c out r out' → Finishes q codes' late' skip c out r' out'
finishes_as {skip = skip} {c} {out} {out' = out'} e f g k h =
    subst (λ (x : Prediction × ℕ × ℕ × ℕ). Finishes x.0 x.1 x.2 skip c out x.3 out') (λ i. (e i, f i, g i, sym k i)) h

-- a vector that leaves no fraction predicts at whole pixels
module _ (set : FilterSet) (low : Lowering) (ref : Reference) (col row : ℕ) (v : Mv) where
  no_fraction : fraction_left low v ≡ 0 → (is_whole (luma_vector low v) ≡ true) × (is_whole (chroma_vector low v) ≡ true)
  no_fraction e = at (is_whole (luma_vector low v)) (is_whole (chroma_vector low v)) e
    where
      at : (a b : Bool) → ◌≡◌ {A = ℕ} (cond (a && b) 0 8) 0 → (a ≡ true) × (b ≡ true)
      at true true e = (refl, refl)
      at true false e = absurd (omega arith)
      at false b e = absurd (omega arith)

  same_samples : fraction_left low v ≡ 0 → whole_samples set low ref col row v ≡ pixel_samples low ref col row v
  unfolding whole_samples pixel_samples
  same_samples e =
      let w = no_fraction e in
      let y = whole-block 16 set (image (plane_y ref)) (col * 16) (row * 16) (luma_vector low v) refl w.0 in
      let u = whole-block 8 set (image (plane_u ref)) (col * 8) (row * 8) (chroma_vector low v) refl w.1 in
      let x = whole-block 8 set (image (plane_v ref)) (col * 8) (row * 8) (chroma_vector low v) refl w.1 in
      λ i. record { y = sym y i; u = sym u i; v = sym x i }

  pub finishes_pixels : (late : ℕ) {skip : Bool} {c : List ℤ} {out : List ℕ} {r : ℕ} {out' : List ℕ}
      → Finishes (whole set low ref col row v) 0 (or_else (fraction_left low v) late) skip c out r out'
      → Finishes (pixels_at low ref col row v) 0 (or_else (fraction_left low v) late) skip c out r out'
  unfolding whole answered
  finishes_pixels late {skip} {c} {out} F =
      let last = or_else (fraction_left low v) late in
      let first = call_number (whole set low ref col row v) 0 out in
      record {
        number_is = F.number_is;
        bytes_are =
            F.bytes_are
            ∙ if-done (or_else first last) out
            (λ z.
            ap (λ (s : ReconstructedMb). flat (finished_unless skip c (if_done (refusal ref col row) s no_samples)))
            (same_samples (or_else-zero (fraction_left low v) late (zeros first last z))));
      }

-- ---- coefficients that do for others, tested after a number of their own
module _ {refusal : Bool → List ℤ → ℕ} {used : List ℤ → List ℤ} {skip : Bool} {p c : List ℤ} (first : ℕ) (O : Offered refusal used skip p c) where
  pub finishes_offered : {P : Prediction} {codes : ℕ} {out : List ℕ} {r : ℕ} {out' : List ℕ}
      → Finishes P codes (or_else first (refusal skip c)) skip (used c) out r out' → Finishes P codes (or_else first (refusal skip p)) skip (used p) out r out'
  finishes_offered {P} {codes} {out} F =
      let call = call_number P codes out in
      let late = or_else first (refusal skip p) in
      let same : or_else call (or_else first (refusal skip c)) ≡ or_else call late = ap (λ (n : ℕ). or_else call (or_else first n)) O.refused_alike in
      record {
        number_is = F.number_is ∙ same;
        bytes_are =
            F.bytes_are
            ∙ ap (λ (n : ℕ). if_done n (flat (finished_unless skip (used c) P.samples)) out) same
            ∙ if-done (or_else call late) out (λ z. ap flat (unless_alike skip O (zeros first (refusal skip p) (zeros call late z)) P.samples));
      }

-- what holds of base index and deltas as they are read back holds of them
pub of_quantiser : (P : QuantIndices → Type 0) {a b c d e f : ℤ} → SFits w32 a → SFits w32 b → SFits w32 c → SFits w32 d → SFits w32 e → SFits w32 f
    → P (quantiser (to_z w32 (of_z w32 a)) (to_z w32 (of_z w32 b)) (to_z w32 (of_z w32 c)) (to_z w32 (of_z w32 d)) (to_z w32 (of_z w32 e)) (to_z w32 (of_z w32 f)))
    → P (quantiser a b c d e f)
of_quantiser P p q r s t u =
    subst P (λ i. quantiser (to_z-of_z p i) (to_z-of_z q i) (to_z-of_z r i) (to_z-of_z s i) (to_z-of_z t i) (to_z-of_z u i))
