-- Laws of samples written one after the other. Assumes nothing.
use mathlib.Core.Path.{◌≡◌, refl, sym, ap, ap₂, ◌∙◌}
use mathlib.Core.List.{List, ◌++◌, append_assoc, append-nil}
use Prim.Native.Nat.{ℕ, ◌+◌, ◌≤◌}
use native.Mathlib.Omega.{arith}
use lib.ListN.{length, drop, length-append, length-drop, drop_of_length-le}
use lib.Seq.{paste, take_at, take-length, drop-append-add}
use borrow.Rule.Slice.PartMut.{put_mid}
use Rattle.std.proofs.lemmas.Slice.{put_mid-paste}

-- s copied to where d ends
put_next : (d rest s : List ℕ) (n : ℕ) → length d ≡ n → paste (d ++ rest) n s (length s) ≡ d ++ s ++ drop (length s) rest
put_next d rest s n e =
    let k : n + length s ≡ length d + length s = omega arith in
    ap₂ (λ (a b : List ℕ). a ++ b ++ drop (n + length s) (d ++ rest)) (take_at d rest n e) (take-length s)
    ∙ ap (λ (m : ℕ). d ++ s ++ drop m (d ++ rest)) k
    ∙ ap (λ (l : List ℕ). d ++ s ++ l) (drop-append-add d rest (length s))

-- three copies, one after the other, fill an output of their length
pub put_three : (y u v o : List ℕ) {y' u' v' : List ℕ} → length y ≡ 256 → length u ≡ 64 → length v ≡ 64 → length o ≡ 384
    → y' ≡ y → u' ≡ u → v' ≡ v → put_mid 320 64 (put_mid 256 64 (y' ++ drop 256 o) u') v' ≡ y ++ (u ++ v)
put_three y u v o {y'} {u'} {v'} hy hu hv ho ey eu ev =
    let r₁ = drop (length y) o in
    let r₂ = drop (length u) r₁ in
    let o₁ = y' ++ drop 256 o in
    let o₂ = put_mid 256 64 o₁ u' in
    let d₁ : o₁ ≡ y ++ r₁ = ap₂ (λ (l : List ℕ) (n : ℕ). l ++ drop n o) ey (sym hy) in
    let d₂ : o₂ ≡ y ++ u ++ r₂ = put_mid-paste 256 64 o₁ u' u (length u) eu hu refl ∙ ap (λ (l : List ℕ). paste l 256 u (length u)) d₁ ∙ put_next y r₁ u 256 hy in
    let long : length (y ++ u) ≡ 320 = omega (arith, length-append y u) in
    let end : length r₂ ≤ length v = omega (arith, length-drop (length y) o, length-drop (length u) r₁) in
    put_mid-paste 320 64 o₂ v' v (length v) ev hv refl
    ∙ ap (λ (l : List ℕ). paste l 320 v (length v)) d₂
    ∙ put_next (y ++ u) r₂ v 320 long
    ∙ ap (λ (l : List ℕ). y ++ u ++ v ++ l) (drop_of_length-le r₂ end)
    ∙ append-nil (y ++ u ++ v)
    ∙ append_assoc y u v
