-- Laws of pieces of a list, and of planes that are finished. Assumes nothing.
use Rattle.std.specs.Prelude.{◌≡◌, List, ◌∷◌, ◌++◌, ℕ, zero, suc, ◌+◌, ◌*◌, ◌/◌, ◌%◌, ◌<◌, ◌≤◌, length, ℤ}
use Rattle.std.proofs.Common.{sym, ◌∙◌, div-lt_iff_lt-mul, arith}
use Rattle.std.proofs.Math.Path.{ap}
use Rattle.std.proofs.Math.Nat.{mod-lt, div-add-mod', mul-le-mul_right}
use Rattle.std.proofs.Math.ListN.{get_or}
use Rattle.rfc6386.specs.Raster.{tab, raster}
use Rattle.rfc6386.proofs.Laws.Raster.{is-tab, tab_ext, get_or-tab, next_row}
use Rattle.residue.specs.Transform.{summed}
use Rattle.residue.specs.Coefficients.{residue_at, finished_plane}
use Rattle.residue.specs.Inner.{Area, piece}

-- ---- pieces
pub tab_append : (n m : ℕ) (f : ℕ → ℕ) → tab (n + m) f ≡ tab n f ++ tab m (λ i. f (n + i))
unfolding tab
tab_append zero m f =
    let e : 0 + m ≡ m = omega arith in
    ap (λ (k : ℕ). tab k f) e ∙ tab_ext m f (λ i. f (0 + i)) (λ i h. ap f (omega arith))
tab_append (suc n) m f =
    let e : suc n + m ≡ suc (n + m) = omega arith in
    ap (λ (k : ℕ). tab k f) e
    ∙ ap (λ (l : List ℕ). f 0 ∷ l) (tab_append n m (λ i. f (suc i)))
    ∙ ap (λ (l : List ℕ). f 0 ∷ (tab n (λ i. f (suc i)) ++ l)) (tab_ext m (λ i. f (suc (n + i))) (λ i. f (suc n + i)) (λ i h. ap f (omega arith)))

pub piece_all : (d : List ℕ) (n : ℕ) → length d ≡ n → piece d 0 n ≡ d
unfolding piece
piece_all d n e = sym (is-tab 0 n (λ k. get_or d (0 + k) 0) d e (λ i h. ap (λ (k : ℕ). get_or d k 0) (omega arith)))

pub piece_append : (d : List ℕ) (i n m : ℕ) → piece d i (n + m) ≡ piece d i n ++ piece d (i + n) m
unfolding piece
piece_append d i n m =
    tab_append n m (λ k. get_or d (i + k) 0)
    ∙ ap (λ (l : List ℕ). tab n (λ k. get_or d (i + k) 0) ++ l) (tab_ext m _ _ (λ k h. ap (λ (j : ℕ). get_or d j 0) (omega arith)))

-- the samples of a macroblock
pub three_pieces : (d : List ℕ) → length d ≡ 384 → d ≡ piece d 0 256 ++ (piece d 256 64 ++ piece d 320 64)
three_pieces d e =
    sym (piece_all d 384 e) ∙ piece_append d 0 256 128 ∙ ap (λ (l : List ℕ). piece d 0 256 ++ l) (piece_append d 256 64 64)

-- ---- a plane that is finished
module _ {d d' : List ℕ} (i w : ℕ) (c : List ℤ) (n : ℕ) (A : Area d d' i w 0 w 0 w (λ r q. summed (get_or d (i + (r * w + q)) 0) (residue_at w c n r q))) where
  pub piece_finished : 0 < w → piece d' i (w * w) ≡ finished_plane w c n (piece d i (w * w))
  unfolding piece finished_plane raster
  piece_finished p =
      tab_ext (w * w) _ _
      (λ k h.
      let r = k / w in
      let q = k % w in
      let e : k ≡ r * w + q = omega (arith, div-add-mod' k w) in
      ap (λ (j : ℕ). get_or d' (i + j) 0) e
      ∙ A.done r q (record { from_row = omega arith; to_row = (div-lt_iff_lt-mul p).1 h; from-column = omega arith; to-column = mod-lt k p })
      ∙ ap (λ (s : ℕ). summed s (residue_at w c n r q))
      (sym (get_or-tab (w * w) (λ k. get_or d (i + k) 0) (r * w + q) 0 (omega (arith, e)))))

  -- and what lies beside it is as it was
  pub piece_kept : (j m : ℕ) → ((k : ℕ) → j ≤ k → k < j + m → i ≤ k → k < i + w * w → ⊥) → piece d' j m ≡ piece d j m
  unfolding piece
  piece_kept j m apart =
      tab_ext m _ _
      (λ k h.
      A.rest (j + k)
      (λ r q s e.
      let f : (r + 1) * w ≤ w * w = mul-le-mul_right w (omega (arith, s)) in
      apart (j + k) (omega arith) (omega arith) (omega arith) (omega (arith, s, next_row r w))))

  -- the area is all of the list
  pub plane_finished : 0 < w → i ≡ 0 → length d ≡ w * w → d' ≡ finished_plane w c n d
  plane_finished p e l =
      sym (piece_all d' (w * w) (A.size ∙ l))
      ∙ ap (λ (k : ℕ). piece d' k (w * w)) (sym e)
      ∙ piece_finished p
      ∙ ap (λ (k : ℕ). finished_plane w c n (piece d k (w * w))) e
      ∙ ap (finished_plane w c n) (piece_all d (w * w) l)
