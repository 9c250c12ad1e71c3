-- What a call leaves: each macroblock is the single call's, every other byte is as it was, and there is one outcome. Assumes nothing.
use Rattle.std.specs.Prelude.{◌≡◌, refl, ◌&&◌, ℕ, ◌+◌, ◌-◌, ◌*◌, ◌/◌, ◌%◌, ◌<◌, ◌≤◌}
use Rattle.std.proofs.Common.{sym, ◌∙◌}
use Rattle.std.proofs.Math.Path.{ap}
use Rattle.std.proofs.Math.Bool.{cond}
use mathlib.Core.List.{List}
use Rattle.std.proofs.Math.Nat.{mul-le-mul_right}
use native.Mathlib.Omega.{arith}
use Rattle.std.proofs.Math.ListN.{length, get_or}
use Rattle.rfc6386.specs.Raster.{within}
use Rattle.rfc6386.specs.Refusal.{if_done}
use Rattle.rfc6386.specs.Channel.{Channel, luma, chroma_u, chroma_v, side, samples_in}
use Rattle.rfc6386.proofs.Promises.{one_result}
use Rattle.rfc6386.proofs.Laws.Raster.{row_fits, length-written, get_or-written, written_sample}
use Rattle.rfc6386.proofs.Laws.Refusals.{done, refused, or_else-zero}
use Rattle.steps.proofs.Laws.Copying.{within_cases}
use Rattle.outputs.specs.Laws.{zeros}
use Rattle.frame.specs.Frame.{Planes, reference_code, Asked, cols, rows, prediction_at, frame_sample, frame_plane, references_refusal, output_refusal, frame_number, Fills}
use Rattle.frame.specs.Inner.{Holds}
use Rattle.frame.specs.Laws.{output-holds, reference_accepted, sample_in, single_number}
use Rattle.frame.specs.declared.Strides.{Strides}

-- the planes by name
abbrev pub bytes_in : Channel → Planes → List ℕ
bytes_in luma p = p.y
bytes_in chroma_u p = p.u
bytes_in chroma_v p = p.v

abbrev pub stride_in : Channel → Strides → ℕ
stride_in luma s = s.y
stride_in chroma_u s = s.u
stride_in chroma_v s = s.v

module _ {a : Asked} {codes : ℕ} {out : Planes} {s : Strides} {r : ℕ} {out' : Planes} (F : Fills a codes out s r out') where
  plane_is : (k : Channel) → bytes_in k out' ≡ if_done (frame_number a codes out s) (frame_plane a k (bytes_in k out) (stride_in k s)) (bytes_in k out)
  plane_is luma = F.y_is
  plane_is chroma_u = F.u_is
  plane_is chroma_v = F.v_is

  -- THEOREM. A refused call keeps every byte.
  pub frame_refused : (r ≡ 0 → ⊥) → (k : Channel) → bytes_in k out' ≡ bytes_in k out
  frame_refused h k = plane_is k ∙ refused (frame_plane a k (bytes_in k out) (stride_in k s)) (bytes_in k out) (λ z. h (F.number_is ∙ z))

  -- one that is done
  module _ (z : r ≡ 0) where
    none : frame_number a codes out s ≡ 0
    none = sym F.number_is ∙ z

    filled : (k : Channel) → bytes_in k out' ≡ frame_plane a k (bytes_in k out) (stride_in k s)
    filled k = plane_is k ∙ done (frame_plane a k (bytes_in k out) (stride_in k s)) (bytes_in k out) none

    room : (k : Channel) → Holds (length (bytes_in k out)) (stride_in k s) (cols a * side k) (rows a * side k)
    unfolding frame_number
    room k = at k
      where
        later : output_refusal out s a.refs.sizes ≡ 0
        later = or_else-zero (output_refusal out s a.refs.sizes) _ (zeros codes _ (zeros (references_refusal a.refs) _ none))

        at : (k : Channel) → Holds (length (bytes_in k out)) (stride_in k s) (cols a * side k) (rows a * side k)
        at luma = (output-holds out s a.refs.sizes later).0
        at chroma_u = (output-holds out s a.refs.sizes later).1
        at chroma_v = (output-holds out s a.refs.sizes later).2

    -- THEOREM. Each macroblock is what the single call answers for its order, which accepts it.
    pub frame_accepted : (col row : ℕ) → col < cols a → row < rows a → (prediction_at a col row).number ≡ 0
    unfolding frame_number
    frame_accepted col row hc hr = single_number a col row (reference_accepted a.refs (or_else-zero (references_refusal a.refs) _ none) (reference_code a.orders (row * cols a + col)) col row hc hr)

    pub frame_macroblock : (k : Channel) (col row i j : ℕ) → col < cols a → row < rows a → i < side k → j < side k
        → get_or (bytes_in k out') ((row * side k + i) * stride_in k s + (col * side k + j)) 0 ≡ get_or (samples_in k (prediction_at a col row).samples) (i * side k + j) 0
    unfolding frame_plane
    frame_macroblock k col row i j hc hr hi hj =
        let n = side k in
        let H = room k in
        let x = row_fits col (cols a) n hc in
        let y = row_fits row (rows a) n hr in
        let below : row * n + i ≤ rows a * n - 1 = omega arith in
        ap (λ (l : List ℕ). get_or l ((row * n + i) * stride_in k s + (col * n + j)) 0) (filled k)
        ∙ written_sample (bytes_in k out) (stride_in k s) (cols a * n) (rows a * n) (frame_sample a k) (row * n + i) (col * n + j) (omega arith) (omega arith) H.across
        (omega (arith, mul-le-mul_right (stride_in k s) below, H.down))
        ∙ sample_in a k col row i j hi hj

    -- THEOREM. Every byte outside the picture, between width and stride or below the last row, keeps its value, and no plane changes its length.
    pub frame_others : (k : Channel) (i : ℕ) → i < length (bytes_in k out) → (i / stride_in k s < rows a * side k → i % stride_in k s < cols a * side k → ⊥)
        → get_or (bytes_in k out') i 0 ≡ get_or (bytes_in k out) i 0
    unfolding frame_plane
    frame_others k i h outside =
        let q = i / stride_in k s in
        let m = i % stride_in k s in
        ap (λ (l : List ℕ). get_or l i 0) (filled k)
        ∙ get_or-written (bytes_in k out) (stride_in k s) 0 0 (cols a * side k) (rows a * side k) (frame_sample a k) i h
        ∙ within_cases 0 (rows a * side k) q (λ b. cond (b && within 0 (cols a * side k) m) (frame_sample a k (q - 0) (m - 0)) (get_or (bytes_in k out) i 0) ≡ get_or (bytes_in k out) i 0)
        (λ g l. within_cases 0 (cols a * side k) m (λ b. cond b (frame_sample a k (q - 0) (m - 0)) (get_or (bytes_in k out) i 0) ≡ get_or (bytes_in k out) i 0) (λ g' l'. absurd (outside (omega arith) (omega arith))) (λ none. refl))
        (λ none. refl)

    pub frame-length : (k : Channel) → length (bytes_in k out') ≡ length (bytes_in k out)
    unfolding frame_plane
    frame-length k = ap length (filled k) ∙ length-written (bytes_in k out) (stride_in k s) 0 0 (cols a * side k) (rows a * side k) (frame_sample a k)

-- THEOREM. No two outcomes meet the contract.
pub one_frame : {a : Asked} {codes : ℕ} {out : Planes} {s : Strides} {r r' : ℕ} {out₁ out₂ : Planes} → Fills a codes out s r out₁ → Fills a codes out s r' out₂ → (r ≡ r') × (out₁ ≡ out₂)
one_frame F G =
    let y = one_result F.y_is G.y_is in
    let u = one_result F.u_is G.u_is in
    let v = one_result F.v_is G.v_is in
    (one_result F.number_is G.number_is, λ i. record { y = y i; u = u i; v = v i })
