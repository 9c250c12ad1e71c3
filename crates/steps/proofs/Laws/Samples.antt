-- What a pass leaves at a place is the sample of the window there: both steps, one of them where the other fraction is 0, and the same with two
-- taps; and where it is clipped, that sample is. Assumes nothing.
use Rattle.std.specs.Prelude.{◌≡◌, ℤ, get_or}
use Rattle.std.proofs.Math.Path.{refl, sym, ap, ap₂}
use Rattle.std.proofs.Common.{◌∙◌}
use mathlib.Core.List.{List}
use Prim.Native.Nat.{ℕ, zero, suc, ◌+◌, ◌*◌, ◌<◌, ◌≤◌}
use Rattle.std.proofs.Math.Nat.{add-mul}
use native.Mathlib.Omega.{arith}
use Rattle.rfc6386.specs.Filter.{taps_of, step}
use Rattle.rfc6386.specs.Picture.{six_at, step_at}
use Rattle.rfc6386.specs.Clips.{step_clip, clip_at}
use Rattle.rfc6386.proofs.Laws.Steps.{same_six, step-zero, step_le}
use Rattle.rfc6386.proofs.Laws.Clipping.{clip-zero}
use Rattle.rfc6386.specs.declared.FilterSet.{FilterSet}
use Rattle.rfc6386.specs.declared.FilterSet.TheVariants.{Bilinear}
use Rattle.steps.specs.Taps.{signed_taps, Middle, two_taps}
use Rattle.steps.specs.Window.{along, six_down, over, window_sample, window_clip, mix_at}
use Rattle.steps.specs.declared.taps.Taps.{Taps}
use Rattle.steps.proofs.Laws.Mixing.{two_taps_lem}

-- ---- a list that has rows of g from column x on, s samples to a row
abbrev pub Has : ℕ → ℕ → ℕ → ℕ → List ℕ → (ℕ → ℕ → ℕ) → Type 0
Has s x w rows z g = (q c : ℕ) → q < rows → c < w → get_or z (q * s + (x + c)) 0 ≡ g q c

-- six samples down such a list, and a step over them
pub stacked_six : (s x w rows : ℕ) (g : ℕ → ℕ → ℕ) (z : List ℕ) → Has s x w (rows + 5) z g → (r c i : ℕ) → r < rows → c < w → i ≡ r * s + (x + c)
    → six_at z i s ≡ six_down g r c
stacked_six s x w rows g z H r c i hr hc ei =
    same_six
    (at r _ (omega arith) (omega arith))
    (at (r + 1) _ (omega arith) (omega (arith, add-mul r 1 s)))
    (at (r + 2) _ (omega arith) (omega (arith, add-mul r 2 s)))
    (at (r + 3) _ (omega arith) (omega (arith, add-mul r 3 s)))
    (at (r + 4) _ (omega arith) (omega (arith, add-mul r 4 s)))
    (at (r + 5) _ (omega arith) (omega (arith, add-mul r 5 s)))
  where
    at : (q n : ℕ) → q < rows + 5 → n ≡ q * s + (x + c) → get_or z n 0 ≡ g q c
    at q n hq en = ap (λ (i : ℕ). get_or z i 0) en ∙ H q c hq hc

pub stacked : (s x w rows : ℕ) (ts : List ℤ) (g : ℕ → ℕ → ℕ) (z : List ℕ) → Has s x w (rows + 5) z g → (r c i : ℕ) → r < rows → c < w → i ≡ r * s + (x + c)
    → step_at ts z i s ≡ over ts g r c
stacked s x w rows ts g z H r c i hr hc ei = ap (step ts) (stacked_six s x w rows g z H r c i hr hc ei)

module _ (set : FilterSet) (src : List ℕ) (at pitch : ℕ) where
  -- both steps
  pub two_sample : (tx ty : List ℤ) (mx my r c : ℕ) → tx ≡ taps_of set mx → ty ≡ taps_of set my → over ty (along tx src at pitch) r c ≡ window_sample set src at pitch mx my r c
  unfolding window_sample
  two_sample tx ty mx my r c ex ey = ap₂ (λ (tx ty : List ℤ). over ty (along tx src at pitch) r c) ex ey

  -- a window that begins k rows further down
  lower_six : (k mx r c : ℕ) → six_down (along (taps_of set mx) src (at + k * pitch) pitch) r c ≡ six_down (along (taps_of set mx) src at pitch) (k + r) c
  lower_six k mx r c =
      same_six (row r _ (omega arith)) (row (r + 1) _ (omega arith)) (row (r + 2) _ (omega arith)) (row (r + 3) _ (omega arith)) (row (r + 4) _ (omega arith)) (row (r + 5) _ (omega arith))
    where
      row : (q i : ℕ) → i ≡ k + q → along (taps_of set mx) src (at + k * pitch) pitch q c ≡ along (taps_of set mx) src at pitch i c
      row q i e = ap (λ (j : ℕ). step_at (taps_of set mx) src j 1) (omega (arith, add-mul k q pitch, ap (λ (j : ℕ). j * pitch) e))

  pub lower_sample : (k mx my r c : ℕ) → window_sample set src (at + k * pitch) pitch mx my r c ≡ window_sample set src at pitch mx my (k + r) c
  unfolding window_sample
  lower_sample k mx my r c = ap (step (taps_of set my)) (lower_six k mx r c)

  -- the first alone, from row 2 on
  pub across_sample : (ts : List ℤ) (mx r c : ℕ) → ts ≡ taps_of set mx → step_at ts src (at + 2 * pitch + r * pitch + c) 1 ≡ window_sample set src at pitch mx 0 r c
  unfolding window_sample
  across_sample ts mx r c e =
      ap₂ (λ (ts : List ℤ) (i : ℕ). step_at ts src i 1) e (omega (arith, add-mul r 2 pitch))
      ∙ sym (step-zero set _ _ (along (taps_of set mx) src at pitch (r + 2) c) _ _ _ (step_le _ _))

  -- the second alone, from column 2 on
  down_six : ((i : ℕ) → get_or src i 0 < 256) → (r c : ℕ) → six_at src (at + 2 + r * pitch + c) pitch ≡ six_down (along (taps_of set 0) src at pitch) r c
  down_six bytes r c =
      same_six
      (row r _ (omega arith))
      (row (r + 1) _ (omega (arith, add-mul r 1 pitch)))
      (row (r + 2) _ (omega (arith, add-mul r 2 pitch)))
      (row (r + 3) _ (omega (arith, add-mul r 3 pitch)))
      (row (r + 4) _ (omega (arith, add-mul r 4 pitch)))
      (row (r + 5) _ (omega (arith, add-mul r 5 pitch)))
    where
      row : (q i : ℕ) → i ≡ at + q * pitch + c + 2 * 1 → get_or src i 0 ≡ along (taps_of set 0) src at pitch q c
      row q i ei =
          ap (λ (k : ℕ). get_or src k 0) ei
          ∙ sym (step-zero set _ _ (get_or src (at + q * pitch + c + 2 * 1) 0) _ _ _ (omega (arith, bytes (at + q * pitch + c + 2 * 1))))

  pub down_sample : ((i : ℕ) → get_or src i 0 < 256) → (ts : List ℤ) (my r c : ℕ) → ts ≡ taps_of set my
      → step_at ts src (at + 2 + r * pitch + c) pitch ≡ window_sample set src at pitch 0 my r c
  unfolding window_sample
  down_sample bytes ts my r c e = ap₂ step e (down_six bytes r c)

  -- neither, from row 2, column 2 on
  pub middle_sample : ((i : ℕ) → get_or src i 0 < 256) → (r c : ℕ) → get_or src (at + 2 * pitch + 2 + r * pitch + c) 0 ≡ window_sample set src at pitch 0 0 r c
  middle_sample bytes r c =
      let i = at + 2 * pitch + r * pitch + c + 2 * 1 in
      ap (λ (k : ℕ). get_or src k 0) (omega arith)
      ∙ sym (step-zero set _ _ (get_or src i 0) _ _ _ (omega (arith, bytes i)))
      ∙ across_sample (taps_of set 0) 0 r c refl

  -- ---- the same of what is clipped: by the second step, where it has a fraction,
  pub two_clip : (tx ty : List ℤ) (mx my r c : ℕ) → tx ≡ taps_of set mx → ty ≡ taps_of set my → 1 ≤ my
      → step_clip ty (six_down (along tx src at pitch) r c) ≡ window_clip set src at pitch mx my r c
  unfolding window_clip
  two_clip tx ty mx zero r c ex ey h = absurd (omega arith)
  two_clip tx ty mx (suc my) r c ex ey h = ap₂ (λ (tx ty : List ℤ). step_clip ty (six_down (along tx src at pitch) r c)) ex ey

  -- by the first alone,
  pub across_clip : ((i : ℕ) → get_or src i 0 < 256) → (ts : List ℤ) (mx r c : ℕ) → ts ≡ taps_of set mx
      → clip_at ts src (at + 2 * pitch + r * pitch + c) 1 ≡ window_clip set src at pitch mx 0 r c
  unfolding window_clip
  across_clip bytes ts zero r c e =
      let i = at + 2 * pitch + r * pitch + c in
      ap (λ (ts : List ℤ). clip_at ts src i 1) e ∙ clip-zero set _ _ (get_or src (i + 2 * 1) 0) _ _ _ (omega (arith, bytes (i + 2 * 1)))
  across_clip bytes ts (suc mx) r c e = ap₂ (λ (ts : List ℤ) (i : ℕ). clip_at ts src i 1) e (omega (arith, add-mul r 2 pitch))

  -- by the second alone
  pub down_clip : ((i : ℕ) → get_or src i 0 < 256) → (ts : List ℤ) (my r c : ℕ) → ts ≡ taps_of set my
      → clip_at ts src (at + 2 + r * pitch + c) pitch ≡ window_clip set src at pitch 0 my r c
  unfolding window_clip
  down_clip bytes ts zero r c e =
      let i = at + 2 + r * pitch + c in
      ap (λ (ts : List ℤ). clip_at ts src i pitch) e ∙ clip-zero set _ _ (get_or src (i + 2 * pitch) 0) _ _ _ (omega (arith, bytes (i + 2 * pitch)))
  down_clip bytes ts (suc my) r c e = ap₂ step_clip e (down_six bytes r c)

  -- and in a window that begins k rows further down
  pub lower_clip : (k mx my r c : ℕ) → window_clip set src (at + k * pitch) pitch mx my r c ≡ window_clip set src at pitch mx my (k + r) c
  unfolding window_clip
  lower_clip k zero zero r c = refl
  lower_clip k (suc mx) zero r c = ap (λ (i : ℕ). clip_at (taps_of set (suc mx)) src i 1) (omega (arith, add-mul k (r + 2) pitch, ap (λ (j : ℕ). j * pitch) (further k r 2)))
    where
      further : (k r n : ℕ) → k + r + n ≡ k + (r + n)
      further k r n = omega arith
  lower_clip k mx (suc my) r c = ap (step_clip (taps_of set (suc my))) (lower_six k mx r c)

-- ---- two taps, from row 2, column 2 on
module _ (src : List ℕ) (at pitch : ℕ) (bytes : (i : ℕ) → get_or src i 0 < 256) where
  -- a horizontal step
  mix-along : (t : Taps) (mx : ℕ) → Middle t → signed_taps t ≡ taps_of Bilinear mx → (r c : ℕ)
      → mix_at t src (at + 2 * pitch + 2) pitch 1 r c ≡ along (taps_of Bilinear mx) src at pitch (r + 2) c
  mix-along t mx h e r c =
      ap₂ (λ (i j : ℕ). two_taps t (get_or src i 0) (get_or src j 0)) (omega (arith, add-mul r 2 pitch)) (omega (arith, add-mul r 2 pitch))
      ∙ two_taps_lem t h _ _ (get_or src (at + (r + 2) * pitch + c + 2 * 1) 0) (get_or src (at + (r + 2) * pitch + c + 3 * 1) 0) _ _
      (omega (arith, bytes (at + (r + 2) * pitch + c + 2 * 1))) (omega (arith, bytes (at + (r + 2) * pitch + c + 3 * 1)))
      ∙ ap (λ (ts : List ℤ). along ts src at pitch (r + 2) c) e

  pub mix_across_sample : (t : Taps) (mx : ℕ) → Middle t → signed_taps t ≡ taps_of Bilinear mx → (r c : ℕ)
      → mix_at t src (at + 2 * pitch + 2) pitch 1 r c ≡ window_sample Bilinear src at pitch mx 0 r c
  unfolding window_sample
  mix_across_sample t mx h e r c =
      mix-along t mx h e r c ∙ sym (step-zero Bilinear _ _ (along (taps_of Bilinear mx) src at pitch (r + 2) c) _ _ _ (step_le _ _))

  pub mix_down_sample : (t : Taps) (my : ℕ) → Middle t → signed_taps t ≡ taps_of Bilinear my → (r c : ℕ)
      → mix_at t src (at + 2 * pitch + 2) pitch pitch r c ≡ window_sample Bilinear src at pitch 0 my r c
  mix_down_sample t my h e r c =
      let up : at + 2 * pitch + 2 + r * pitch + c ≡ at + 2 + r * pitch + c + 2 * pitch = omega arith in
      let low : at + 2 * pitch + 2 + r * pitch + c + pitch ≡ at + 2 + r * pitch + c + 3 * pitch = omega arith in
      ap₂ (λ (i j : ℕ). two_taps t (get_or src i 0) (get_or src j 0)) up low
      ∙ two_taps_lem t h _ _ (get_or src (at + 2 + r * pitch + c + 2 * pitch) 0) (get_or src (at + 2 + r * pitch + c + 3 * pitch) 0) _ _
      (omega (arith, bytes (at + 2 + r * pitch + c + 2 * pitch))) (omega (arith, bytes (at + 2 + r * pitch + c + 3 * pitch)))
      ∙ down_sample Bilinear src at pitch bytes (signed_taps t) my r c e

  -- both steps
  pub mixed_sample : (tx ty : Taps) (mx my : ℕ) → Middle tx → Middle ty → signed_taps tx ≡ taps_of Bilinear mx → signed_taps ty ≡ taps_of Bilinear my → (r c : ℕ)
      → two_taps ty (mix_at tx src (at + 2 * pitch + 2) pitch 1 r c) (mix_at tx src (at + 2 * pitch + 2) pitch 1 (r + 1) c)
      ≡ window_sample Bilinear src at pitch mx my r c
  unfolding window_sample
  mixed_sample tx ty mx my hx hy ex ey r c =
      ap₂ (two_taps ty) (mix-along tx mx hx ex r c) (mix-along tx mx hx ex (r + 1) c ∙ ap (λ (q : ℕ). along (taps_of Bilinear mx) src at pitch q c) (omega arith))
      ∙ two_taps_lem ty hy _ _ (along (taps_of Bilinear mx) src at pitch (r + 2) c) (along (taps_of Bilinear mx) src at pitch (r + 3) c) _ _ (step_le _ _) (step_le _ _)
      ∙ ap (λ (ts : List ℤ). over ts (along (taps_of Bilinear mx) src at pitch) r c) ey
