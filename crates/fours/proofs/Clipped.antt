-- What the last pass over a window clips, at any width w: in rows of s samples, from column x on; and what its tally comes to. Assumes nothing.
use mathlib.Core.Path.{◌≡◌, refl, ap, ap₂, ◌∙◌}
use mathlib.Core.List.{List}
use Prim.Native.Nat.{ℕ, ◌+◌, ◌*◌, ◌<◌, ◌≤◌}
use native.Mathlib.Nat.{add-mul}
use native.Mathlib.Omega.{arith}
use lib.IntN.{ℤ}
use lib.ListN.{get_or}
use Rattle.rfc6386.specs.Filter.{taps_of}
use Rattle.rfc6386.specs.Picture.{six_at}
use Rattle.rfc6386.specs.Sums.{sum_to}
use Rattle.rfc6386.specs.Clips.{step_clip, clip_at, halo_clips}
use Rattle.rfc6386.proofs.Laws.Steps.{same_six}
use Rattle.rfc6386.specs.declared.FilterSet.{FilterSet}
use Rattle.steps.specs.Tally.{part, tally_of}
use Rattle.steps.specs.Window.{window_list, along, six_down, window_clip}
use Rattle.steps.proofs.Laws.Samples.{Has, stacked_six, two_clip, across_clip, down_clip}
use Rattle.steps.proofs.Laws.Tallies.{Says, says_rows, says_both, window_tally}
use Rattle.fours.proofs.Gathering.{Copies, Gathered, gathered_six}

module _ (set : FilterSet) (src : List ℕ) (at pitch : ℕ) where
  -- the second pass over rows that the first left
  pub second_clips : (s x w rows : ℕ) (tx ty : List ℤ) (mx my : ℕ) → tx ≡ taps_of set mx → ty ≡ taps_of set my → 1 ≤ my → (z : List ℕ)
      → Has s x w (rows + 5) z (along tx src at pitch) → Says s x w rows (λ i. clip_at ty z (0 + i) s) (window_clip set src at pitch mx my)
  second_clips s x w rows tx ty mx my ex ey h z H r c hr hc =
      ap (step_clip ty) (stacked_six s x w rows (along tx src at pitch) z H r c _ hr hc (omega arith))
      ∙ two_clip set src at pitch tx ty mx my r c ex ey h

  -- the first alone, from the window's row 2 on
  pub first_alone_clips : ((i : ℕ) → get_or src i 0 < 256) → (g : Copies) (ts : List ℤ) (mx : ℕ) → ts ≡ taps_of set mx → (a : List ℕ) {k : ℕ}
      → Gathered g src (at + 2 * pitch) pitch a k → 6 ≤ k
      → Says g.s g.x g.w g.rows (λ i. clip_at ts a (0 + i) (g.group * g.s)) (window_clip set src at pitch mx 0)
  first_alone_clips bytes g ts mx e a G hk r c hr hc =
      ap (step_clip ts) (gathered_six G hk r c _ hr hc (omega arith)) ∙ across_clip set src at pitch bytes ts mx r c e

  -- the second alone, from the window's column 2 on
  columns : (r c : ℕ) → six_down (λ r c. get_or src (at + 2 + r * pitch + c) 0) r c ≡ six_at src (at + 2 + r * pitch + c) pitch
  columns r c =
      same_six refl
      (row 1 _ (omega (arith, add-mul r 1 pitch))) (row 2 _ (omega (arith, add-mul r 2 pitch))) (row 3 _ (omega (arith, add-mul r 3 pitch)))
      (row 4 _ (omega (arith, add-mul r 4 pitch))) (row 5 _ (omega (arith, add-mul r 5 pitch)))
    where
      row : (k i : ℕ) → at + 2 + (r + k) * pitch + c ≡ i → get_or src (at + 2 + (r + k) * pitch + c) 0 ≡ get_or src i 0
      row k i e = ap (λ (i : ℕ). get_or src i 0) e

  pub second_alone_clips : ((i : ℕ) → get_or src i 0 < 256) → (s x w rows : ℕ) (ts : List ℤ) (my : ℕ) → ts ≡ taps_of set my → (z : List ℕ)
      → Has s x w (rows + 5) z (λ r c. get_or src (at + 2 + r * pitch + c) 0) → Says s x w rows (λ i. clip_at ts z (0 + i) s) (window_clip set src at pitch 0 my)
  second_alone_clips bytes s x w rows ts my e z H r c hr hc =
      ap (step_clip ts) (stacked_six s x w rows _ z H r c _ hr hc (omega arith) ∙ columns r c)
      ∙ down_clip set src at pitch bytes ts my r c e

-- ---- a line of steps that says what is clipped of a block has its tally
pub tally_of_lem : (w : ℕ) (set : FilterSet) (src : List ℕ) (at pitch mx my : ℕ) (ts : List ℤ) (z : List ℕ) (gap : ℕ) {tally : ℕ}
    → tally ≡ sum_to (w * w) (λ i. part (clip_at ts z (0 + i) gap)) → Says w 0 w w (λ i. clip_at ts z (0 + i) gap) (window_clip set src at pitch mx my)
    → tally ≡ tally_of (halo_clips w set (window_list (w + 5) src at pitch) mx my)
tally_of_lem w set src at pitch mx my ts z gap e S = e ∙ says_rows w w (λ i. clip_at ts z (0 + i) gap) _ S ∙ window_tally w set src at pitch mx my

-- and of two that stand side by side the sum of both
pub tallies_of : (w : ℕ) (set : FilterSet) (u : List ℕ) (au pu : ℕ) (v : List ℕ) (av pv mx my : ℕ) (ts : List ℤ) (z : List ℕ) (gap : ℕ) {tally : ℕ}
    → tally ≡ sum_to (w * (w + w)) (λ i. part (clip_at ts z (0 + i) gap))
    → Says (w + w) 0 w w (λ i. clip_at ts z (0 + i) gap) (window_clip set u au pu mx my) → Says (w + w) w w w (λ i. clip_at ts z (0 + i) gap) (window_clip set v av pv mx my)
    → tally ≡ tally_of (halo_clips w set (window_list (w + 5) u au pu) mx my) + tally_of (halo_clips w set (window_list (w + 5) v av pv) mx my)
tallies_of w set u au pu v av pv mx my ts z gap e S T =
    e ∙ says_both w w (λ i. clip_at ts z (0 + i) gap) _ _ S T ∙ ap₂ ◌+◌ (window_tally w set u au pu mx my) (window_tally w set v av pv mx my)
