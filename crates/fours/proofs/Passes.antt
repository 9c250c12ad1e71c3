-- What the passes over a window leave, at any width w: in rows of s samples, from column x on. Assumes nothing.
use mathlib.Core.Path.{◌≡◌, refl, sym, ap, ap₂, ◌∙◌}
use mathlib.Core.Bool.{Bool, cond}
use mathlib.Core.List.{List}
use Prim.Native.Nat.{ℕ, ◌+◌, ◌-◌, ◌*◌, ◌<◌, ◌≤◌}
use native.Mathlib.Nat.{add-mul}
use native.Mathlib.Omega.{arith}
use lib.IntN.{ℤ}
use lib.ListN.{length, get_or}
use Rattle.rfc6386.specs.Filter.{taps_of}
use Rattle.rfc6386.specs.Picture.{step_at, halo_block}
use Rattle.rfc6386.proofs.Laws.Raster.{length-tab, get_or-tab, row_fits, within-true}
use Rattle.rfc6386.proofs.Laws.Steps.{step-zero}
use Rattle.rfc6386.specs.declared.FilterSet.{FilterSet}
use Rattle.rfc6386.specs.declared.FilterSet.TheVariants.{Bilinear}
use Rattle.steps.specs.declared.taps.Taps.{Taps}
use Rattle.steps.specs.Taps.{signed_taps, Middle, two_taps}
use Rattle.steps.specs.Rows.{laid, Low}
use Rattle.steps.specs.Window.{window_list, along, window_sample, mix_at}
use Rattle.steps.proofs.Laws.Windows.{raster_of, window_sample_lem}
use Rattle.steps.proofs.Laws.Bytes.{a_byte}
use Rattle.steps.proofs.Laws.Samples.{Has, stacked, two_sample, across_sample, mixed_sample}
use Rattle.fours.proofs.Gathering.{Copies, Fit, Gathered, gathered-step, gathered_at}

-- ---- lines
-- what the code leaves: n samples laid from the start on
pub laid_at : (d : List ℕ) (n : ℕ) (f : ℕ → ℕ) {z : List ℕ} → z ≡ laid d 0 n f → n ≤ length d → (i : ℕ) → i < n → get_or z i 0 ≡ f i
unfolding laid
laid_at d n f e h i l =
    ap (λ (k : List ℕ). get_or k i 0) e
    ∙ get_or-tab _ _ i 0 (omega arith)
    ∙ ap (λ (b : Bool). cond b (f (i - 0)) (get_or d i 0)) (within-true 0 n i (omega arith) (omega arith))
    ∙ ap f (omega arith)

pub laid_size : (d : List ℕ) (n : ℕ) (f : ℕ → ℕ) {z : List ℕ} → z ≡ laid d 0 n f → length z ≡ length d
unfolding laid
laid_size d n f e = ap length e ∙ length-tab _ _

-- z begins with n steps over src
pub record Line (ts : List ℤ) (src : List ℕ) (gap n : ℕ) (z : List ℕ) : Type 0 where
  pub each : (i : ℕ) → i < n → get_or z i 0 ≡ step_at ts src i gap

pub line_of : (ts : List ℤ) (src : List ℕ) (gap n : ℕ) (d z : List ℕ) → n ≤ length d → z ≡ laid d 0 n (λ i. step_at ts src (0 + i) gap) → Line ts src gap n z
line_of ts src gap n d z h e =
    record { each = λ i l. laid_at d n (λ i. step_at ts src (0 + i) gap) e h i l ∙ ap (λ (k : ℕ). step_at ts src k gap) (omega arith) }

-- what a first pass leaves in sixteen bits are bytes
pub low_line : {ts : List ℤ} {src : List ℕ} {gap n : ℕ} {z : List ℕ} → Line ts src gap n z → length z ≤ n → Low z
low_line {ts} L h = record { each = λ i l. a_byte ts _ (L.each i (omega arith)) }

-- and with n steps of two taps
pub record Mixed (t : Taps) (src : List ℕ) (gap n : ℕ) (z : List ℕ) : Type 0 where
  pub each : (i : ℕ) → i < n → get_or z i 0 ≡ two_taps t (get_or src i 0) (get_or src (i + gap) 0)

pub mixed_of : (t : Taps) (src : List ℕ) (gap n : ℕ) (d z : List ℕ) → n ≤ length d
    → z ≡ laid d 0 n (λ i. two_taps t (get_or src (0 + i) 0) (get_or src (0 + i + gap) 0)) → Mixed t src gap n z
mixed_of t src gap n d z h e =
    record {
      each = λ i l.
          laid_at d n (λ i. two_taps t (get_or src (0 + i) 0) (get_or src (0 + i + gap) 0)) e h i l
          ∙ ap₂ (λ (p q : ℕ). two_taps t (get_or src p 0) (get_or src q 0)) (omega arith) (omega arith);
    }

-- ---- a place in a list of rows lies in a line of all of them
in_rows : (s x w rows r c : ℕ) → x + w ≤ s → r < rows → c < w → r * s + (x + c) < rows * s
in_rows s x w rows r c h hr hc = omega (arith, row_fits r rows s hr)

-- ---- a first pass over gathered copies
module _ {g : Copies} {src : List ℕ} {at pitch : ℕ} {a : List ℕ} {k : ℕ} (G : Gathered g src at pitch a k) (F : Fit g) where
  place : (r c : ℕ) → r < g.rows → c < g.w → r * g.s + (g.x + c) < g.group * g.s
  place r c hr hc = in_rows g.s g.x g.w g.group r c F.across (omega (arith, F.down)) hc

  pub first : 6 ≤ k → (ts : List ℤ) {z : List ℕ} → Line ts a (g.group * g.s) (g.group * g.s) z
      → Has g.s g.x g.w g.rows z (along ts src at pitch)
  first hk ts L r c hr hc = L.each (r * g.s + (g.x + c)) (place r c hr hc) ∙ gathered-step G hk ts r c hr hc

  -- with two taps
  pub first_mixed : 2 ≤ k → (t : Taps) {z : List ℕ} → Mixed t a (g.group * g.s) (g.group * g.s) z
      → Has g.s g.x g.w g.rows z (mix_at t src at pitch 1)
  first_mixed hk t M r c hr hc =
      M.each (r * g.s + (g.x + c)) (place r c hr hc)
      ∙ ap₂ (two_taps t)
      (gathered_at G 0 r c _ _ (omega arith) hr hc (omega arith) (omega arith))
      (gathered_at G 1 r c _ _ (omega arith) hr hc (omega arith) (omega arith))

  -- one copy alone
  pub copied : 1 ≤ k → Has g.s g.x g.w g.rows a (λ r c. get_or src (at + r * pitch + c) 0)
  copied hk r c hr hc = gathered_at G 0 r c _ _ (omega arith) hr hc (omega arith) (omega arith)

-- ---- what the passes over a window leave of it: so many rows of w samples
pub record Made (set : FilterSet) (src : List ℕ) (at pitch mx my s x w rows : ℕ) (o : List ℕ) : Type 0 where
  pub has : Has s x w rows o (window_sample set src at pitch mx my)

module _ (set : FilterSet) (src : List ℕ) (at pitch s x w rows : ℕ) (across : x + w ≤ s) where
  -- the second pass over rows that the first left
  pub second : (tx ty : List ℤ) (mx my : ℕ) → tx ≡ taps_of set mx → ty ≡ taps_of set my → {z o : List ℕ} → Has s x w (rows + 5) z (along tx src at pitch)
      → Line ty z s (rows * s) o → Made set src at pitch mx my s x w rows o
  second tx ty mx my ex ey {z} H L =
      record {
        has = λ r c hr hc.
            L.each (r * s + (x + c)) (in_rows s x w rows r c across hr hc)
            ∙ stacked s x w rows ty (along tx src at pitch) z H r c _ hr hc refl
            ∙ two_sample set src at pitch tx ty mx my r c ex ey;
      }

  -- the first pass alone, from the window's row 2 on
  pub first_alone : (tx : List ℤ) (mx : ℕ) → tx ≡ taps_of set mx → (o : List ℕ) → Has s x w rows o (along tx src (at + 2 * pitch) pitch)
      → Made set src at pitch mx 0 s x w rows o
  first_alone tx mx ex o H = record { has = λ r c hr hc. H r c hr hc ∙ across_sample set src at pitch tx mx r c ex }

  -- the second pass alone, from the window's column 2 on
  pub second_alone : ((i : ℕ) → get_or src i 0 < 256) → (ty : List ℤ) (my : ℕ) → ty ≡ taps_of set my → {z o : List ℕ}
      → Has s x w (rows + 5) z (λ r c. get_or src (at + 2 + r * pitch + c) 0) → Line ty z s (rows * s) o → Made set src at pitch 0 my s x w rows o
  second_alone bytes ty my ey H L =
      second (taps_of set 0) ty 0 my refl ey
      (λ q c hq hc.
      H q c hq hc
      ∙ ap (λ (i : ℕ). get_or src i 0) (omega arith)
      ∙ sym (step-zero set _ _ (get_or src (at + q * pitch + c + 2 * 1) 0) _ _ _ (omega (arith, bytes (at + q * pitch + c + 2 * 1)))))
      L

-- both passes with two taps, from the window's row 2, column 2 on
module _ (src : List ℕ) (at pitch s x w rows : ℕ) (across : x + w ≤ s) (bytes : (i : ℕ) → get_or src i 0 < 256) where
  pub both_mixed : (tx ty : Taps) (mx my : ℕ) → Middle tx → Middle ty
      → signed_taps tx ≡ taps_of Bilinear mx → signed_taps ty ≡ taps_of Bilinear my → {z o : List ℕ}
      → Has s x w (rows + 1) z (mix_at tx src (at + 2 * pitch + 2) pitch 1)
      → Mixed ty z s (rows * s) o → Made Bilinear src at pitch mx my s x w rows o
  both_mixed tx ty mx my hx hy ex ey {z} H M =
      record {
        has = λ r c hr hc.
            M.each (r * s + (x + c)) (in_rows s x w rows r c across hr hc)
            ∙ ap₂ (two_taps ty) (H r c (omega arith) hc) (ap (λ (i : ℕ). get_or z i 0) (omega (arith, add-mul r 1 s)) ∙ H (r + 1) c (omega arith) hc)
            ∙ mixed_sample src at pitch bytes tx ty mx my hx hy ex ey r c;
      }

-- ---- what has all its samples is the block
pub block_of : {w : ℕ} {set : FilterSet} {src : List ℕ} {at pitch mx my : ℕ} {o : List ℕ} → length o ≡ w * w → Made set src at pitch mx my w 0 w w o
    → o ≡ halo_block w set (window_list (w + 5) src at pitch) mx my
unfolding halo_block
block_of {w} {set} {src} {at} {pitch} {mx} {my} {o} e M =
    raster_of w w _ o e (λ r c hr hc. ap (λ (i : ℕ). get_or o i 0) (omega arith) ∙ M.has r c hr hc ∙ window_sample_lem w set src at pitch mx my r c hr hc)
