-- Bilinear rows of the table as two taps. Assumes nothing.
use Rattle.std.specs.Prelude.{◌≡◌, refl, [], ◌∷◌, ℕ, zero, suc, ◌+◌, ◌*◌, ◌<◌, ◌≤◌, nat_abs}
use Rattle.std.proofs.Common.{sym, ap, ap₂, ◌∙◌, subst, mul-le-mul_left, arith}
use Rattle.rfc6386.specs.Filter.{less, taps_of, step}
use Rattle.rfc6386.specs.Taps as taps
use Rattle.rfc6386.specs.Taps.{Sizes, signed, added, taken}
use Rattle.rfc6386.proofs.Laws.Steps.{below, row_of, step_is}
use Rattle.rfc6386.specs.declared.FilterSet.TheVariants.{Bilinear}
use Rattle.steps.specs.Taps.{sizes_of, signed_taps, Middle, two_taps}
use Rattle.steps.specs.declared.taps.Taps.{Taps}

-- ---- a step of the two middle taps is one of all six, where the others are 0
pub two_taps_lem : (t : Taps) → Middle t → (a b c d e f : ℕ) → c ≤ 255 → d ≤ 255 → two_taps t c d ≡ step (signed_taps t) (a ∷ b ∷ c ∷ d ∷ e ∷ f ∷ [])
two_taps_lem t M a b c d e f hc hd =
    let at : t.a ≡ 0 = omega (arith, M.outer) in
    let bt : t.b ≡ 0 = omega (arith, M.outer) in
    let et : t.e ≡ 0 = omega (arith, M.outer) in
    let ft : t.f ≡ 0 = omega (arith, M.outer) in
    sym
    (step_is (sizes_of t) a b c d e f
    ∙ omega (
      arith,
      ap (λ (n : ℕ). n * a) at,
      ap (λ (n : ℕ). n * b) bt,
      ap (λ (n : ℕ). n * e) et,
      ap (λ (n : ℕ). n * f) ft,
      mul-le-mul_left t.c hc,
      mul-le-mul_left t.d hd,
      M.inner,
    ))

-- rows of the bilinear table are such taps
size_less : (n : ℕ) → nat_abs (less n) ≡ n
size_less zero = refl
size_less (suc n) = refl

sizes_are : (t : Taps) → taps.sizes_of (signed_taps t) ≡ sizes_of t
unfolding signed
sizes_are t = ap₂ (λ (b e : ℕ). record { a = t.a; b = b; c = t.c; d = t.d; e = e; f = t.f }) (size_less t.b) (size_less t.e)

abbrev Outer : Sizes → Type 0
Outer s = s.a + s.b + s.e + s.f ≡ 0

pub middle : (k : ℕ) (t : Taps) → k < 8 → signed_taps t ≡ taps_of Bilinear k → Middle t
unfolding taps_of
middle k t h e =
    let q : taps.sizes_of (taps_of Bilinear k) ≡ sizes_of t = ap taps.sizes_of (sym e) ∙ sizes_are t in
    let o = below (λ k. Outer (taps.sizes_of (taps_of Bilinear k))) 8 (refl, (refl, (refl, (refl, (refl, (refl, (refl, (refl, tt)))))))) k h in
    let i = subst (λ (s : Sizes). added s ≡ 128 + taken s) q (row_of Bilinear k h).balanced in
    let p = subst Outer q o in
    record { outer = p; inner = omega arith }
