-- A bit of the result is 0 where it is 0 in both.
use Rattle.std.proofs.Common.{◌≡◌, sym, ap, ap₂, ◌∙◌, ℕ, arith, ℤ, pos, w16, Fits, to_z, of_z, bit_or, to_z-of_z}
use lib.Bits.{or_add_and, and_le_l, and_le_r, or_lt}
use mir.Val.{SFits}
use mir.Facts.{of_z-to_z, Fits-of_z}
use Rattle.residue.proofs.short.either.Goals as goal

both : (a b : ℕ) → bit_or a b ≡ 0 → (a ≡ 0) × (b ≡ 0)
both a b e = omega (arith, or_add_and a b, and_le_l a b, and_le_r a b)

fits : (a b : ℕ) → Fits w16 a → Fits w16 b → Fits w16 (bit_or a b)
fits a b f g = record { fits = or_lt 16 a b f.fits g.fits }

back : {z : ℤ} → SFits w16 z → of_z w16 z ≡ 0 → z ≡ pos 0
back f e = sym (to_z-of_z f) ∙ ap (to_z w16) e

module _ {a b : ℤ} (f : SFits w16 a) (g : SFits w16 b) where
  zeros : to_z w16 (bit_or (of_z w16 a) (of_z w16 b)) ≡ pos 0 → (a ≡ pos 0) × (b ≡ pos 0)
  zeros e =
      let n : bit_or (of_z w16 a) (of_z w16 b) ≡ 0 = sym (of_z-to_z (fits (of_z w16 a) (of_z w16 b) (Fits-of_z f) (Fits-of_z g))) ∙ ap (of_z w16) e in
      let h = both (of_z w16 a) (of_z w16 b) n in
      (back f h.0, back g h.1)

pub returns : goal.returns
returns c = (zeros c.ranges.a c.ranges.b, λ h. ap₂ (λ (x y : ℤ). to_z w16 (bit_or (of_z w16 x) (of_z w16 y))) h.0 h.1)
