-- What the last step of a sample computes: its number before it is clamped, 64 too high, and its part of a tally. Assumes nothing.
use Rattle.std.specs.Prelude.{◌≡◌, refl, Bool, true, false, cond, [], ◌∷◌, ℕ, ◌+◌, ◌-◌, ◌/◌, ◌≤◌, ltb, ℤ, pos, negsuc, ◌-ℤ◌}
use Rattle.std.proofs.Common.{ap, arith, ltb-true, ltb-false, of_z}
use Rattle.std.specs.Int.Bits.{bit_and}
use Rattle.std.specs.Int.Signed.{shr_z}
use Rattle.std.specs.Int.{w16}
use Rattle.signed.specs.Int.{int, diff}
use Rattle.signed.specs.Held.{Within}
use Rattle.rfc6386.specs.Number.{floor_div}
use Rattle.rfc6386.specs.Filter.{rounded}
use Rattle.rfc6386.specs.Clips.{clip_of}
use Rattle.rfc6386.specs.Taps.{Sizes, signed}
use Rattle.rfc6386.proofs.Laws.Steps.{Is, plus_of, minus_of, sum_is}
use Rattle.rfc6386.specs.declared.Clip.TheVariants.{High, None}
use Rattle.steps.specs.Tally.{part}

-- ---- the number that is clamped
lifted : (z : ℤ) {p n : ℕ} → Is z p n → n ≤ p + 8192 → floor_div z 128 ≡ pos ((p + 8192 - n) / 128) -ℤ pos 64
lifted (pos a) {p} {n} I h = omega (int, I.is, diff (pos ((p + 8192 - n) / 128)) (pos 64))
lifted (negsuc a) {p} {n} I h = omega (int, I.is, diff (pos ((p + 8192 - n) / 128)) (pos 64))

pub rounded_is : (t : Sizes) (a b c d e f : ℕ) → minus_of t a b c d e f ≤ plus_of t a b c d e f + 8192
    → rounded (signed t) (a ∷ b ∷ c ∷ d ∷ e ∷ f ∷ []) ≡ pos ((plus_of t a b c d e f + 8192 - minus_of t a b c d e f) / 128) -ℤ pos 64
unfolding rounded
rounded_is t a b c d e f h = lifted _ (sum_is t a b c d e f) h

-- ---- its part of a tally, out of the bits of what it leaves over 256
pub part_is : (v : ℤ) → Within v 511 256 → bit_and (of_z w16 (shr_z v 256)) 513 ≡ part (clip_of v)
unfolding clip_of
part_is (pos n) h = go (ltb 255 n) refl
  where
    bits : ℤ → ℕ
    bits z = bit_and (of_z w16 z) 513

    go : (b : Bool) → ltb 255 n ≡ b → bits (pos (n / 256)) ≡ part (cond b High None)
    go true e = let q : n / 256 ≡ 1 = omega (arith, ltb-true 255 n e, h.up_le) in ap (λ (k : ℕ). bits (pos k)) q
    go false e = let q : n / 256 ≡ 0 = omega (arith, ltb-false 255 n e) in ap (λ (k : ℕ). bits (pos k)) q
part_is (negsuc a) h = let q : a / 256 ≡ 0 = omega (arith, h.dn_le) in ap (λ (k : ℕ). bit_and (of_z w16 (negsuc k)) 513) q
