-- What is clamped is the number of the definition, and so is what is looked at for the tally.
use Rattle.std.proofs.Common.{◌≡◌, refl, sym, ap, ap₂, ◌∙◌, [], ◌∷◌, ℕ, ◌+◌, ◌-◌, ◌*◌, ◌/◌, ◌<◌, ◌≤◌, ◌^◌, le_refl, arith, ℤ, pos, negsuc, ◌-ℤ◌, w16}
use Rattle.std.proofs.lemmas.Int.{ints, clamps}
use Rattle.std.specs.Int.{int_max, int_min}
use Rattle.std.specs.Int.Signed.{mag}
use Rattle.signed.specs.Held.{Held, got, lit, nat_at, sub, better, named, nat_need, nat}
use Rattle.rfc6386.specs.Filter.{clamp255, rounded, step}
use Rattle.rfc6386.specs.Clips.{clip_of, step_clip}
use Rattle.rfc6386.proofs.Laws.Steps.{plus_of, minus_of, step_le}
use Rattle.steps.specs.Tally.{part}
use Rattle.steps.specs.Taps.{sizes_of, signed_taps}
use Rattle.steps.proofs.Laws.Counting.{rounded_is}
use Rattle.steps.specs.declared.taps.Taps.{Taps}
use Rattle.steps.proofs.step.counted.Goals as goal

-- what `clamp` leaves
clamp_is : (z : ℤ) → int_max (pos 0) (int_min z (pos 255)) ≡ pos (clamp255 z)
unfolding clamp255
clamp_is (pos n) = omega (arith, ints, clamps)
clamp_is (negsuc n) = omega (arith, ints, clamps)

module _ (t : Taps) (a b c d e f : ℕ) where
  -- the two sums, what is added 8192 too high
  record Sums (more less : ℕ) : Type 0 where
    added : more ≡ plus_of (sizes_of t) a b c d e f + 8192
    taken : less ≡ minus_of (sizes_of t) a b c d e f
    most : more ≤ 49056
    under : less ≤ 8160

  sums : {p q r s u v : ℕ} → (p ≡ t.a * a) × (p ≤ 255 * t.a) → (q ≡ t.c * c) × (q ≤ 255 * t.c) → (r ≡ t.d * d) × (r ≤ 255 * t.d)
      → (s ≡ t.f * f) × (s ≤ 255 * t.f) → (u ≡ t.b * b) × (u ≤ 255 * t.b) → (v ≡ t.e * e) × (v ≤ 255 * t.e) → Sums (p + q + r + s + 8256) (u + v)
  sums P Q R T U V = record { added = omega arith; taken = omega arith; most = omega (arith, t.plus); under = omega (arith, t.minus) }

  -- the number of the definition, and what it is clamped to
  abbrev number : ℤ
  number = rounded (signed_taps t) (a ∷ b ∷ c ∷ d ∷ e ∷ f ∷ [])

  byte : clamp255 number ≤ 255
  unfolding step
  byte = step_le (signed_taps t) (a ∷ b ∷ c ∷ d ∷ e ∷ f ∷ [])

  module _ {more less : ℕ} (S : Sums more less) where
    -- what is clamped
    abbrev held : Held w16 (pos ((more - less) / 128) -ℤ pos 64) 383 64
    held = sub (nat_at ((more - less) / 128) 383 (omega (arith, S.most)) tt) (lit 64 tt) tt

    is_number : pos ((more - less) / 128) -ℤ pos 64 ≡ number
    is_number =
        ap₂ (λ (p n : ℕ). pos ((p - n) / 128) -ℤ pos 64) S.added S.taken
        ∙ sym (rounded_is (sizes_of t) a b c d e f (omega (arith, S.taken, S.under)))

    -- and what `clamped` makes of it
    abbrev given : (z : ℤ) → mag z < 2 ^ 15 → z ≡ pos (clamp255 held.val) → Held w16 (pos (clamp255 number)) 255 0
    given z h e =
        better (named (got w16 z h) (e ∙ ap (λ (z : ℤ). pos (clamp255 z)) (held.is ∙ is_number))) (record { up_le = byte; dn_le = le_refl 0 })

pub overflow_cast-result : goal.overflow_cast-result
overflow_cast-result c =
    let a = c.args in
    let S = sums a.t a.a a.b a.c a.d a.e a.f c.times.ensures c.times-2.ensures c.times-3.ensures c.times-4.ensures c.times-5.ensures c.times-6.ensures in
    nat_need (given a.t a.a a.b a.c a.d a.e a.f S c.clamp.result c.clamp.type_inv (c.clamp.ensures.value ∙ clamp_is _)) refl tt

pub returns : goal.returns
unfolding step step_clip
returns c =
    let a = c.args in
    let S = sums a.t a.a a.b a.c a.d a.e a.f c.times.ensures c.times-2.ensures c.times-3.ensures c.times-4.ensures c.times-5.ensures c.times-6.ensures in
    record {
      sample_value = nat (given a.t a.a a.b a.c a.d a.e a.f S c.clamp.result c.clamp.type_inv (c.clamp.ensures.value ∙ clamp_is _));
      part_value = c.part_of.ensures ∙ ap (λ (z : ℤ). part (clip_of z)) ((held a.t a.a a.b a.c a.d a.e a.f S).is ∙ is_number a.t a.a a.b a.c a.d a.e a.f S);
    }
