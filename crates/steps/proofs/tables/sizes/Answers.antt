-- A row's taps have the signs of their places, and their sizes are bytes.
use Rattle.std.proofs.Common.{◌≡◌, ap, ◌∙◌, List, ℕ, ◌≤◌, arith, get_or, ℤ, pos, ◌-ℤ◌, Fits, w8, w32}
use Rattle.std.specs.Prelude.{nat_abs, T}
use Rattle.std.specs.Int.Signed.{non_neg}
use Rattle.signed.specs.Int.{int, neg, diff, nat_abs_is, one_side}
use Rattle.signed.specs.Held.{Held, Within, par_in, fits_in, lit, sub, nat, nat_need}
use Rattle.rfc6386.specs.Filter.{less}
use Rattle.rfc6386.specs.Taps.{Row, signed, sizes_of}
use Rattle.steps.proofs.tables.sizes.Goals as goal

abbrev tap : List ℤ → ℕ → ℤ
tap row i = get_or row i (pos 0)

-- a tap that is added, cast to a byte
module _ {z : ℤ} (h : Within z 255 0) where
  abbrev plus : Held w32 z 255 0
  plus = par_in (fits_in h tt) h

  plus-need : T (non_neg plus.val) × Fits w8 (nat_abs plus.val)
  plus-need = nat_need plus (omega arith) tt

-- one that is subtracted, turned and cast to a byte
module _ {z : ℤ} (h : Within z 0 255) where
  abbrev under : Held w32 z 0 255
  under = par_in (fits_in h tt) h

  abbrev minus : Held w32 (pos 0 -ℤ z) 255 0
  minus = sub (lit 0 tt) under tt

  minus-need : T (non_neg minus.val) × Fits w8 (nat_abs minus.val)
  minus-need = let w = minus.within in nat_need minus (omega arith) tt

  minus-size : nat_abs minus.val ≡ nat_abs z
  minus-size = nat minus ∙ omega (int, nat_abs_is z, nat_abs_is (pos 0 -ℤ z), diff (pos 0) z, one_side (pos 0 -ℤ z))

record Signs (row : List ℤ) : Type 0 where
  a : Within (tap row 0) 255 0
  b : Within (tap row 1) 0 255
  c : Within (tap row 2) 255 0
  d : Within (tap row 3) 255 0
  e : Within (tap row 4) 0 255
  f : Within (tap row 5) 255 0

signs : {row : List ℤ} → Row row → Signs row
unfolding signed
signs {row} R =
    record {
      a = above 0 (at 0) (omega arith);
      b = below 1 (at 1) (omega arith);
      c = above 2 (at 2) (omega arith);
      d = above 3 (at 3) (omega arith);
      e = below 4 (at 4) (omega arith);
      f = above 5 (at 5) (omega arith);
    }
  where
    at : (i : ℕ) → tap row i ≡ tap (signed (sizes_of row)) i
    at i = ap (λ (l : List ℤ). tap l i) R.signs

    above : (i : ℕ) → tap row i ≡ pos (nat_abs (tap row i)) → nat_abs (tap row i) ≤ 255 → Within (tap row i) 255 0
    above i e h = omega (int, nat_abs_is (tap row i), one_side (tap row i))

    below : (i : ℕ) → tap row i ≡ less (nat_abs (tap row i)) → nat_abs (tap row i) ≤ 255 → Within (tap row i) 0 255
    below i e h = omega (int, nat_abs_is (tap row i), one_side (tap row i), neg (pos (nat_abs (tap row i))))

sized : {row : List ℤ} → Row row → {a b c d e f : ℕ} → a ≡ nat_abs (tap row 0) → b ≡ nat_abs (tap row 1) → c ≡ nat_abs (tap row 2) → d ≡ nat_abs (tap row 3)
    → e ≡ nat_abs (tap row 4) → f ≡ nat_abs (tap row 5) → signed (record { a = a; b = b; c = c; d = d; e = e; f = f }) ≡ row
unfolding signed
sized R a b c d e f = cc R.signs

pub overflow_cast-result : goal.overflow_cast-result
overflow_cast-result c = plus-need (signs c.requires).a

pub overflow_cast-result-2 : goal.overflow_cast-result-2
overflow_cast-result-2 c = minus-need (signs c.requires).b

pub overflow_cast-result-3 : goal.overflow_cast-result-3
overflow_cast-result-3 c = plus-need (signs c.requires).c

pub overflow_cast-result-4 : goal.overflow_cast-result-4
overflow_cast-result-4 c = plus-need (signs c.requires).d

pub overflow_cast-result-5 : goal.overflow_cast-result-5
overflow_cast-result-5 c = minus-need (signs c.requires).e

pub overflow_cast-result-6 : goal.overflow_cast-result-6
overflow_cast-result-6 c = plus-need (signs c.requires).f

pub invariant_of-result-clause-plus : goal.invariant_of-result-clause-plus
invariant_of-result-clause-plus c =
    let R = c.requires in
    let S = signs R in
    omega (arith, nat (plus S.a), nat (plus S.c), nat (plus S.d), nat (plus S.f), R.small)

pub invariant_of-result-clause-minus : goal.invariant_of-result-clause-minus
invariant_of-result-clause-minus c =
    let R = c.requires in
    let S = signs R in
    omega (arith, minus-size S.b, minus-size S.e, R.small, R.balanced)

pub returns : goal.returns
returns c =
    let R = c.requires in
    let S = signs R in
    sized R (nat (plus S.a)) (minus-size S.b) (nat (plus S.c)) (nat (plus S.d)) (minus-size S.e) (nat (plus S.f))
