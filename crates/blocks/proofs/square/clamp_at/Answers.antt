-- `square::clamp_at` meets its contract: the sum is exact, and the nearest place inside is a natural number.
use Rattle.std.proofs.Common.{◌≡◌, Bool, true, false, cond, refl, ap, ap₂, ◌∙◌, ℕ, ◌-◌, ◌≤◌, min, ltb, arith, to_z-of_z}
use borrow.Author.Tests.{ltb-true, ltb-false}
use lib.IntN.{ℤ, pos, negsuc, nat_abs, ◌+ℤ◌, ◌-ℤ◌}
use mir.Syntax.{w64}
use Rattle.std.specs.Int.{int_max, int_min}
use Rattle.signed.specs.Int.{int, diff, eq_by}
use Rattle.signed.specs.Held.{Held, par_in, nat_at, lit, add, sub}
use Rattle.rfc6386.specs.Number.{clamped}
use Rattle.rfc6386.proofs.Laws.Vectors.{clamped-is}
use Rattle.blocks.proofs.square.clamp_at.Goals as goal

least : (a b : ℕ) (t : Bool) → ltb b a ≡ t → cond t (pos b) (pos a) ≡ pos (min a b)
least a b true e = ap pos (omega (arith, ltb-true b a e))
least a b false e = ap pos (omega (arith, ltb-false b a e))

not_below : (m : ℕ) (t : Bool) → ltb m 0 ≡ t → cond t (pos 0) (pos m) ≡ pos m
not_below m true e = absurd (omega (arith, ltb-true m 0 e))
not_below m false e = refl

nearest : (z : ℤ) (n : ℕ) → int_max (pos 0) (int_min z (pos (n - 1))) ≡ pos (clamped z n)
nearest (pos a) n = ap (int_max (pos 0)) (least a (n - 1) _ refl) ∙ not_below (min a (n - 1)) _ refl
nearest (negsuc a) n = refl

last : (n : ℕ) → 1 ≤ n → pos n -ℤ pos 1 ≡ pos (n - 1)
last n h = eq_by _ _ (omega (int, diff (pos n) (pos 1)))

pub returns : goal.returns
returns c =
    let a = c.args in
    let x : Held w64 (a.src +ℤ pos a.k) 1048597 1048576 = add (par_in c.ranges.src c.requires.near) (nat_at a.k 21 c.requires.k_bound tt) tt in
    let m : Held w64 (pos a.size -ℤ pos 1) 16384 1 = sub (nat_at a.size 16384 c.requires.le_size.1 tt) (lit 1 tt) tt in
    let e = c.clamp.ensures.value ∙ ap₂ (λ (x m : ℤ). int_max (pos 0) (int_min x m)) x.is (m.is ∙ last a.size c.requires.le_size.0) ∙ nearest _ a.size in
    let r = ap nat_abs (to_z-of_z {w = w64} (record { sfits = c.clamp.type_inv }) ∙ e) in
    (r, omega (arith, r, clamped-is (a.src +ℤ pos a.k) a.size, c.requires.le_size.0))
