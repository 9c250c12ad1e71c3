-- The sum in sixteen bits, clamped.
use Rattle.std.proofs.Common.{◌≡◌, ap, ◌∙◌, min, arith, ℤ, pos, negsuc, nat_abs, ◌+ℤ◌, w16}
use Rattle.std.specs.Int.{int_min, int_max}
use Rattle.signed.specs.Int.{up, int}
use Rattle.signed.specs.Held.{Held, par_in, size-within, nat_at, got, add}
use Rattle.rfc6386.specs.Filter.{clamp255}
use Rattle.residue.proofs.Ranges.{clamped_from_0}
use Rattle.residue.proofs.adding.sum.Goals as goal

clamped : (z : ℤ) → min 255 (up z) ≡ clamp255 z
unfolding clamp255
clamped (pos a) = omega int
clamped (negsuc a) = omega int

pub returns : goal.returns
returns c =
    let z = pos c.args.p +ℤ c.args.x in
    let total : Held w16 z 32767 32512 = add (nat_at c.args.p 255 (omega (arith, c.ranges.p.fits)) tt) (par_in c.ranges.x (size-within c.requires)) tt in
    let s = got w16 c.clamp.result c.clamp.type_inv in
    ap nat_abs (s.is ∙ c.clamp.ensures.value ∙ ap (λ (y : ℤ). int_max (pos 0) (int_min y (pos 255))) total.is ∙ clamped_from_0 255 z) ∙ clamped z
