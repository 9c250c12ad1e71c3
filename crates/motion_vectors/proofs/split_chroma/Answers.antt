-- The four doubled components, their sum, and what `avg` gives of it. Assumes nothing.
use Rattle.std.proofs.Common.{◌≡◌, ap, ◌∙◌, ℤ, pos, ◌+ℤ◌, ◌*ℤ◌, FitsSigned, w32}
use mir.Syntax.{w16}
use lib.Signed.{mag}
use mir.Val.{hbits}
use Prim.Native.Nat.{◌^◌, ◌<◌}
use Rattle.signed.specs.Held.{Held, par, full-range, mul-within, got, cast, add, named, better, cast_need, add_need, abs_need}
use Rattle.rfc6386.specs.Vector.{split_chroma}
use Rattle.motion_vectors.proofs.Laws.{back, averaged}
use Rattle.motion_vectors.proofs.split_chroma.Goals as goal

-- what `twice` gives, r, of x
abbrev two : {x : ℤ} → FitsSigned w16 x → (r : ℤ) → mag r < 2 ^ hbits w32 → r ≡ back x *ℤ pos 2 → Held w32 (x *ℤ pos 2) 65534 65536
two f r ok e = better (named (got w32 r ok) (e ∙ ap (λ (z : ℤ). z *ℤ pos 2) (par f).is)) (mul-within 2 (full-range f))

abbrev first : (c : goal.After-twice-4) → Held w32 (c.args.a *ℤ pos 2) 65534 65536
first c = two c.ranges.a c.twice.result c.twice.type_inv c.twice.ensures

abbrev second : (c : goal.After-twice-4) → Held w32 (c.args.b *ℤ pos 2) 65534 65536
second c = two c.ranges.b c.twice-2.result c.twice-2.type_inv c.twice-2.ensures

abbrev third : (c : goal.After-twice-4) → Held w32 (c.args.c *ℤ pos 2) 65534 65536
third c = two c.ranges.c c.twice-3.result c.twice-3.type_inv c.twice-3.ensures

abbrev fourth : (c : goal.After-twice-4) → Held w32 (c.args.d *ℤ pos 2) 65534 65536
fourth c = two c.ranges.d c.twice-4.result c.twice-4.type_inv c.twice-4.ensures

abbrev sum₃ : (c : goal.After-twice-4) → Held w32 (c.args.a *ℤ pos 2 +ℤ c.args.b *ℤ pos 2 +ℤ c.args.c *ℤ pos 2) 196602 196608
sum₃ c = add (add (first c) (second c) tt) (third c) tt

abbrev sum₄ : (c : goal.After-twice-4) → Held w32 (c.args.a *ℤ pos 2 +ℤ c.args.b *ℤ pos 2 +ℤ c.args.c *ℤ pos 2 +ℤ c.args.d *ℤ pos 2) 262136 262144
sum₄ c = add (sum₃ c) (fourth c) tt

pub overflow_add-twice-3 : goal.overflow_add-twice-3
overflow_add-twice-3 c = add_need (sum₃ c) (fourth c) tt

pub avg-requires : goal.avg-requires
avg-requires c = abs_need (sum₄ c) 262144 tt

abbrev given : (c : goal.After-avg) → Held w32 (split_chroma c.args.a c.args.b c.args.c c.args.d) 32767 32768
given c = averaged (sum₄ c.before) c.avg.result c.avg.type_inv c.avg.ensures

pub overflow_cast-result : goal.overflow_cast-result
overflow_cast-result c = cast_need (given c) tt

pub returns : goal.returns
returns c = let k : Held w16 (split_chroma c.args.a c.args.b c.args.c c.args.d) 32767 32768 = cast (given c) tt in k.is
