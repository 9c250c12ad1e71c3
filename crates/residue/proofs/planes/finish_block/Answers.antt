-- By the short path or the full transform.
use Rattle.std.proofs.Common.{◌≡◌, sym, ap, ◌∙◌, subst, arith, List, ℤ, w16, w32, to_z, replicate}
use Rattle.std.specs.Prelude.{◌^◌, ◌<◌}
use Rattle.std.specs.Int.Signed.{mag}
use Rattle.signed.specs.Held.{Held, got, lit, cast, add, shr}
use Rattle.residue.specs.Transform.{at, eighth, inverse_dct}
use Rattle.residue.specs.Inner.{OnlyFirst, Bounded}
use Rattle.residue.proofs.Finishing.{finished_none, finished_full, dct_size}
use Rattle.residue.proofs.Passes.{spread}
use Rattle.residue.proofs.ShortPaths.{short-dct}
use Rattle.residue.proofs.planes.finish_block.Goals as goal

-- the one number of the short path
abbrev part : (z : ℤ) → mag z < 2 ^ 15 → Held w16 (eighth 4 z) 4096 4096
part z h = let one : Held w32 (eighth 4 z) 4096 4096 = shr (add (cast (got w16 z h) tt) (lit 4 tt) tt) 7 tt in cast one tt

-- sixteen times
short : {b : List ℤ} (h : mag (at b 0) < 2 ^ 15) → OnlyFirst b → replicate 16 (part (at b 0) h).val ≡ inverse_dct b
short {b} h o = spread (part (at b 0) h).is ∙ sym (short-dct b o)

pub add_block-requires-clause-bounded : goal.add_block-requires-clause-bounded
add_block-requires-clause-bounded c =
    subst (Bounded 0 32512) (sym (short (omega arith) (c.only_first.ensures.0 c.if-only_first.true))) (dct_size (record { sfits = omega arith }) c.requires.bounded)

pub returns-then-v-ne0 : goal.returns-then-v-ne0
returns-then-v-ne0 c = finished_full c.args.b (short (omega arith) (c.only_first.ensures.0 c.if-only_first.true)) c.add_block.ensures

pub returns-else-v-ne0 : goal.returns-else-v-ne0
returns-else-v-ne0 c =
    finished_none (c.only_first.ensures.0 c.if-only_first.true) (sym (ap (to_z w16) c.if-v-ne0.false) ∙ (part (at c.args.b 0) (omega arith)).is)
    (λ j. let h = c.type_inv.d j in omega arith)

pub add_block-requires-2-clause-bounded : goal.add_block-requires-2-clause-bounded
add_block-requires-2-clause-bounded c = subst (Bounded 0 32512) (sym c.inverse_dct_4x4.ensures) (dct_size (record { sfits = omega arith }) c.requires.bounded)

pub returns : goal.returns
returns c = finished_full c.args.b c.inverse_dct_4x4.ensures c.add_block-2.ensures
