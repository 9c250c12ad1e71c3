-- The short path is the definition's where only the first number is not 0.
use Rattle.std.proofs.Common.{sym, ◌∙◌, arith, w16, w32}
use Rattle.signed.specs.Held.{Held, got, lit, cast, add, shr}
use Rattle.residue.specs.Transform.{at, eighth}
use Rattle.residue.proofs.ShortPaths.{short-wht}
use Rattle.residue.proofs.Passes.{spread}
use Rattle.residue.proofs.short.inverse_wht_quick.Goals as goal

pub returns-then-only_first : goal.returns-then-only_first
returns-then-only_first c =
    let z = at c.args.x 0 in
    let first : Held w16 z 32767 32768 = got w16 z (omega arith) in
    let part : Held w32 (eighth 3 z) 4096 4096 = shr (add (cast first tt) (lit 3 tt) tt) 7 tt in
    let v : Held w16 (eighth 3 z) 4096 4096 = cast part tt in
    spread v.is ∙ sym (short-wht c.args.x (c.only_first.ensures.0 c.if-only_first.true))
