-- A turn writes one number.
use Rattle.std.proofs.Common.{ap, ◌∙◌, arith, ◌+◌, ◌*◌, ℤ, w16}
use Rattle.signed.specs.Held.{got}
use Rattle.residue.specs.Transform.{at}
use Rattle.quantisers.specs.Factors.{dequantised}
use Rattle.quantisers.specs.Inner.{sixteen}
use Rattle.quantisers.proofs.Writing.{before, spaced_more}
use Rattle.quantisers.proofs.levels.scale.Goals as goal

pub loop-k-preserved : goal.loop-k-preserved
loop-k-preserved g c =
    let a = c.args in
    let z = got w16 (at a.levels.now (a.i + g.row.STEP * c.loop-k.k)) (omega arith) in
    let r = got w16 c.kept.result c.kept.type_inv in
    spaced_more c.requires.step_bound c.loop-k.invariant
    (omega (arith, before g.row.STEP c.loop-k-test.true, c.requires.step_bound, c.requires.n_in_bounds, c.loop-k.invariant.size))
    (r.is ∙ c.kept.ensures ∙ ap (λ (l : ℤ). sixteen (dequantised l a.factor)) z.is)
