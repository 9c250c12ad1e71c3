-- A block a turn.
use Rattle.std.proofs.Common.{◌≡◌, sym, subst, arith, ℕ, ◌+◌, ◌*◌}
use Rattle.residue.specs.Coefficients.{block}
use Rattle.residue.specs.Inner.{Bounded, Area}
use Rattle.residue.proofs.Finishing.{in_row, row_more, open_block}
use Rattle.residue.proofs.planes.finish_row.Goals as goal

pub finish_block-requires-clause-bounded : goal.finish_block-requires-clause-bounded
unfolding block
finish_block-requires-clause-bounded c =
    let k = c.loop-k.k in
    subst (Bounded 1 4095) (sym c.part_of.ensures)
    (open_block (4 * (4 * k)) c.requires.w_in_bounds.1 (omega arith) (omega (arith, c.requires.w_value.0, c.loop-k-test.true)))

pub loop-k-preserved : goal.loop-k-preserved
unfolding block
loop-k-preserved c =
    let a = c.args in
    row_more a.c.now a.i a.w a.y a.from c.loop-k.k c.loop-k.invariant (omega (arith, c.requires.w_value.0, c.loop-k-test.true)) c.part_of.ensures c.finish_block.ensures

pub returns : goal.returns
returns c =
    let a = c.args in
    let l = c.loop-k in
    let e : 4 * l.k ≡ a.w = omega (arith, c.requires.w_value.0, l.auto.k-end, c.loop-k-test.false) in
    subst (λ (n : ℕ). Area a.d.now l.d a.i a.w a.y (a.y + 4) 0 n (in_row a.d.now a.i a.w a.y a.c.now a.from)) e l.invariant
