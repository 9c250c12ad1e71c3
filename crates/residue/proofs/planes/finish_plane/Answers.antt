-- A row of blocks a turn.
use Rattle.std.proofs.Common.{◌≡◌, subst, arith, ℕ, ◌*◌}
use Rattle.residue.specs.Inner.{Area}
use Rattle.residue.proofs.Refused.{open_part}
use Rattle.residue.proofs.Finishing.{in_plane, plane_more, row_fits_in, sixteenth}
use Rattle.residue.proofs.planes.finish_plane.Goals as goal

pub finish_row-requires-clause-w_in_bounds : goal.finish_row-requires-clause-w_in_bounds
finish_row-requires-clause-w_in_bounds c =
    let w = c.args.w in
    let y = 4 * c.loop-k.k in
    let f = row_fits_in w y c.requires.w_value.0 (omega arith) (omega (arith, c.loop-k-test.true)) in (
      omega (arith, f, c.requires.w_in_bounds.0),
      open_part (y * w) (4 * w) c.requires.w_in_bounds.1 (sixteenth y w (omega arith) c.requires.w_value.0) (omega (arith, f)),
    )

pub loop-k-preserved : goal.loop-k-preserved
loop-k-preserved c =
    let a = c.args in
    plane_more a.c.now a.i a.w a.from c.loop-k.k c.loop-k.invariant c.finish_row.ensures

pub returns : goal.returns
returns c =
    let a = c.args in
    let l = c.loop-k in
    let e : 4 * l.k ≡ a.w = omega (arith, c.requires.w_value.0, l.auto.k-end, c.loop-k-test.false) in
    subst (λ (n : ℕ). Area a.d.now l.d a.i a.w 0 n 0 a.w (in_plane a.d.now a.i a.w a.c.now a.from)) e l.invariant
