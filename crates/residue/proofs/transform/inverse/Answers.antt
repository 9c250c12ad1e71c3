-- Each column asks what `Fits` says of it, and so do each row and what it gives.
use Rattle.std.proofs.Common.{sym, ap, ◌∙◌, subst, arith, ◌≤◌, ℤ, nat_abs}
use Rattle.signed.specs.Held.{par}
use Rattle.residue.specs.Transform.{transform}
use Rattle.residue.proofs.Passes.{columns, made_of, points-small, row0, row1, row2, row3, rowed, block_of}
use Rattle.residue.proofs.transform.inverse.Goals as goal

pub of-b-requires : goal.of-b-requires
of-b-requires g c = points-small c.column-2.ensures (c.requires.fits.columns 1 (omega arith))

pub of-c-requires : goal.of-c-requires
of-c-requires g c = points-small c.column-3.ensures (c.requires.fits.columns 2 (omega arith))

pub of-d-requires : goal.of-d-requires
of-d-requires g c = points-small c.column-4.ensures (c.requires.fits.columns 3 (omega arith))

pub of-requires : goal.of-requires
of-requires g c =
    let C = columns c.column.ensures c.of-a.ensures c.column-2.ensures c.of-b.ensures c.column-3.ensures c.of-c.ensures c.column-4.ensures c.of-d.ensures in
    points-small (row0 c.requires.fits C) (c.requires.fits.rows 0)

pub eighths-r-requires-clause-small : goal.eighths-r-requires-clause-small
eighths-r-requires-clause-small g c =
    let C = columns c.column.ensures c.of-a.ensures c.column-2.ensures c.of-b.ensures c.column-3.ensures c.of-c.ensures c.column-4.ensures c.of-d.ensures in
    points-small (made_of g.P.Pass.kernel (row0 c.requires.fits C) c.of.ensures) (c.requires.fits.results 0)

pub of-requires-2 : goal.of-requires-2
of-requires-2 g c =
    let C = columns c.column.ensures c.of-a.ensures c.column-2.ensures c.of-b.ensures c.column-3.ensures c.of-c.ensures c.column-4.ensures c.of-d.ensures in
    points-small (row1 c.requires.fits C) (c.requires.fits.rows 1)

pub eighths-s-requires-clause-small : goal.eighths-s-requires-clause-small
eighths-s-requires-clause-small g c =
    let C = columns c.column.ensures c.of-a.ensures c.column-2.ensures c.of-b.ensures c.column-3.ensures c.of-c.ensures c.column-4.ensures c.of-d.ensures in
    points-small (made_of g.P.Pass.kernel (row1 c.requires.fits C) c.of-2.ensures) (c.requires.fits.results 1)

pub of-requires-3 : goal.of-requires-3
of-requires-3 g c =
    let C = columns c.column.ensures c.of-a.ensures c.column-2.ensures c.of-b.ensures c.column-3.ensures c.of-c.ensures c.column-4.ensures c.of-d.ensures in
    points-small (row2 c.requires.fits C) (c.requires.fits.rows 2)

pub eighths-t-requires-clause-small : goal.eighths-t-requires-clause-small
eighths-t-requires-clause-small g c =
    let C = columns c.column.ensures c.of-a.ensures c.column-2.ensures c.of-b.ensures c.column-3.ensures c.of-c.ensures c.column-4.ensures c.of-d.ensures in
    points-small (made_of g.P.Pass.kernel (row2 c.requires.fits C) c.of-3.ensures) (c.requires.fits.results 2)

pub of-requires-4 : goal.of-requires-4
of-requires-4 g c =
    let C = columns c.column.ensures c.of-a.ensures c.column-2.ensures c.of-b.ensures c.column-3.ensures c.of-c.ensures c.column-4.ensures c.of-d.ensures in
    points-small (row3 c.requires.fits C) (c.requires.fits.rows 3)

pub eighths-u-requires-clause-small : goal.eighths-u-requires-clause-small
eighths-u-requires-clause-small g c =
    let C = columns c.column.ensures c.of-a.ensures c.column-2.ensures c.of-b.ensures c.column-3.ensures c.of-c.ensures c.column-4.ensures c.of-d.ensures in
    points-small (made_of g.P.Pass.kernel (row3 c.requires.fits C) c.of-4.ensures) (c.requires.fits.results 3)

pub returns : goal.returns
returns g c =
    let F = c.requires.fits in
    let half = (par c.ranges.half).is in
    let h = subst (λ (z : ℤ). nat_abs z ≤ 4) (sym half) c.requires.half_bound.1 in
    let C = columns c.column.ensures c.of-a.ensures c.column-2.ensures c.of-b.ensures c.column-3.ensures c.of-c.ensures c.column-4.ensures c.of-d.ensures in
    block_of
    (rowed F h (made_of g.P.Pass.kernel (row0 F C) c.of.ensures) c.eighths-r.ensures)
    (rowed F h (made_of g.P.Pass.kernel (row1 F C) c.of-2.ensures) c.eighths-s.ensures)
    (rowed F h (made_of g.P.Pass.kernel (row2 F C) c.of-3.ensures) c.eighths-t.ensures)
    (rowed F h (made_of g.P.Pass.kernel (row3 F C) c.of-4.ensures) c.eighths-u.ensures)
    ∙ ap (λ (z : ℤ). transform g.P.Pass.kernel (nat_abs z) c.args.x) half
