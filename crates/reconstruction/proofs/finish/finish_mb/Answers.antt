-- `finish::finish_mb` meets its contract: three planes. Assumes nothing.
use Rattle.std.proofs.Common.{rules, refl, arith}
use Rattle.residue.specs.Coefficients.{finished}
use Rattle.residue.proofs.Pieces.{plane_finished}
use Rattle.reconstruction.proofs.finish.finish_mb.Goals as goal

pub returns : goal.returns
unfolding finished
returns c =
    let n = c.args.c.now in
    let y = plane_finished 0 16 n 0 c.finish_plane.ensures (omega arith) refl (search rules) in
    let u = plane_finished 0 8 n 256 c.finish_plane-2.ensures (omega arith) refl (search rules) in
    let v = plane_finished 0 8 n 320 c.finish_plane-3.ensures (omega arith) refl (search rules) in
    λ i. record { y = y i; u = u i; v = v i }
