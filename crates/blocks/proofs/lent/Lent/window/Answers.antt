-- `Lent::window` meets its contract: the place lies in the plane.
use Rattle.std.proofs.Common.{arith}
use Rattle.blocks.proofs.Squares.{in_plane_lem}
use Rattle.blocks.proofs.Fetches.{accepted}
use Rattle.blocks.proofs.lent.Lent.window.Goals as goal

pub overflow_mul-result : goal.overflow_mul-result
overflow_mul-result c = omega (arith, in_plane_lem (accepted c.args.self).fits c.args.found.y c.requires.inside.1)

pub overflow_add-result : goal.overflow_add-result
overflow_add-result c = omega (arith, in_plane_lem (accepted c.args.self).fits c.args.found.y c.requires.inside.1)
