-- The measure of `luma_square` is the side.
use Rattle.quarters.proofs.+luma_square.Given as goal

abbrev pub decreases-luma_square : goal.decreases-luma_square
decreases-luma_square l = l.piece.side
