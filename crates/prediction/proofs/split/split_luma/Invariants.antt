-- `split::split_luma` has put the first b blocks in their places, and added up what they took.
use Rattle.std.proofs.Common.{◌≡◌}
use Rattle.rfc6386.specs.Vector.{lowering_of, luma_vector, sent}
use Rattle.rfc6386.specs.Picture.{image}
use Rattle.blocks.specs.Lents.{plane_in}
use Rattle.prediction.proofs.Tiles.{four, Tiled, taken_by}
use Rattle.prediction.proofs.split.split_luma.Given as goal

abbrev pub invariant-loop-b : goal.invariant-loop-b
invariant-loop-b l = record {
  tiled : Tiled 4 four l.set (image (plane_in l.luma.lent)) l.luma.lent.at.x l.luma.lent.at.y (λ k. luma_vector (lowering_of l.fn.lower) (sent l.fn.mvs k)) l.out l.b;
  counted : l.total ≡ taken_by 4 l.set (plane_in l.luma.lent) l.luma.lent.at.x l.luma.lent.at.y (λ k. luma_vector (lowering_of l.fn.lower) (sent l.fn.mvs k)) l.b;
}
