-- `split::split_chroma` has put the first b blocks of both planes in their places, and added up what they took.
use Rattle.std.proofs.Common.{◌≡◌, ◌+◌}
use Rattle.rfc6386.specs.Vector.{sent}
use Rattle.rfc6386.specs.Picture.{image}
use Rattle.blocks.specs.Lents.{plane_in}
use Rattle.prediction.proofs.Tiles.{two, Tiled, taken_by}
use Rattle.prediction.proofs.split.split_chroma.Given as goal

abbrev pub invariant-loop-b : goal.invariant-loop-b
invariant-loop-b l = record {
  u_tiled : Tiled 2 two l.set (image (plane_in l.chroma.u.lent)) l.chroma.u.lent.at.x l.chroma.u.lent.at.y (sent l.fn.mvs) l.u_out l.b;
  v_tiled : Tiled 2 two l.set (image (plane_in l.chroma.v.lent)) l.chroma.v.lent.at.x l.chroma.v.lent.at.y (sent l.fn.mvs) l.v_out l.b;
  counted : l.total ≡ taken_by 2 l.set (plane_in l.chroma.u.lent) l.chroma.u.lent.at.x l.chroma.u.lent.at.y (sent l.fn.mvs) l.b + taken_by 2 l.set (plane_in l.chroma.v.lent) l.chroma.v.lent.at.x l.chroma.v.lent.at.y (sent l.fn.mvs) l.b;
}
