-- `split::split_luma` puts the first b blocks in their places. Assumes nothing.
use Rattle.std.proofs.Common.{refl, sym, ◌∙◌, ℕ, arith}
use Rattle.rfc6386.specs.Vector.{lowering_of, luma_vector, sent}
use Rattle.rfc6386.specs.Picture.{image, block}
use Rattle.rfc6386.specs.declared.Mv.{Mv}
use Rattle.blocks.specs.Lents.{plane_in}
use Rattle.blocks.specs.Taken.{block_takes}
use Rattle.prediction.proofs.Macroblock.{shifted}
use Rattle.prediction.proofs.Tiles.{four, tiled-none, tiled-more, tiled_all, taken_none, taken_more, tile_few, taken_few, taken-all}
use Rattle.prediction.proofs.split.split_luma.Goals as goal

pub loop-b-init : goal.loop-b-init
loop-b-init c = record { tiled = tiled-none 4 four _ _ _ _ _ refl; counted = sym (taken_none 4 _ _ _ _ _) }

pub overflow_add-total : goal.overflow_add-total
overflow_add-total c =
    let a = c.args in
    let l = a.luma.lent in
    let v : ℕ → Mv = (λ k. luma_vector (lowering_of a.lower) (sent a.mvs k)) in
    omega (
      arith,
      taken_few 4 a.set (plane_in l) l.at.x l.at.y v c.loop-b.b,
      c.tile_into-total.ensures.value ∙ shifted (block_takes 4 a.set) l c.block.result _ _ c.block.ensures.plane c.block.ensures.place c.luma_vector-mv.ensures,
      tile_few 4 a.set (plane_in l) l.at.x l.at.y v c.loop-b.b,
    )

pub loop-b-preserved : goal.loop-b-preserved
loop-b-preserved c =
    let a = c.args in
    let l = a.luma.lent in
    record {
      tiled = tiled-more 4 four _ _ _ _ _ c.loop-b.invariant.tiled c.loop-b-test.true
          (shifted (λ p x y m. block 4 a.set (image p) x y m) l c.block.result _ _ c.block.ensures.plane c.block.ensures.place c.luma_vector-mv.ensures) c.tile_into-total.ensures.out_after;
      counted = taken_more 4 _ _ _ _ _ c.loop-b.b c.loop-b.invariant.counted
          (c.tile_into-total.ensures.value ∙ shifted (block_takes 4 a.set) l c.block.result _ _ c.block.ensures.plane c.block.ensures.place c.luma_vector-mv.ensures);
    }

pub returns-clause-value : goal.returns-clause-value
returns-clause-value c = tiled_all 4 four _ _ _ _ _ c.loop-b.invariant.tiled c.loop-b-test.false

pub returns-clause-all_after : goal.returns-clause-all_after
returns-clause-all_after c = taken-all 4 _ _ _ _ _ c.loop-b.invariant.counted (omega (arith, c.loop-b.invariant.tiled.most, c.loop-b-test.false))
