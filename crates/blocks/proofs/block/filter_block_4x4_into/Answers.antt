-- `filter_block_4x4_into` refuses by the plane or for want of room, or puts the block into its place.
use Rattle.std.proofs.Common.{sym, ap, ◌∙◌}
use Rattle.numbers.specs.Outcome.{told}
use Rattle.numbers.proofs.Laws.{not_done}
use Rattle.rfc6386.specs.Picture.{image, block}
use Rattle.rfc6386.proofs.Laws.Raster.{written_ext}
use Rattle.rfc6386.proofs.Laws.Blocks.{block_sample}
use Rattle.rfc6386.proofs.Laws.Refusals.{into_plane, into-no_room, into_done}
use Rattle.steps.proofs.Laws.Windows.{put_as}
use Rattle.filters.proofs.Told.{passed_on}
use Rattle.blocks.proofs.Fetches.{tested_is}
use Rattle.blocks.proofs.block.filter_block_4x4_into.Goals as goal

pub returns-in_err-lent : goal.returns-in_err-lent
returns-in_err-lent c =
    let e = ap told (passed_on c.from_residual.result c.in_err-lent.field-0.0 c.from_residual.ensures.1) in
    into_plane _ _ (e ∙ c.in_err-lent.ensures.refusal) (λ z. not_done c.in_err-lent.field-0.0 (sym e ∙ z))

pub returns-then-no_room : goal.returns-then-no_room
returns-then-no_room c = into-no_room _ _ (sym c.in_ok-lent.ensures.refusal) (sym c.no_room.ensures ∙ c.if-no_room.true)

pub returns : goal.returns
returns c =
    let a = c.args in
    into_done a.set a.mv (sym c.in_ok-lent.ensures.refusal) (sym c.no_room.ensures ∙ c.if-no_room.false)
    (put_as _ _ _ _ 4 c.tile_into.ensures.out_after (tested_is (λ p x y. block 4 a.set (image p) x y a.mv) c.in_ok-lent.lent c.in_ok-lent.ensures.lent)
    ∙ written_ext a.dst.now a.dst_stride a.dst_x a.dst_y 4 4 _ _ (λ r c hr hc. block_sample 4 a.set _ a.blk_x a.blk_y a.mv r c hr hc))
