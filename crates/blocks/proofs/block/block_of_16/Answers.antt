-- `block::block_of_16` copies whole pixels, or filters the halo, near or far. Assumes nothing.
use Rattle.std.proofs.Common.{sym, ◌∙◌, arith}
use Rattle.rfc6386.proofs.Laws.Blocks.{image_bytes}
use Rattle.rfc6386.proofs.Laws.Halos.{whole-block}
use Rattle.blocks.proofs.Windows.{way_block, found_held, found_window, far_window, takes-pixels, takes-halo, few_fetched}
use Rattle.blocks.proofs.block.block_of_16.Goals as goal

pub returns-then-whole_pixel_fraction_is_zero-clause-value : goal.returns-then-whole_pixel_fraction_is_zero-clause-value
returns-then-whole_pixel_fraction_is_zero-clause-value c =
    let whole = sym c.whole_pixel_fraction_is_zero.ensures ∙ c.if-whole_pixel_fraction_is_zero.true in
    whole-block 16 _ _ _ _ _ c.pixels_of.ensures.value whole

pub returns-then-whole_pixel_fraction_is_zero-clause-all_after : goal.returns-then-whole_pixel_fraction_is_zero-clause-all_after
returns-then-whole_pixel_fraction_is_zero-clause-all_after c =
    let whole = sym c.whole_pixel_fraction_is_zero.ensures ∙ c.if-whole_pixel_fraction_is_zero.true in
    takes-pixels 16 _ _ _ _ _ whole c.pixels_of.ensures.fetched_after

pub filter_wide-block-requires : goal.filter_wide-block-requires
filter_wide-block-requires c = record { held = found_held 16 c.args.lent c.window.ensures c.in-Some.ensures.halo_at }

pub took-requires : goal.took-requires
took-requires c = omega (arith, few_fetched 21 _ _ _ _ (omega arith) c.in-Some.ensures.fetched_value)

pub returns-in-Some-clause-value : goal.returns-in-Some-clause-value
returns-in-Some-clause-value c =
    let window = found_window 16 c.args.lent c.window.ensures c.in-Some.ensures.halo_at in
    way_block 16 c.args.set _ c.args.lent.at.x c.args.lent.at.y c.args.mv
    (image_bytes _ c.args.lent.bytes) c.way_of-way.ensures window c.filter_wide-block.ensures.value

pub returns-in-Some-clause-all_after : goal.returns-in-Some-clause-all_after
returns-in-Some-clause-all_after c =
    let window = found_window 16 c.args.lent c.window.ensures c.in-Some.ensures.halo_at in
    let fraction = sym c.whole_pixel_fraction_is_zero.ensures ∙ c.if-whole_pixel_fraction_is_zero.false in
    c.took.ensures
    ∙ takes-halo 16 c.args.set _ c.args.lent.at.x c.args.lent.at.y c.args.mv fraction c.way_of-way.ensures window c.in-Some.ensures.fetched_value c.filter_wide-block.ensures.tally_after

pub took-requires-2 : goal.took-requires-2
took-requires-2 c = omega (arith, few_fetched 21 _ _ _ _ (omega arith) c.halo_of-halo.ensures.fetched_after)

pub returns-clause-value : goal.returns-clause-value
returns-clause-value c =
    let window = far_window 16 _ c.args.lent.at.x c.args.lent.at.y c.args.mv c.halo_of-halo.ensures.value in
    way_block 16 c.args.set _ c.args.lent.at.x c.args.lent.at.y c.args.mv
    (image_bytes _ c.args.lent.bytes) c.way_of-way.ensures window c.filter_wide-block-2.ensures.value

pub returns-clause-all_after : goal.returns-clause-all_after
returns-clause-all_after c =
    let window = far_window 16 _ c.args.lent.at.x c.args.lent.at.y c.args.mv c.halo_of-halo.ensures.value in
    let fraction = sym c.whole_pixel_fraction_is_zero.ensures ∙ c.if-whole_pixel_fraction_is_zero.false in
    c.took-2.ensures
    ∙ takes-halo 16 c.args.set _ c.args.lent.at.x c.args.lent.at.y c.args.mv fraction c.way_of-way.ensures window c.halo_of-halo.ensures.fetched_after c.filter_wide-block-2.ensures.tally_after

pub window-requires : goal.window-requires
window-requires c =
    let H = c.in-Some.ensures.halo_at in
    record { inside = (omega (arith, H.across.room), omega (arith, H.down.room)) }
