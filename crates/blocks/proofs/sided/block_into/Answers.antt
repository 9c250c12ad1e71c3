-- `sided::block_into` copies whole pixels, or filters the halo, near or far, and puts the block in its place. Assumes nothing.
use Rattle.std.proofs.Common.{refl, sym, ◌+◌, ◌∙◌, arith}
use Rattle.rfc6386.proofs.Laws.Blocks.{image_bytes}
use Rattle.rfc6386.proofs.Laws.Halos.{whole-block}
use Rattle.steps.proofs.Laws.Windows.{put_as}
use Rattle.blocks.proofs.Windows.{way_block, found_held, found_window, far_window, takes-pixels, takes-halo, few_fetched}
use Rattle.steps.proofs.Laws.Parts.{side_most}
use Rattle.blocks.proofs.sided.block_into.Goals as goal

pub returns-then-whole_pixel_fraction_is_zero-clause-out_after : goal.returns-then-whole_pixel_fraction_is_zero-clause-out_after
returns-then-whole_pixel_fraction_is_zero-clause-out_after g c =
    let whole = sym c.whole_pixel_fraction_is_zero.ensures ∙ c.if-whole_pixel_fraction_is_zero.true in
    put_as _ _ _ _ g.row.SIDE c.pixels_into.ensures.out_after (whole-block g.row.SIDE _ _ _ _ _ refl whole)

pub returns-then-whole_pixel_fraction_is_zero-clause-value : goal.returns-then-whole_pixel_fraction_is_zero-clause-value
returns-then-whole_pixel_fraction_is_zero-clause-value g c =
    let whole = sym c.whole_pixel_fraction_is_zero.ensures ∙ c.if-whole_pixel_fraction_is_zero.true in
    takes-pixels g.row.SIDE _ _ _ _ _ whole c.pixels_into.ensures.value

pub filter_square-tally-requires-clause-held : goal.filter_square-tally-requires-clause-held
filter_square-tally-requires-clause-held g c = found_held g.row.SIDE c.args.lent c.window.ensures c.in-Some.ensures.halo_at

pub took-requires : goal.took-requires
took-requires g c = omega (arith, few_fetched (g.row.SIDE + 5) _ _ _ _ (omega (arith, side_most c.requires.side)) c.in-Some.ensures.fetched_value)

pub returns-in-Some-clause-out_after : goal.returns-in-Some-clause-out_after
returns-in-Some-clause-out_after g c =
    let window = found_window g.row.SIDE c.args.lent c.window.ensures c.in-Some.ensures.halo_at in
    put_as _ _ _ _ g.row.SIDE c.filter_square-tally.ensures.out_after
    (way_block g.row.SIDE c.args.set _ c.args.lent.at.x c.args.lent.at.y c.args.mv
    (image_bytes _ c.args.lent.bytes) c.way_of-way.ensures window refl)

pub returns-in-Some-clause-value : goal.returns-in-Some-clause-value
returns-in-Some-clause-value g c =
    let window = found_window g.row.SIDE c.args.lent c.window.ensures c.in-Some.ensures.halo_at in
    let fraction = sym c.whole_pixel_fraction_is_zero.ensures ∙ c.if-whole_pixel_fraction_is_zero.false in
    c.took.ensures
    ∙ takes-halo g.row.SIDE c.args.set _ c.args.lent.at.x c.args.lent.at.y c.args.mv fraction c.way_of-way.ensures window c.in-Some.ensures.fetched_value c.filter_square-tally.ensures.value

pub took-requires-2 : goal.took-requires-2
took-requires-2 g c = omega (arith, few_fetched (g.row.SIDE + 5) _ _ _ _ (omega (arith, side_most c.requires.side)) c.halo_of-halo.ensures.fetched_after)

pub returns-clause-out_after : goal.returns-clause-out_after
returns-clause-out_after g c =
    let window = far_window g.row.SIDE _ c.args.lent.at.x c.args.lent.at.y c.args.mv c.halo_of-halo.ensures.value in
    put_as _ _ _ _ g.row.SIDE c.filter_square-tally-2.ensures.out_after
    (way_block g.row.SIDE c.args.set _ c.args.lent.at.x c.args.lent.at.y c.args.mv
    (image_bytes _ c.args.lent.bytes) c.way_of-way.ensures window refl)

pub returns-clause-value : goal.returns-clause-value
returns-clause-value g c =
    let window = far_window g.row.SIDE _ c.args.lent.at.x c.args.lent.at.y c.args.mv c.halo_of-halo.ensures.value in
    let fraction = sym c.whole_pixel_fraction_is_zero.ensures ∙ c.if-whole_pixel_fraction_is_zero.false in
    c.took-2.ensures
    ∙ takes-halo g.row.SIDE c.args.set _ c.args.lent.at.x c.args.lent.at.y c.args.mv fraction c.way_of-way.ensures window c.halo_of-halo.ensures.fetched_after c.filter_square-tally-2.ensures.value

pub window-requires : goal.window-requires
window-requires g c =
    let H = c.in-Some.ensures.halo_at in
    record { inside = (omega (arith, H.across.room), omega (arith, H.down.room)) }
