-- `chroma::blocks_of_8` copies whole pixels, or filters both halos, near or far. Assumes nothing.
use Rattle.std.proofs.Common.{sym, ap₂, ◌∙◌, ◌+◌, arith}
use Rattle.rfc6386.proofs.Laws.Blocks.{image_bytes}
use Rattle.rfc6386.proofs.Laws.Halos.{whole-block}
use Rattle.steps.proofs.Laws.Tallies.{window_tally}
use Rattle.blocks.proofs.Windows.{way_block, found_held, found_window, alike_near, far_window, left-block, right-block, takes-pixels, takes-halo, takes_both, fetched_alike, few_fetched}
use Rattle.blocks.proofs.chroma.blocks_of_8.Goals as goal

pub overflow_add-all : goal.overflow_add-all
overflow_add-all c = omega (arith, few_fetched 8 _ _ _ _ (omega arith) c.pixels_of-u.ensures.fetched_after, few_fetched 8 _ _ _ _ (omega arith) c.pixels_of-v.ensures.fetched_after)

pub returns-then-whole_pixel_fraction_is_zero-clause-value : goal.returns-then-whole_pixel_fraction_is_zero-clause-value
returns-then-whole_pixel_fraction_is_zero-clause-value c =
    let whole = sym c.whole_pixel_fraction_is_zero.ensures ∙ c.if-whole_pixel_fraction_is_zero.true in
    let u = whole-block 8 _ _ _ _ _ c.pixels_of-u.ensures.value whole in
    let v = whole-block 8 _ _ _ _ _ c.pixels_of-v.ensures.value whole in
    λ i. record { u = u i; v = v i }

pub returns-then-whole_pixel_fraction_is_zero-clause-all_after : goal.returns-then-whole_pixel_fraction_is_zero-clause-all_after
returns-then-whole_pixel_fraction_is_zero-clause-all_after c =
    let whole = sym c.whole_pixel_fraction_is_zero.ensures ∙ c.if-whole_pixel_fraction_is_zero.true in
    ap₂ ◌+◌ (takes-pixels 8 _ _ _ _ _ whole c.pixels_of-u.ensures.fetched_after) (takes-pixels 8 _ _ _ _ _ whole c.pixels_of-v.ensures.fetched_after)

pub filter_strips-strips-requires-clause-held : goal.filter_strips-strips-requires-clause-held
filter_strips-strips-requires-clause-held c = found_held 8 c.args.chroma.u c.window-u_from.ensures c.in-Some.ensures.halo_at

pub filter_strips-strips-requires-clause-held_2 : goal.filter_strips-strips-requires-clause-held_2
filter_strips-strips-requires-clause-held_2 c = found_held 8 c.args.chroma.v c.window-v_from.ensures (alike_near c.args.chroma.alike c.in-Some.ensures.halo_at)

pub overflow_add-found : goal.overflow_add-found
overflow_add-found c = omega (arith, few_fetched 13 _ _ _ _ (omega arith) c.in-Some.ensures.fetched_value)

pub took-requires : goal.took-requires
took-requires c = omega (arith, few_fetched 13 _ _ _ _ (omega arith) c.in-Some.ensures.fetched_value)

pub returns-in-Some-clause-value : goal.returns-in-Some-clause-value
returns-in-Some-clause-value c =
    let H = c.in-Some.ensures.halo_at in
    let u_window = found_window 8 c.args.chroma.u c.window-u_from.ensures H in
    let v_window = found_window 8 c.args.chroma.v c.window-v_from.ensures (alike_near c.args.chroma.alike H) in
    let u = way_block 8 c.args.set _ c.args.chroma.u.at.x c.args.chroma.u.at.y c.args.mv (image_bytes _ c.args.chroma.u.bytes) c.way_of-way.ensures u_window (left-block _ _ _ _ c.way_of-way.result c.filter_strips-strips.ensures.strips) in
    let v = way_block 8 c.args.set _ c.args.chroma.v.at.x c.args.chroma.v.at.y c.args.mv (image_bytes _ c.args.chroma.v.bytes) c.way_of-way.ensures v_window (right-block _ _ _ _ c.way_of-way.result c.filter_strips-strips.ensures.strips) in
    c.apart.ensures ∙ (λ i. record { u = u i; v = v i })

pub returns-in-Some-clause-all_after : goal.returns-in-Some-clause-all_after
returns-in-Some-clause-all_after c =
    let H = c.in-Some.ensures.halo_at in
    let u_window = found_window 8 c.args.chroma.u c.window-u_from.ensures H in
    let v_window = found_window 8 c.args.chroma.v c.window-v_from.ensures (alike_near c.args.chroma.alike H) in
    let fraction = sym c.whole_pixel_fraction_is_zero.ensures ∙ c.if-whole_pixel_fraction_is_zero.false in
    c.took.ensures
    ∙ takes_both _ _ _ _ c.filter_strips-strips.ensures.tally_after
    (takes-halo 8 c.args.set _ c.args.chroma.u.at.x c.args.chroma.u.at.y c.args.mv fraction c.way_of-way.ensures u_window c.in-Some.ensures.fetched_value (window_tally 8 _ _ _ _ _ _))
    (takes-halo 8 c.args.set _ c.args.chroma.v.at.x c.args.chroma.v.at.y c.args.mv fraction c.way_of-way.ensures v_window (c.in-Some.ensures.fetched_value ∙ fetched_alike _ _ _ _ _ _ _ _ _) (window_tally 8 _ _ _ _ _ _))

pub overflow_add-u_fetched : goal.overflow_add-u_fetched
overflow_add-u_fetched c = omega (arith, few_fetched 13 _ _ _ _ (omega arith) c.halo_of-u_halo.ensures.fetched_after, few_fetched 13 _ _ _ _ (omega arith) c.halo_of-v_halo.ensures.fetched_after)

pub took-requires-2 : goal.took-requires-2
took-requires-2 c = omega (arith, few_fetched 13 _ _ _ _ (omega arith) c.halo_of-u_halo.ensures.fetched_after, few_fetched 13 _ _ _ _ (omega arith) c.halo_of-v_halo.ensures.fetched_after)

pub returns-clause-value : goal.returns-clause-value
returns-clause-value c =
    let u_window = far_window 8 _ c.args.chroma.u.at.x c.args.chroma.u.at.y c.args.mv c.halo_of-u_halo.ensures.value in
    let v_window = far_window 8 _ c.args.chroma.v.at.x c.args.chroma.v.at.y c.args.mv c.halo_of-v_halo.ensures.value in
    let u = way_block 8 c.args.set _ c.args.chroma.u.at.x c.args.chroma.u.at.y c.args.mv (image_bytes _ c.args.chroma.u.bytes) c.way_of-way.ensures u_window (left-block _ _ _ _ c.way_of-way.result c.filter_strips-strips-2.ensures.strips) in
    let v = way_block 8 c.args.set _ c.args.chroma.v.at.x c.args.chroma.v.at.y c.args.mv (image_bytes _ c.args.chroma.v.bytes) c.way_of-way.ensures v_window (right-block _ _ _ _ c.way_of-way.result c.filter_strips-strips-2.ensures.strips) in
    c.apart-2.ensures ∙ (λ i. record { u = u i; v = v i })

pub returns-clause-all_after : goal.returns-clause-all_after
returns-clause-all_after c =
    let u_window = far_window 8 _ c.args.chroma.u.at.x c.args.chroma.u.at.y c.args.mv c.halo_of-u_halo.ensures.value in
    let v_window = far_window 8 _ c.args.chroma.v.at.x c.args.chroma.v.at.y c.args.mv c.halo_of-v_halo.ensures.value in
    let fraction = sym c.whole_pixel_fraction_is_zero.ensures ∙ c.if-whole_pixel_fraction_is_zero.false in
    c.took-2.ensures
    ∙ takes_both _ _ _ _ c.filter_strips-strips-2.ensures.tally_after
    (takes-halo 8 c.args.set _ c.args.chroma.u.at.x c.args.chroma.u.at.y c.args.mv fraction c.way_of-way.ensures u_window c.halo_of-u_halo.ensures.fetched_after (window_tally 8 _ _ _ _ _ _))
    (takes-halo 8 c.args.set _ c.args.chroma.v.at.x c.args.chroma.v.at.y c.args.mv fraction c.way_of-way.ensures v_window c.halo_of-v_halo.ensures.fetched_after (window_tally 8 _ _ _ _ _ _))

pub window-u_from-requires : goal.window-u_from-requires
window-u_from-requires c =
    let H = c.in-Some.ensures.halo_at in
    record { inside = (omega (arith, H.across.room), omega (arith, H.down.room)) }

pub window-v_from-requires : goal.window-v_from-requires
window-v_from-requires c =
    let H = alike_near c.args.chroma.alike c.in-Some.ensures.halo_at in
    record { inside = (omega (arith, H.across.room), omega (arith, H.down.room)) }
