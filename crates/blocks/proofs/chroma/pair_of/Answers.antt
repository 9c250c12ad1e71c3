-- `chroma::pair_of` filters both halos, near or far. Assumes nothing.
use Rattle.std.proofs.Common.{refl, ap₂, ◌∙◌, arith}
use Rattle.rfc6386.proofs.Laws.Blocks.{image_bytes}
use Rattle.steps.specs.Window.{beside}
use Rattle.blocks.proofs.Windows.{way_block, found_held, found_window, alike_near, far_window, takes-halo, takes_both, fetched_alike, few_fetched}
use Rattle.blocks.proofs.chroma.pair_of.Goals as goal

pub filter_pair-pair-requires-clause-held : goal.filter_pair-pair-requires-clause-held
filter_pair-pair-requires-clause-held c = found_held 4 c.args.chroma.u c.window-u_from.ensures c.in-Some.ensures.halo_at

pub filter_pair-pair-requires-clause-held_2 : goal.filter_pair-pair-requires-clause-held_2
filter_pair-pair-requires-clause-held_2 c = found_held 4 c.args.chroma.v c.window-v_from.ensures (alike_near c.args.chroma.alike c.in-Some.ensures.halo_at)

pub overflow_add-found : goal.overflow_add-found
overflow_add-found c = omega (arith, few_fetched 9 _ _ _ _ (omega arith) c.in-Some.ensures.fetched_value)

pub took-requires : goal.took-requires
took-requires c = omega (arith, few_fetched 9 _ _ _ _ (omega arith) c.in-Some.ensures.fetched_value)

pub returns-in-Some-clause-value : goal.returns-in-Some-clause-value
returns-in-Some-clause-value c =
    let H = c.in-Some.ensures.halo_at in
    let u_window = found_window 4 c.args.chroma.u c.window-u_from.ensures H in
    let v_window = found_window 4 c.args.chroma.v c.window-v_from.ensures (alike_near c.args.chroma.alike H) in
    c.filter_pair-pair.ensures.value
    ∙ ap₂ (beside 4)
    (way_block 4 c.args.set _ c.args.chroma.u.at.x c.args.chroma.u.at.y c.args.mv (image_bytes _ c.args.chroma.u.bytes) c.way_of-way.ensures u_window refl)
    (way_block 4 c.args.set _ c.args.chroma.v.at.x c.args.chroma.v.at.y c.args.mv (image_bytes _ c.args.chroma.v.bytes) c.way_of-way.ensures v_window refl)

pub returns-in-Some-clause-all_after : goal.returns-in-Some-clause-all_after
returns-in-Some-clause-all_after c =
    let H = c.in-Some.ensures.halo_at in
    let u_window = found_window 4 c.args.chroma.u c.window-u_from.ensures H in
    let v_window = found_window 4 c.args.chroma.v c.window-v_from.ensures (alike_near c.args.chroma.alike H) in
    c.took.ensures
    ∙ takes_both _ _ _ _ c.filter_pair-pair.ensures.tally_after
    (takes-halo 4 c.args.set _ c.args.chroma.u.at.x c.args.chroma.u.at.y c.args.mv c.requires.mv_value c.way_of-way.ensures u_window c.in-Some.ensures.fetched_value refl)
    (takes-halo 4 c.args.set _ c.args.chroma.v.at.x c.args.chroma.v.at.y c.args.mv c.requires.mv_value c.way_of-way.ensures v_window (c.in-Some.ensures.fetched_value ∙ fetched_alike _ _ _ _ _ _ _ _ _) refl)

pub overflow_add-u_fetched : goal.overflow_add-u_fetched
overflow_add-u_fetched c = omega (arith, few_fetched 9 _ _ _ _ (omega arith) c.halo_of-u_halo.ensures.fetched_after, few_fetched 9 _ _ _ _ (omega arith) c.halo_of-v_halo.ensures.fetched_after)

pub took-requires-2 : goal.took-requires-2
took-requires-2 c = omega (arith, few_fetched 9 _ _ _ _ (omega arith) c.halo_of-u_halo.ensures.fetched_after, few_fetched 9 _ _ _ _ (omega arith) c.halo_of-v_halo.ensures.fetched_after)

pub returns-clause-value : goal.returns-clause-value
returns-clause-value c =
    let u_window = far_window 4 _ c.args.chroma.u.at.x c.args.chroma.u.at.y c.args.mv c.halo_of-u_halo.ensures.value in
    let v_window = far_window 4 _ c.args.chroma.v.at.x c.args.chroma.v.at.y c.args.mv c.halo_of-v_halo.ensures.value in
    c.filter_pair-pair-2.ensures.value
    ∙ ap₂ (beside 4)
    (way_block 4 c.args.set _ c.args.chroma.u.at.x c.args.chroma.u.at.y c.args.mv (image_bytes _ c.args.chroma.u.bytes) c.way_of-way.ensures u_window refl)
    (way_block 4 c.args.set _ c.args.chroma.v.at.x c.args.chroma.v.at.y c.args.mv (image_bytes _ c.args.chroma.v.bytes) c.way_of-way.ensures v_window refl)

pub returns-clause-all_after : goal.returns-clause-all_after
returns-clause-all_after c =
    let u_window = far_window 4 _ c.args.chroma.u.at.x c.args.chroma.u.at.y c.args.mv c.halo_of-u_halo.ensures.value in
    let v_window = far_window 4 _ c.args.chroma.v.at.x c.args.chroma.v.at.y c.args.mv c.halo_of-v_halo.ensures.value in
    c.took-2.ensures
    ∙ takes_both _ _ _ _ c.filter_pair-pair-2.ensures.tally_after
    (takes-halo 4 c.args.set _ c.args.chroma.u.at.x c.args.chroma.u.at.y c.args.mv c.requires.mv_value c.way_of-way.ensures u_window c.halo_of-u_halo.ensures.fetched_after refl)
    (takes-halo 4 c.args.set _ c.args.chroma.v.at.x c.args.chroma.v.at.y c.args.mv c.requires.mv_value c.way_of-way.ensures v_window c.halo_of-v_halo.ensures.fetched_after refl)

pub window-u_from-requires : goal.window-u_from-requires
window-u_from-requires c =
    let H = c.in-Some.ensures.halo_at in
    record { inside = (omega (arith, H.across.room), omega (arith, H.down.room)) }

pub window-v_from-requires : goal.window-v_from-requires
window-v_from-requires c =
    let H = alike_near c.args.chroma.alike c.in-Some.ensures.halo_at in
    record { inside = (omega (arith, H.across.room), omega (arith, H.down.room)) }
