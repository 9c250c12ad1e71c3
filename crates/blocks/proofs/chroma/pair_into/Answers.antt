-- `chroma::pair_into` copies whole pixels, or what was filtered side by side, each into its place. Assumes nothing.
use Rattle.std.proofs.Common.{sym, ap₂, ◌∙◌, ◌+◌, arith}
use Rattle.rfc6386.proofs.Laws.Halos.{whole-block}
use Rattle.steps.proofs.Laws.Windows.{put_as, put_left, put_right}
use Rattle.blocks.proofs.Windows.{takes-pixels, few_fetched}
use Rattle.blocks.proofs.chroma.pair_into.Goals as goal

pub overflow_add-result : goal.overflow_add-result
overflow_add-result c = omega (arith, few_fetched 4 _ _ _ _ (omega arith) c.pixels_of-u_block.ensures.fetched_after, few_fetched 4 _ _ _ _ (omega arith) c.pixels_of-v_block.ensures.fetched_after)

pub returns-then-whole_pixel_fraction_is_zero-clause-u_out_after : goal.returns-then-whole_pixel_fraction_is_zero-clause-u_out_after
returns-then-whole_pixel_fraction_is_zero-clause-u_out_after c =
    let whole = sym c.whole_pixel_fraction_is_zero.ensures ∙ c.if-whole_pixel_fraction_is_zero.true in
    put_as _ _ _ _ 4 c.copy_rect.ensures (whole-block 4 _ _ _ _ _ c.pixels_of-u_block.ensures.value whole)

pub returns-then-whole_pixel_fraction_is_zero-clause-v_out_after : goal.returns-then-whole_pixel_fraction_is_zero-clause-v_out_after
returns-then-whole_pixel_fraction_is_zero-clause-v_out_after c =
    let whole = sym c.whole_pixel_fraction_is_zero.ensures ∙ c.if-whole_pixel_fraction_is_zero.true in
    put_as _ _ _ _ 4 c.copy_rect-then-whole_pixel_fraction_is_zero.ensures (whole-block 4 _ _ _ _ _ c.pixels_of-v_block.ensures.value whole)

pub returns-then-whole_pixel_fraction_is_zero-clause-value : goal.returns-then-whole_pixel_fraction_is_zero-clause-value
returns-then-whole_pixel_fraction_is_zero-clause-value c =
    let whole = sym c.whole_pixel_fraction_is_zero.ensures ∙ c.if-whole_pixel_fraction_is_zero.true in
    ap₂ ◌+◌ (takes-pixels 4 _ _ _ _ _ whole c.pixels_of-u_block.ensures.fetched_after) (takes-pixels 4 _ _ _ _ _ whole c.pixels_of-v_block.ensures.fetched_after)

pub returns-clause-u_out_after : goal.returns-clause-u_out_after
returns-clause-u_out_after c = put_left 4 _ _ c.pair_of-pair.ensures.value _ _ _ _ c.copy_rect-2.ensures

pub returns-clause-v_out_after : goal.returns-clause-v_out_after
returns-clause-v_out_after c = put_right 4 _ _ c.pair_of-pair.ensures.value _ _ _ _ c.copy_rect-3.ensures
