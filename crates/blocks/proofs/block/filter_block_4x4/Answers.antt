-- `filter_block_4x4` gives zeros by the plane's number, or the filtered block and how many of its samples are clipped. Assumes nothing.
use Rattle.std.proofs.Common.{ap, refl, ◌∙◌, arith, ℕ, ◌+◌, ◌<◌, ◌≤◌, length}
use Rattle.rfc6386.specs.Picture.{Plane, image, block}
use Rattle.rfc6386.specs.Block.{block4}
use Rattle.rfc6386.specs.Fetched.{block_of}
use Rattle.rfc6386.specs.Clips.{no_clips, block_clips}
use Rattle.rfc6386.specs.declared.Mv.{Mv}
use Rattle.rfc6386.specs.declared.FilterSet.{FilterSet}
use Rattle.rfc6386.specs.Answer.{BlockAnswer, block_told}
use Rattle.rfc6386.specs.declared.Clips.{Clips}
use Rattle.blocks.specs.Laws.{taken_fit, taken_clips, block_fetched_most, block_clips_most}
use Rattle.filters.proofs.Told.{passed_on, answer-refused, answer-done}
use Rattle.blocks.specs.Lents.{plane_in}
use Rattle.rfc6386.proofs.Laws.Blocks.{length-block}
use Rattle.steps.proofs.Laws.Windows.{put_whole}
use Rattle.blocks.proofs.Fetches.{tested_is}
use Rattle.blocks.proofs.block.filter_block_4x4.Goals as goal

-- the count and the totals are no larger than what they are taken out of holds
few : (p : Plane) (x y : ℕ) (v : Mv) → length (block_of 4 p x y v) < 4294967296
few p x y v = omega (arith, block_fetched_most 4 p x y v (omega arith))

few-clipped : (set : FilterSet) (p : Plane) (x y : ℕ) (v : Mv) → (block_clips 4 set (image p) x y v).low + (block_clips 4 set (image p) x y v).high ≤ 511
few-clipped set p x y v = omega (arith, block_clips_most 4 set p x y v (omega arith))

pub returns-in_err-lent : goal.returns-in_err-lent
unfolding block4
returns-in_err-lent c =
    ap block_told (passed_on c.from_residual.result c.in_err-lent.field-0.0 c.from_residual.ensures.1)
    ∙ answer-refused {A = BlockAnswer} {B = Clips} (λ n l k. record { number = n; clips = k; samples = l }) 16 _ _ no_clips c.in_err-lent.field-0.0 c.in_err-lent.ensures.refusal

pub clips-requires : goal.clips-requires
clips-requires c =
    let a = c.args in
    let l = c.in_ok-lent.lent in
    taken_fit _ (block_clips 4 a.set (image (plane_in l)) l.at.x l.at.y a.mv) (few (plane_in l) l.at.x l.at.y a.mv) c.tile_into-all.ensures.value (few-clipped a.set (plane_in l) l.at.x l.at.y a.mv)

pub returns : goal.returns
unfolding block4
returns c =
    let a = c.args in
    let l = c.in_ok-lent.lent in
    answer-done {A = BlockAnswer} {B = Clips} (λ n l k. record { number = n; clips = k; samples = l }) 16 _ _ no_clips c.in_ok-lent.ensures.refusal
    (c.tile_into-all.ensures.out_after ∙ put_whole 4 _ _ refl (length-block 4 _ _ _ _ _) ∙ tested_is (λ p x y. block 4 a.set (image p) x y a.mv) l c.in_ok-lent.ensures.lent)
    (c.clips.ensures
    ∙ taken_clips _ (block_clips 4 a.set (image (plane_in l)) l.at.x l.at.y a.mv) (few (plane_in l) l.at.x l.at.y a.mv) c.tile_into-all.ensures.value (few-clipped a.set (plane_in l) l.at.x l.at.y a.mv)
    ∙ tested_is (λ p x y. block_clips 4 a.set (image p) x y a.mv) l c.in_ok-lent.ensures.lent)
