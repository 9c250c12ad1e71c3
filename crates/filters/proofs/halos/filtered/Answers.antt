-- `halos::filtered` meets its contract: a fraction above 7 is refused, and the halo is its own window.
use Rattle.std.proofs.Common.{◌≡◌, ℕ, ◌+◌, ◌*◌, ◌≤◌, List, sym, ap, ◌∙◌, length, mul-le-mul, arith}
use Rattle.std.proofs.lemmas.List.{length-replicate}
use Rattle.rfc6386.specs.Picture.{halo_block}
use Rattle.rfc6386.specs.Clips.{no_clips, halo_clips}
use Rattle.rfc6386.specs.Answer.{BlockAnswer, block_told}
use Rattle.rfc6386.specs.declared.Clips.{Clips}
use Rattle.rfc6386.specs.declared.FilterSet.{FilterSet}
use Rattle.steps.specs.Tally.{tally_of}
use Rattle.steps.specs.Window.{window_list}
use Rattle.steps.specs.declared.way.Way.{Way}
use Rattle.steps.proofs.Laws.Parts.{side_most}
use Rattle.steps.proofs.Laws.Windows.{window_whole, put_whole, length-halo_block, block_as, clips_as}
use Rattle.steps.proofs.Laws.Tallies.{own_tally, halo_fit, halo-digits}
use Rattle.filters.proofs.Told.{passed_on, answer-refused, answer-done}
use Rattle.filters.proofs.halos.filtered.Goals as goal

-- a block has few samples
few : {n : ℕ} → n ≤ 16 → n * n ≤ 511
few h = omega (arith, mul-le-mul {n₂ = 16} {m₂ = 16} h h)

-- what is counted, by the fractions of the call
tally : (n : ℕ) {set : FilterSet} (l : List ℕ) {mx my t : ℕ} (w : Way) → length l ≡ (n + 5) * (n + 5) → (w.set ≡ set) × (w.mx ≡ mx) × (w.my ≡ my)
    → t ≡ tally_of (halo_clips n w.set (window_list (n + 5) l 0 (n + 5)) w.mx w.my) → t ≡ tally_of (halo_clips n set l mx my)
tally n l w size e t = t ∙ own_tally n w.set l w.mx w.my size ∙ sym (ap tally_of (clips_as n l e.0 e.1 e.2))

pub returns-in_err-way : goal.returns-in_err-way
returns-in_err-way g c =
    ap block_told (passed_on c.from_residual.result c.in_err-way.field-0.0 c.from_residual.ensures.1)
    ∙ answer-refused {A = BlockAnswer} {B = Clips} (λ n l k. record { number = n; clips = k; samples = l }) g.row.AREA _ _ no_clips c.in_err-way.field-0.0 c.in_err-way.ensures.refusal

pub clips_of-requires : goal.clips_of-requires
clips_of-requires g c =
    let a = c.args in
    halo_fit g.row.SIDE a.set a.halo.now a.mx a.my (few (side_most c.requires.side))
    (tally g.row.SIDE a.halo.now c.in_ok-way.way (c.told-halo ∙ c.requires.halo_len) c.in_ok-way.ensures.way c.filter_square-tally.ensures.value)

pub returns : goal.returns
returns g c =
    let a = c.args in
    let w = c.in_ok-way.way in
    let n = g.row.SIDE in
    let size = c.told-halo ∙ c.requires.halo_len in
    let e = c.in_ok-way.ensures.way in
    answer-done {A = BlockAnswer} {B = Clips} (λ n l k. record { number = n; clips = k; samples = l }) g.row.AREA _ _ no_clips c.in_ok-way.ensures.refusal
    (c.filter_square-tally.ensures.out_after
    ∙ put_whole n _ _ (omega (arith, length-replicate {A = ℕ}, c.requires.area)) (length-halo_block n _ _ _ _)
    ∙ ap (λ (l : List ℕ). halo_block n w.set l w.mx w.my) (window_whole (n + 5) a.halo.now size)
    ∙ sym (block_as n a.halo.now e.0 e.1 e.2))
    (c.clips_of.ensures ∙ halo-digits n a.set a.halo.now a.mx a.my (few (side_most c.requires.side)) (tally n a.halo.now w size e c.filter_square-tally.ensures.value))
