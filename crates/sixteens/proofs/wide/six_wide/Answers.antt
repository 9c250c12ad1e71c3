-- `wide::six_wide` meets its contract: a pass left out changes nothing.
use Rattle.std.proofs.Common.{refl, ap, ◌∙◌}
use Rattle.rfc6386.proofs.Laws.Sums.{rows_ext}
use Rattle.rfc6386.specs.declared.FilterSet.TheVariants.{Sixtap}
use Rattle.steps.specs.Tally.{part, tally_of}
use Rattle.steps.proofs.Laws.Windows.{window_block_lem, block_as, clips_as}
use Rattle.steps.proofs.Laws.Samples.{across_sample, down_sample, across_clip, down_clip}
use Rattle.steps.proofs.Laws.Tallies.{window_tally}
use Rattle.sixteens.proofs.wide.six_wide.Goals as goal

pub returns-then-way-eq0-clause-value : goal.returns-then-way-eq0-clause-value
returns-then-way-eq0-clause-value c =
    let a = c.args in
    c.pass.ensures.value
    ∙ window_block_lem 16 Sixtap a.halo.src.now a.halo.window.at a.halo.window.pitch 0 a.way.my _
    (λ r k hr hk. down_sample Sixtap a.halo.src.now a.halo.window.at a.halo.window.pitch a.halo.bytes _ a.way.my r k c.taps_of.ensures)
    ∙ block_as 16 _ refl c.if-way-eq0.true refl

pub returns-then-way-eq0-clause-tally_after : goal.returns-then-way-eq0-clause-tally_after
returns-then-way-eq0-clause-tally_after c =
    let a = c.args in
    c.pass.ensures.tally_after
    ∙ rows_ext 16 16 _ _
    (λ r k hr hk.
    ap part (down_clip Sixtap a.halo.src.now a.halo.window.at a.halo.window.pitch a.halo.bytes _ a.way.my r k c.taps_of.ensures))
    ∙ window_tally 16 Sixtap a.halo.src.now a.halo.window.at a.halo.window.pitch 0 a.way.my
    ∙ ap tally_of (clips_as 16 _ refl c.if-way-eq0.true refl)

pub returns-then-way-eq0-2-clause-value : goal.returns-then-way-eq0-2-clause-value
returns-then-way-eq0-2-clause-value c =
    let a = c.args in
    c.pass-then-way-eq0-2.ensures.value
    ∙ window_block_lem 16 Sixtap a.halo.src.now a.halo.window.at a.halo.window.pitch a.way.mx 0 _
    (λ r k hr hk. across_sample Sixtap a.halo.src.now a.halo.window.at a.halo.window.pitch _ a.way.mx r k c.taps_of-then-way-eq0-2.ensures)
    ∙ block_as 16 _ refl refl c.if-way-eq0-2.true

pub returns-then-way-eq0-2-clause-tally_after : goal.returns-then-way-eq0-2-clause-tally_after
returns-then-way-eq0-2-clause-tally_after c =
    let a = c.args in
    c.pass-then-way-eq0-2.ensures.tally_after
    ∙ rows_ext 16 16 _ _
    (λ r k hr hk.
    ap part
    (across_clip Sixtap a.halo.src.now a.halo.window.at a.halo.window.pitch a.halo.bytes _ a.way.mx r k c.taps_of-then-way-eq0-2.ensures))
    ∙ window_tally 16 Sixtap a.halo.src.now a.halo.window.at a.halo.window.pitch a.way.mx 0
    ∙ ap tally_of (clips_as 16 _ refl refl c.if-way-eq0-2.true)
