-- `wide::mixed_wide` meets its contract: a pass left out changes nothing.
use Rattle.std.proofs.Common.{ℕ, sym, ap, ◌∙◌}
use Rattle.rfc6386.specs.Picture.{halo_block}
use Rattle.rfc6386.specs.declared.FilterSet.TheVariants.{Bilinear}
use Rattle.steps.specs.Window.{window_list}
use Rattle.steps.proofs.Laws.Windows.{window_block_lem}
use Rattle.steps.proofs.Laws.Mixing.{middle}
use Rattle.steps.proofs.Laws.Samples.{mix_across_sample, mix_down_sample}
use Rattle.sixteens.proofs.wide.mixed_wide.Goals as goal

pub returns-then-way-eq0 : goal.returns-then-way-eq0
returns-then-way-eq0 c =
    let a = c.args in
    let t = c.taps_of.result in
    let e = c.taps_of.ensures in
    c.mix_pass.ensures
    ∙ window_block_lem 16 Bilinear a.halo.src.now a.halo.window.at a.halo.window.pitch 0 a.way.my _
    (λ r k hr hk.
    mix_down_sample a.halo.src.now a.halo.window.at a.halo.window.pitch a.halo.bytes t a.way.my (middle a.way.my t c.args.way.down e) e r k)
    ∙ ap (λ (mx : ℕ). halo_block 16 Bilinear (window_list 21 a.halo.src.now a.halo.window.at a.halo.window.pitch) mx a.way.my) (sym c.if-way-eq0.true)

pub returns-then-way-eq0-2 : goal.returns-then-way-eq0-2
returns-then-way-eq0-2 c =
    let a = c.args in
    let t = c.taps_of-then-way-eq0-2.result in
    let e = c.taps_of-then-way-eq0-2.ensures in
    c.mix_pass-then-way-eq0-2.ensures
    ∙ window_block_lem 16 Bilinear a.halo.src.now a.halo.window.at a.halo.window.pitch a.way.mx 0 _
    (λ r k hr hk.
    mix_across_sample a.halo.src.now a.halo.window.at a.halo.window.pitch a.halo.bytes t a.way.mx (middle a.way.mx t c.args.way.across e) e r k)
    ∙ ap (halo_block 16 Bilinear (window_list 21 a.halo.src.now a.halo.window.at a.halo.window.pitch) a.way.mx) (sym c.if-way-eq0-2.true)
