-- `strips::six_strips` meets its contract: a pass left out changes nothing.
use Rattle.std.proofs.Common.{◌≡◌, List, ℕ, ◌+◌, ◌*◌, ◌<◌, ℤ, get_or, refl, sym, ap, ap₂, ◌∙◌}
use Rattle.rfc6386.specs.Filter.{taps_of}
use Rattle.rfc6386.specs.Picture.{step_at}
use Rattle.rfc6386.specs.Clips.{clip_at}
use Rattle.rfc6386.specs.declared.FilterSet.TheVariants.{Sixtap}
use Rattle.steps.specs.Window.{window_sample, window_clip}
use Rattle.steps.proofs.Laws.Samples.{across_sample, down_sample, across_clip, down_clip}
use Rattle.steps.proofs.Laws.Tallies.{strip_ext}
use Rattle.sixteens.proofs.Halves.{strips_as}
use Rattle.sixteens.proofs.strips.six_strips.Goals as goal

-- ---- one of the windows, where a fraction is 0: what the other pass leaves, and what it clips
module _ (src : List ℕ) (at pitch : ℕ) (bytes : (i : ℕ) → get_or src i 0 < 256) {ts : List ℤ} where
  down : {mx : ℕ} (my : ℕ) → mx ≡ 0 → ts ≡ taps_of Sixtap my → (r c : ℕ) → step_at ts src (at + 2 + r * pitch + c) pitch ≡ window_sample Sixtap src at pitch mx my r c
  down my z e r c = down_sample Sixtap src at pitch bytes ts my r c e ∙ ap (λ (mx : ℕ). window_sample Sixtap src at pitch mx my r c) (sym z)

  down-clips : {mx : ℕ} (my : ℕ) → mx ≡ 0 → ts ≡ taps_of Sixtap my → (r c : ℕ) → clip_at ts src (at + 2 + r * pitch + c) pitch ≡ window_clip Sixtap src at pitch mx my r c
  down-clips my z e r c = down_clip Sixtap src at pitch bytes ts my r c e ∙ ap (λ (mx : ℕ). window_clip Sixtap src at pitch mx my r c) (sym z)

  across : (mx : ℕ) {my : ℕ} → my ≡ 0 → ts ≡ taps_of Sixtap mx → (r c : ℕ) → step_at ts src (at + 2 * pitch + r * pitch + c) 1 ≡ window_sample Sixtap src at pitch mx my r c
  across mx z e r c = across_sample Sixtap src at pitch ts mx r c e ∙ ap (λ (my : ℕ). window_sample Sixtap src at pitch mx my r c) (sym z)

  across-clips : (mx : ℕ) {my : ℕ} → my ≡ 0 → ts ≡ taps_of Sixtap mx → (r c : ℕ) → clip_at ts src (at + 2 * pitch + r * pitch + c) 1 ≡ window_clip Sixtap src at pitch mx my r c
  across-clips mx z e r c = across_clip Sixtap src at pitch bytes ts mx r c e ∙ ap (λ (my : ℕ). window_clip Sixtap src at pitch mx my r c) (sym z)

pub returns-then-way-eq0-clause-strips : goal.returns-then-way-eq0-clause-strips
returns-then-way-eq0-clause-strips c =
    let a = c.args in
    let t = c.taps_of.ensures in
    let z = c.if-way-eq0.true in
    strips_as c.pass.ensures.strips refl
    (down a.pair.left.now a.pair.l.at a.pair.l.pitch a.pair.left_bytes a.way.my z t) (down a.pair.right.now a.pair.r.at a.pair.r.pitch a.pair.right_bytes a.way.my z t)

pub returns-then-way-eq0-clause-tally_after : goal.returns-then-way-eq0-clause-tally_after
returns-then-way-eq0-clause-tally_after c =
    let a = c.args in
    let t = c.taps_of.ensures in
    let z = c.if-way-eq0.true in
    c.pass.ensures.tally_after
    ∙ ap₂ ◌+◌
    (strip_ext a.pair.rows (down-clips a.pair.left.now a.pair.l.at a.pair.l.pitch a.pair.left_bytes a.way.my z t))
    (strip_ext a.pair.rows (down-clips a.pair.right.now a.pair.r.at a.pair.r.pitch a.pair.right_bytes a.way.my z t))

pub returns-then-way-eq0-2-clause-strips : goal.returns-then-way-eq0-2-clause-strips
returns-then-way-eq0-2-clause-strips c =
    let a = c.args in
    let t = c.taps_of-then-way-eq0-2.ensures in
    let z = c.if-way-eq0-2.true in
    strips_as c.pass-then-way-eq0-2.ensures.strips refl
    (across a.pair.left.now a.pair.l.at a.pair.l.pitch a.pair.left_bytes a.way.mx z t)
    (across a.pair.right.now a.pair.r.at a.pair.r.pitch a.pair.right_bytes a.way.mx z t)

pub returns-then-way-eq0-2-clause-tally_after : goal.returns-then-way-eq0-2-clause-tally_after
returns-then-way-eq0-2-clause-tally_after c =
    let a = c.args in
    let t = c.taps_of-then-way-eq0-2.ensures in
    let z = c.if-way-eq0-2.true in
    c.pass-then-way-eq0-2.ensures.tally_after
    ∙ ap₂ ◌+◌
    (strip_ext a.pair.rows (across-clips a.pair.left.now a.pair.l.at a.pair.l.pitch a.pair.left_bytes a.way.mx z t))
    (strip_ext a.pair.rows (across-clips a.pair.right.now a.pair.r.at a.pair.r.pitch a.pair.right_bytes a.way.mx z t))
