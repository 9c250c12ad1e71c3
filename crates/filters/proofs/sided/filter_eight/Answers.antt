-- `sided::filter_eight` meets its contract: it puts the two strips one below the other, and they are the block of the window.
use Rattle.std.proofs.Common.{◌≡◌, List, ℕ, ◌+◌, ◌*◌, ◌<◌, get_or, sym, ap, ◌∙◌, ◌≤◌, mul-le-mul_left, arith}
use Rattle.rfc6386.specs.Raster.{written}
use Rattle.rfc6386.specs.Picture.{halo_block}
use Rattle.rfc6386.proofs.Laws.Raster.{get_or-raster, written_ext}
use Rattle.rfc6386.specs.declared.FilterSet.{FilterSet}
use Rattle.steps.specs.Rows.{Room}
use Rattle.steps.specs.Window.{window_list, window_sample, put_at, Strips}
use Rattle.steps.proofs.Laws.Windows.{window_sample_lem}
use Rattle.steps.proofs.Laws.Parts.{written_rows}
use Rattle.steps.proofs.Laws.Samples.{lower_sample}
use Rattle.steps.proofs.Laws.Tallies.{window_tally, lower_tally}
use Rattle.filters.proofs.sided.filter_eight.Goals as goal

-- a sample of the block
sample : (set : FilterSet) (l : List ℕ) (at pitch mx my r c : ℕ) → r < 8 → c < 8
    → window_sample set l at pitch mx my r c ≡ get_or (halo_block 8 set (window_list 13 l at pitch) mx my) (0 + r * 8 + c) 0
unfolding halo_block
sample set l at pitch mx my r c hr hc =
    window_sample_lem 8 set l at pitch mx my r c hr hc
    ∙ sym (ap (λ (i : ℕ). get_or (halo_block 8 set (window_list 13 l at pitch) mx my) i 0) (omega arith) ∙ get_or-raster 8 8 _ r c hr hc)

-- the two strips put one below the other are the block
below : (set : FilterSet) (l : List ℕ) (at pitch mx my : ℕ) (d : List ℕ) (stride x y : ℕ) {d₁ d₂ s : List ℕ}
    → Strips 128 4 (window_sample set l at pitch mx my) (window_sample set l (at + 4 * pitch) pitch mx my) s
    → d₁ ≡ written d stride x y 8 4 (λ r c. get_or s (0 + r * 16 + c) 0) → d₂ ≡ written d₁ stride x (y + 4) 8 4 (λ r c. get_or s (8 + r * 16 + c) 0)
    → d₂ ≡ put_at d stride x y 8 (halo_block 8 set (window_list 13 l at pitch) mx my)
below set l at pitch mx my d stride x y {d₁} {d₂} {s} S e₁ e₂ =
    let f : ℕ → ℕ → ℕ = λ r c. get_or (halo_block 8 set (window_list 13 l at pitch) mx my) (0 + r * 8 + c) 0 in
    e₂
    ∙ written_ext d₁ stride x (y + 4) 8 4 _ (λ r c. f (4 + r) c)
    (λ r c hr hc. ap (λ (i : ℕ). get_or s i 0) (omega arith) ∙ S.right r hr c hc ∙ lower_sample set l at pitch 4 mx my r c ∙ sample set l at pitch mx my (4 + r) c (omega arith) hc)
    ∙ ap (λ (l : List ℕ). written l stride x (y + 4) 8 4 (λ r c. f (4 + r) c))
    (e₁ ∙ written_ext d stride x y 8 4 _ f (λ r c hr hc. ap (λ (i : ℕ). get_or s i 0) (omega arith) ∙ S.left r hr c hc ∙ sample set l at pitch mx my r c (omega arith) hc))
    ∙ written_rows d stride x y 8 4 4 f

-- the lower four rows of a rectangle of eight
lower_room : {bytes stride x y : ℕ} → Room bytes stride x y 8 8 → Room bytes stride x (y + 4) 8 4
lower_room {stride = stride} {y = y} R =
    record {
      some = omega arith;
      across = R.across;
      down = λ r h. let e : y + (4 + r) ≡ y + 4 + r = omega arith in omega (arith, R.down (4 + r) (omega arith), ap (λ (k : ℕ). k * stride) e);
    }

pub overflow_add-below : goal.overflow_add-below
overflow_add-below c =
    let R = c.requires.room in
    let s = c.args.spot in
    let wide : 1 ≤ s.stride = omega (arith, R.across) in
    omega (arith, R.down 4 (omega arith), mul-le-mul_left (s.y + 4) wide)

pub copy_rect-requires-2-clause-room : goal.copy_rect-requires-2-clause-room
copy_rect-requires-2-clause-room c =
    let R = lower_room c.requires.room in
    record { some = R.some; across = R.across; down = λ r h. omega (arith, R.down r h, c.copy_rect.auto.dst) }

pub returns-clause-out_after : goal.returns-clause-out_after
returns-clause-out_after c =
    let w = c.args.way in
    below w.set _ _ _ w.mx w.my _ _ _ _ c.filter_strips-strips.ensures.strips c.copy_rect.ensures c.copy_rect-2.ensures

pub returns-clause-value : goal.returns-clause-value
returns-clause-value c =
    let a = c.args in
    let w = a.way in
    c.filter_strips-strips.ensures.tally_after
    ∙ lower_tally 4 4 w.set a.src.now a.window.at a.window.pitch w.mx w.my
    ∙ window_tally 8 w.set a.src.now a.window.at a.window.pitch w.mx w.my
