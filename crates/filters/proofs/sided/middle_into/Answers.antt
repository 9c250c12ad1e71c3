-- `sided::middle_into` meets its contract: both passes with a fraction of 0 leave a sample as it is.
use Rattle.std.proofs.Common.{◌≡◌, List, ℕ, ◌+◌, ◌*◌, ◌<◌, get_or, sym, ap, ◌∙◌, arith}
use Rattle.rfc6386.specs.Raster.{written}
use Rattle.rfc6386.specs.Picture.{halo_block}
use Rattle.rfc6386.proofs.Laws.Raster.{get_or-raster, written_ext}
use Rattle.rfc6386.specs.declared.FilterSet.{FilterSet}
use Rattle.steps.specs.Window.{window_list, put_at}
use Rattle.steps.proofs.Laws.Windows.{window_sample_lem}
use Rattle.steps.proofs.Laws.Samples.{middle_sample}
use Rattle.filters.proofs.sided.middle_into.Goals as goal

-- what a copy of the middle leaves
copied : (n : ℕ) (set : FilterSet) (src : List ℕ) (at pitch : ℕ) (d : List ℕ) (stride x y : ℕ) {d' : List ℕ} → ((i : ℕ) → get_or src i 0 < 256)
    → d' ≡ written d stride x y n n (λ r c. get_or src (at + 2 * pitch + 2 + r * pitch + c) 0)
    → d' ≡ put_at d stride x y n (halo_block n set (window_list (n + 5) src at pitch) 0 0)
unfolding halo_block
copied n set src at pitch d stride x y bytes w =
    w
    ∙ written_ext d stride x y n n _ _
    (λ r c hr hc.
    middle_sample set src at pitch bytes r c
    ∙ window_sample_lem n set src at pitch 0 0 r c hr hc
    ∙ sym (ap (λ (i : ℕ). get_or (halo_block n set (window_list (n + 5) src at pitch) 0 0) i 0) (omega arith) ∙ get_or-raster n n _ r c hr hc))

pub returns : goal.returns
returns g c =
    let a = c.args in
    λ set.
    copied g.row.SIDE set a.src.now a.window.at a.window.pitch a.out.now a.spot.stride a.spot.x a.spot.y (λ i. omega (arith, c.type_inv.src i)) c.copy_rect.ensures
