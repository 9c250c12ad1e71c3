-- `chroma::apart` copies each strip over all of a list. Assumes nothing.
use Rattle.std.proofs.Common.{refl, ◌∙◌}
use Rattle.rfc6386.proofs.Laws.Raster.{written_all}
use Rattle.blocks.proofs.chroma.apart.Goals as goal

pub returns : goal.returns
returns c =
    let u = c.copy_rect.ensures ∙ written_all _ 8 8 _ refl in
    let v = c.copy_rect-2.ensures ∙ written_all _ 8 8 _ refl in
    λ i. record { u = u i; v = v i }
