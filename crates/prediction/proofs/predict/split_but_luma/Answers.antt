-- `split_but_luma` has the chroma of split prediction, what that takes, and where its luma stands. Assumes nothing.
use Rattle.std.proofs.Common.{◌≡◌, refl, sym, ap, ap₂, ◌∙◌, List, ◌++◌, map, ℕ, ◌+◌, ◌*◌, arith}
use Rattle.rfc6386.specs.Vector.{each, lowered, luma_vector, sent, quarter_averages, quarter_vector}
use Rattle.rfc6386.specs.declared.Lowering.{Lowering}
use Rattle.rfc6386.specs.Picture.{Plane, image, block_by}
use Rattle.rfc6386.specs.Fetched.{tiles_of}
use Rattle.rfc6386.specs.Clips.{both_clips, clips_by}
use Rattle.rfc6386.specs.Macroblock.{Source, Reference, side_plane, lent, plane_u, plane_v, quarter, subblock, split, split_samples}
use Rattle.rfc6386.specs.Report.{split_chroma_of, split_clips}
use Rattle.rfc6386.proofs.Laws.Refusals.{done_is}
use Rattle.rfc6386.proofs.Laws.Merging.{block_by_ext}
use Rattle.rfc6386.specs.declared.Mv.{Mv}
use Rattle.rfc6386.specs.declared.FilterSet.{FilterSet}
use Rattle.blocks.specs.Lents.{plane_in}
use Rattle.blocks.specs.declared.chroma.Chroma.{Chroma}
use Rattle.blocks.specs.declared.lent.Lent.{Lent}
use Rattle.prediction.specs.Stands.{Stands}
use Rattle.prediction.specs.Tiles.{tiles_take}
use Rattle.prediction.specs.Luma.{luma_clips}
use Rattle.prediction.proofs.Macroblock.{standing, three, quarter_of_lem, joint-taken}
use Rattle.prediction.proofs.Tiles.{takes_same, takes_few}
use Rattle.prediction.proofs.predict.split_but_luma.Goals as goal

-- a chroma plane, from what `split_chroma` gives by the vectors ks of the quarters
module _ (set : FilterSet) (low : Lowering) (vs : List Mv) {ref : Reference} {s : Source} {col row : ℕ} {p : Lent} (S : Stands ref s 8 col row p)
    {ks : List Mv} (k : ks ≡ map (each (lowered low.chroma)) (quarter_averages vs)) where
  abbrev plane : Plane
  plane = side_plane ref s 8

  quarters : {l : List ℕ} → l ≡ block_by 8 set (image (plane_in p)) p.at.x p.at.y (λ r c. sent ks (quarter r c))
      → l ≡ block_by 8 set (image plane) (col * 8) (row * 8) (λ r c. quarter_vector low vs (quarter r c))
  quarters h =
      h
      ∙ standing S (λ q x y. block_by 8 set (image q) x y (λ r c. sent ks (quarter r c)))
      ∙ ap (λ (vs : List Mv). block_by 8 set (image plane) (col * 8) (row * 8) (λ r c. sent vs (quarter r c))) k
      ∙ block_by_ext 8 set (image plane) (col * 8) (row * 8) _ _ (λ r c hr hc. quarter_of_lem low vs (quarter r c) (omega arith))

  -- and what it takes
  took : tiles_take 2 set (plane_in p) p.at.x p.at.y (sent ks) ≡ tiles_take 2 set plane (col * 8) (row * 8) (quarter_vector low vs)
  took =
      standing S (λ q x y. tiles_take 2 set q x y (sent ks))
      ∙ ap (λ (vs : List Mv). tiles_take 2 set plane (col * 8) (row * 8) (sent vs)) k
      ∙ takes_same 2 set plane (col * 8) (row * 8) _ _ (λ q h. quarter_of_lem low vs q h)

pub returns : goal.returns
unfolding split split_samples split_chroma_of split_clips
returns c =
    let a = c.args in
    let mb = c.squares_of-mb.ensures in
    let q = c.quarter_vectors-mvs.ensures in
    let ks = c.quarter_vectors-mvs.result in
    let both = c.split_chroma.ensures.value in
    let count = c.split_chroma.ensures.all_after in
    let up = c.squares_of-mb.result.chroma.u.lent in
    let vp = c.squares_of-mb.result.chroma.v.lent in
    let ref = lent a.y.now a.u.now a.v.now a.sizes in
    let col = a.mb_col in
    let row = a.mb_row in
    record {
      stands = mb.luma;
      few = takes_few a.set (plane_in up) (plane_in vp) up.at.x up.at.y vp.at.x vp.at.y (sent ks) count;
      completes = λ luma zero e.
          let low : Lowering = record { luma = luma; chroma = a.lower_chroma } in
          done_is (zero ∙ sym c.requires) zero
          (three
          (e ∙ standing mb.luma (λ p x y. block_by 16 a.set (image p) x y (λ r c. luma_vector low (sent a.split_luma_mvs (subblock r c)))))
          (quarters a.set low a.split_luma_mvs mb.chroma_u q (ap (λ (b : Chroma). b.u) both))
          (quarters a.set low a.split_luma_mvs mb.chroma_v q (ap (λ (b : Chroma). b.v) both)));
      sums = λ luma l e.
          let low : Lowering = record { luma = luma; chroma = a.lower_chroma } in
          let vectors = quarter_vector low a.split_luma_mvs in
          let ul = tiles_of 2 (plane_u ref) (col * 8) (row * 8) vectors in
          let vl = tiles_of 2 (plane_v ref) (col * 8) (row * 8) vectors in
          let uk = clips_by 8 a.set (image (plane_u ref)) (col * 8) (row * 8) (λ r c. vectors (quarter r c)) in
          let vk = clips_by 8 a.set (image (plane_v ref)) (col * 8) (row * 8) (λ r c. vectors (quarter r c)) in
          joint-taken l (ul ++ vl) (luma_clips a.set low ref col row a.split_luma_mvs) (both_clips uk vk) e
          (count
          ∙ ap₂ ◌+◌ (took a.set low a.split_luma_mvs mb.chroma_u q) (took a.set low a.split_luma_mvs mb.chroma_v q)
          ∙ joint-taken ul vl uk vk refl refl);
    }
