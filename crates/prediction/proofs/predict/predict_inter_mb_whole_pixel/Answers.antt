-- `predict_inter_mb_whole_pixel` copies three squares, where no fraction is left. Assumes nothing.
use Rattle.std.proofs.Common.{◌≡◌, refl, sym, ap₂, ◌∙◌, cond, ◌&&◌, List, ◌++◌, ℕ, ◌+◌, ◌*◌, length, arith}
use Rattle.rfc6386.specs.Vector.{lowering_of, luma_vector, chroma_vector, is_whole}
use Rattle.rfc6386.specs.declared.Lowering.{Lowering}
use Rattle.rfc6386.specs.Picture.{image, pixels}
use Rattle.rfc6386.specs.Refusal.{or_else}
use Rattle.rfc6386.specs.Clips.{no_clips}
use Rattle.rfc6386.specs.Fetched.{Coordinate, pixels_of}
use Rattle.rfc6386.specs.Report.{whole_pixel_of, whole_pixel_report}
use Rattle.rfc6386.specs.Macroblock.{Reference, lent, plane_y, plane_u, plane_v, refusal, fraction_left, whole_pixel, pixel_samples}
use Rattle.rfc6386.specs.Answer.{Report}
use Rattle.rfc6386.proofs.Laws.Refusals.{or_else_next}
use Rattle.rfc6386.proofs.Laws.Fetched.{length-square, report-done}
use Rattle.rfc6386.specs.declared.Mv.{Mv}
use Rattle.blocks.specs.Lents.{plane_in}
use Rattle.blocks.specs.declared.lent.Lent.{Lent}
use Rattle.prediction.specs.Stands.{Stands}
use Rattle.prediction.proofs.Macroblock.{stood, three, joint}
use Rattle.prediction.proofs.predict.predict_inter_mb_whole_pixel.Goals as goal

module _ (ref : Reference) (col row : ℕ) (mv : Mv) (low : Lowering) where
  -- what is fetched: the list
  abbrev y_list : List Coordinate
  y_list = pixels_of 16 (plane_y ref) (col * 16) (row * 16) (luma_vector low mv)

  abbrev u_list : List Coordinate
  u_list = pixels_of 8 (plane_u ref) (col * 8) (row * 8) (chroma_vector low mv)

  abbrev v_list : List Coordinate
  v_list = pixels_of 8 (plane_v ref) (col * 8) (row * 8) (chroma_vector low mv)

  module _ {m k : Mv} (m-is : m ≡ luma_vector low mv) (k-is : k ≡ chroma_vector low mv) (placed : 0 ≡ refusal ref col row) where
    by_fraction : {n : ℕ} → n ≡ cond (is_whole m && is_whole k) 0 8 → n ≡ or_else (refusal ref col row) (fraction_left low mv)
    by_fraction h = h ∙ ap₂ (λ (x y : Mv). cond (is_whole x && is_whole y) 0 8) m-is k-is ∙ sym (or_else_next _ _ (sym placed))

    -- from what was fetched at places p, q and r
    module _ {p q r : Lent} (P : Stands ref ref.y 16 col row p) (Q : Stands ref ref.u 8 col row q) (R : Stands ref ref.v 8 col row r)
        {of_y of_u of_v : ℕ}
        (y_took : of_y ≡ length (pixels_of 16 (plane_in p) p.at.x p.at.y m))
        (u_took : of_u ≡ length (pixels_of 8 (plane_in q) q.at.x q.at.y k))
        (v_took : of_v ≡ length (pixels_of 8 (plane_in r) r.at.x r.at.y k)) where
      report_is : {ys us vs : List ℕ} → ◌≡◌ {A = ℕ} 0 (cond (is_whole m && is_whole k) 0 8)
          → ys ≡ pixels 16 (image (plane_in p)) p.at.x p.at.y m
          → us ≡ pixels 8 (image (plane_in q)) q.at.x q.at.y k
          → vs ≡ pixels 8 (image (plane_in r)) r.at.x r.at.y k
          → ◌≡◌ {A = Report}
          (record { prediction = record { number = 0; samples = record { y = ys; u = us; v = vs } }; fetched = of_y + (of_u + of_v); clips = no_clips })
          (whole_pixel_report low ref col row mv)
      unfolding whole_pixel_report whole_pixel pixel_samples whole_pixel_of
      report_is whole ys_are us_are vs_are =
          report-done (y_list ++ (u_list ++ v_list)) no_clips (by_fraction whole) refl
          (three
          (ys_are ∙ stood P (λ p x y m. pixels 16 (image p) x y m) m-is)
          (us_are ∙ stood Q (λ p x y m. pixels 8 (image p) x y m) k-is)
          (vs_are ∙ stood R (λ p x y m. pixels 8 (image p) x y m) k-is))
          (joint y_list (u_list ++ v_list)
          (y_took ∙ stood P (λ p x y m. length (pixels_of 16 p x y m)) m-is)
          (joint u_list v_list
          (u_took ∙ stood Q (λ p x y m. length (pixels_of 8 p x y m)) k-is)
          (v_took ∙ stood R (λ p x y m. length (pixels_of 8 p x y m)) k-is)))
          refl

pub overflow_add-result : goal.overflow_add-result
overflow_add-result c = omega (arith, c.pixels_of-2.ensures.fetched_after ∙ length-square 8 _ _ _ _, c.pixels_of-3.ensures.fetched_after ∙ length-square 8 _ _ _ _)

pub overflow_add-result-2 : goal.overflow_add-result-2
overflow_add-result-2 c =
    omega (
      arith,
      c.pixels_of.ensures.fetched_after ∙ length-square 16 _ _ _ _,
      c.pixels_of-2.ensures.fetched_after ∙ length-square 8 _ _ _ _,
      c.pixels_of-3.ensures.fetched_after ∙ length-square 8 _ _ _ _,
    )

pub returns : goal.returns
returns c =
    let a = c.args in
    let mb = c.squares_of-mb.ensures in
    report_is (lent a.y.now a.u.now a.v.now a.sizes) a.mb_col a.mb_row a.luma_mv (lowering_of a.full_pixel) c.luma_vector-luma.ensures c.chroma_vector-chroma.ensures
    (c.in_ok-refusal.ensures) mb.luma mb.chroma_u mb.chroma_v
    c.pixels_of.ensures.fetched_after c.pixels_of-2.ensures.fetched_after c.pixels_of-3.ensures.fetched_after
    (c.in_ok-fraction_left.ensures) c.pixels_of.ensures.value c.pixels_of-2.ensures.value c.pixels_of-3.ensures.value
