-- `predict_inter_mb_lowered` is whole prediction: refused by the number, else three blocks where the macroblock stands. Assumes nothing.
use Rattle.std.proofs.Common.{◌≡◌, refl, sym, ap, ap₂, ◌∙◌, List, ◌++◌, ℕ, ◌+◌, ◌-◌, ◌*◌, ◌/◌, ◌%◌, ◌≤◌, length, arith}
use Rattle.rfc6386.specs.Vector.{luma_vector, chroma_vector}
use Rattle.rfc6386.specs.declared.Lowering.{Lowering}
use Rattle.rfc6386.specs.Picture.{image, block}
use Rattle.rfc6386.specs.Fetched.{Coordinate, block_of}
use Rattle.rfc6386.specs.Clips.{both_clips, block_clips}
use Rattle.rfc6386.specs.Macroblock.{Reference, lent, plane_y, plane_u, plane_v, refusal, whole, whole_samples}
use Rattle.rfc6386.specs.Answer.{Prediction, Report}
use Rattle.rfc6386.specs.Report.{whole_of, whole_clips, whole_report}
use Rattle.rfc6386.proofs.Counts.{whole_range}
use Rattle.rfc6386.proofs.Clipping.{whole_le}
use Rattle.rfc6386.proofs.Laws.Refusals.{done_is}
use Rattle.rfc6386.specs.declared.Mv.{Mv}
use Rattle.rfc6386.specs.declared.FilterSet.{FilterSet}
use Rattle.rfc6386.specs.declared.Clips.{Clips}
use Rattle.blocks.specs.Lents.{plane_in}
use Rattle.blocks.specs.Taken.{taken, block_takes}
use Rattle.blocks.specs.declared.chroma.Chroma.{Chroma}
use Rattle.blocks.specs.declared.lent.Lent.{Lent}
use Rattle.prediction.specs.Stands.{Stands}
use Rattle.prediction.specs.Reports.{apart_fits, apart-reported}
use Rattle.prediction.proofs.Macroblock.{stood, stands-as, three, joint-taken}
use Rattle.prediction.proofs.Reports.{sum_fits}
use Rattle.prediction.proofs.predict.predict_inter_mb_lowered.Goals as goal

-- what it is a prediction of, and what that takes
module _ (set : FilterSet) (low : Lowering) (ref : Reference) (col row : ℕ) (mv : Mv) where
  abbrev whole_list : List Coordinate
  whole_list = whole_of low ref col row mv

  abbrev clipped : Clips
  clipped = whole_clips set low ref col row mv

  few : length whole_list ≤ 1944
  few = omega (arith, (whole_range low ref col row mv).1)

  most : clipped.low + clipped.high ≤ 384
  most = whole_le set low ref col row mv

  -- from what the blocks by vectors m and k took where the macroblock stands in the planes p, q and r
  module _ {p q r : Lent} (P : Stands ref ref.y 16 col row p) (Q : Stands ref ref.u 8 col row q) (R : Stands ref ref.v 8 col row r)
      {m k : Mv} (m-is : m ≡ luma_vector low mv) (k-is : k ≡ chroma_vector low mv) {of_luma of_chroma : ℕ}
      (luma_took : of_luma ≡ block_takes 16 set (plane_in p) p.at.x p.at.y m)
      (chroma_took : of_chroma ≡ block_takes 8 set (plane_in q) q.at.x q.at.y k + block_takes 8 set (plane_in r) r.at.x r.at.y k) where
    all_is : of_luma + of_chroma ≡ taken (length whole_list) clipped
    unfolding whole_of whole_clips
    all_is =
        let yl = block_of 16 (plane_y ref) (col * 16) (row * 16) (luma_vector low mv) in
        let ul = block_of 8 (plane_u ref) (col * 8) (row * 8) (chroma_vector low mv) in
        let vl = block_of 8 (plane_v ref) (col * 8) (row * 8) (chroma_vector low mv) in
        let uk = block_clips 8 set (image (plane_u ref)) (col * 8) (row * 8) (chroma_vector low mv) in
        let vk = block_clips 8 set (image (plane_v ref)) (col * 8) (row * 8) (chroma_vector low mv) in
        joint-taken yl (ul ++ vl) (block_clips 16 set (image (plane_y ref)) (col * 16) (row * 16) (luma_vector low mv)) (both_clips uk vk)
        (luma_took ∙ stood P (block_takes 16 set) m-is)
        (chroma_took ∙ ap₂ ◌+◌ (stood Q (block_takes 8 set) k-is) (stood R (block_takes 8 set) k-is) ∙ joint-taken ul vl uk vk refl refl)

    fits : of_luma + of_chroma ≤ 1000000000000000
    fits = sum_fits whole_list clipped all_is few most

    fit : (of_luma + of_chroma) / 4294967296 / 512 ≤ (of_luma + of_chroma) / 4294967296 % 512
    fit = apart_fits whole_list clipped all_is few most

    report_is : {fetched : ℕ} {samples : List ℕ} {blocks : Chroma} {clips : Clips} → ◌≡◌ {A = ℕ} 0 (refusal ref col row)
        → samples ≡ block 16 set (image (plane_in p)) p.at.x p.at.y m
        → blocks ≡ record { u = block 8 set (image (plane_in q)) q.at.x q.at.y k; v = block 8 set (image (plane_in r)) r.at.x r.at.y k }
        → fetched ≡ (of_luma + of_chroma) % 4294967296
        → clips ≡ record { low = (of_luma + of_chroma) / 4294967296 / 512; high = (of_luma + of_chroma) / 4294967296 % 512 - (of_luma + of_chroma) / 4294967296 / 512 }
        → ◌≡◌ {A = Report}
        (record { prediction = record { number = 0; samples = record { y = samples; u = blocks.u; v = blocks.v } }; fetched = fetched; clips = clips })
        (whole_report set low ref col row mv)
    unfolding whole_report whole whole_samples
    report_is number luma_is both fetched_is clips_are =
        let same = done_is number refl
        (three
        (luma_is ∙ stood P (λ p x y m. block 16 set (image p) x y m) m-is)
        (ap (λ (b : Chroma). b.u) both ∙ stood Q (λ p x y m. block 8 set (image p) x y m) k-is)
        (ap (λ (b : Chroma). b.v) both ∙ stood R (λ p x y m. block 8 set (image p) x y m) k-is)) in
        apart-reported whole_list clipped all_is few most same (sym (ap (λ (p : Prediction). p.number) same)) fetched_is clips_are

pub overflow_add-all : goal.overflow_add-all
overflow_add-all c =
    let a = c.args in
    let mb = c.squares_of-mb.ensures in
    omega (
      arith,
      fits a.set a.lowering (lent a.y.now a.u.now a.v.now a.sizes) a.mb_col a.mb_row a.luma_mv mb.luma (stands-as c.first.ensures.u mb.chroma_u) (stands-as c.first.ensures.v mb.chroma_v)
          c.luma_vector-luma.ensures c.chroma_vector-chroma.ensures c.block_of_16-y_samples.ensures.all_after c.blocks_of_8.ensures.all_after,
    )

pub clips-requires : goal.clips-requires
clips-requires c =
    let a = c.args in
    let mb = c.squares_of-mb.ensures in
    fit a.set a.lowering (lent a.y.now a.u.now a.v.now a.sizes) a.mb_col a.mb_row a.luma_mv mb.luma (stands-as c.first.ensures.u mb.chroma_u) (stands-as c.first.ensures.v mb.chroma_v)
    c.luma_vector-luma.ensures c.chroma_vector-chroma.ensures c.block_of_16-y_samples.ensures.all_after c.blocks_of_8.ensures.all_after

pub returns : goal.returns
returns c =
    let a = c.args in
    let mb = c.squares_of-mb.ensures in
    report_is a.set a.lowering (lent a.y.now a.u.now a.v.now a.sizes) a.mb_col a.mb_row a.luma_mv mb.luma (stands-as c.first.ensures.u mb.chroma_u) (stands-as c.first.ensures.v mb.chroma_v)
    c.luma_vector-luma.ensures c.chroma_vector-chroma.ensures c.block_of_16-y_samples.ensures.all_after c.blocks_of_8.ensures.all_after
    c.in_ok-refusal.ensures c.block_of_16-y_samples.ensures.value c.blocks_of_8.ensures.value c.fetched.ensures c.clips.ensures
