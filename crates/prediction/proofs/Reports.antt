-- What is reported of a macroblock that is not refused, from what its blocks take: where they come to a list that fetches 1944 samples at most,
-- and to totals of 384 at most. Assumes nothing.
use Rattle.std.proofs.Common.{◌≡◌, refl, sym, ap, List, ◌++◌, ℕ, ◌+◌, ◌-◌, ◌*◌, ◌/◌, ◌%◌, ◌≤◌, length, arith}
use Rattle.rfc6386.specs.declared.Lowering.{Lowering}
use Rattle.rfc6386.specs.Fetched.{Coordinate}
use Rattle.rfc6386.specs.Macroblock.{Reference, split}
use Rattle.rfc6386.specs.Report.{reported, split_chroma_of, split_clips}
use Rattle.rfc6386.specs.Answer.{Prediction, Report}
use Rattle.rfc6386.proofs.Clipping.{split_le}
use Rattle.rfc6386.specs.declared.Mv.{Mv}
use Rattle.rfc6386.specs.declared.FilterSet.{FilterSet}
use Rattle.rfc6386.specs.declared.Clips.{Clips}
use Rattle.blocks.specs.Taken.{taken}
use Rattle.prediction.specs.Luma.{luma_block_at, luma_clips, ButLuma}
use Rattle.prediction.specs.Reports.{apart_fits, apart-reported}
use Rattle.prediction.specs.declared.predict.Rest.{Rest}

-- what is taken fits 64 bits
module _ (l : List Coordinate) (k : Clips) {all : ℕ} (e : all ≡ taken (length l) k) (few : length l ≤ 1944) (most : k.low + k.high ≤ 384) where
  pub sum_fits : all ≤ 1000000000000000
  sum_fits = fits (length l) k.low k.high few most e
    where
      fits : (f low high : ℕ) → f ≤ 1944 → low + high ≤ 384 → all ≡ f + 4294967296 * (low + high + 512 * low) → all ≤ 1000000000000000
      fits f low high h g e = omega arith

-- a split macroblock, whatever list its luma fetches: what is left of it, and what its luma took
module _ (set : FilterSet) (low : Lowering) (ref : Reference) (col row : ℕ) (vs : List Mv) (l : List Coordinate) (few : length (l ++ split_chroma_of low ref col row vs) ≤ 1944)
    {rest : Rest} {all count : ℕ} (R : ButLuma set low.chroma ref col row vs rest all) (took : count ≡ taken (length l) (luma_clips set low ref col row vs)) where
  abbrev list : List Coordinate
  list = l ++ split_chroma_of low ref col row vs

  abbrev clipped : Clips
  clipped = split_clips set low ref col row vs

  all_is : count + all ≡ taken (length list) clipped
  all_is = R.sums low.luma l took

  pub split_fits : count + all ≤ 1000000000000000
  split_fits = sum_fits list clipped all_is few (split_le set low ref col row vs)

  pub split_apart : (count + all) / 4294967296 / 512 ≤ (count + all) / 4294967296 % 512
  split_apart = apart_fits list clipped all_is few (split_le set low ref col row vs)

  pub split_reported : {fetched : ℕ} {samples : List ℕ} {clips : Clips} → samples ≡ luma_block_at set low rest.luma.lent.plane.now vs rest.luma.lent.at
      → fetched ≡ (count + all) % 4294967296
      → clips ≡ record { low = (count + all) / 4294967296 / 512; high = (count + all) / 4294967296 % 512 - (count + all) / 4294967296 / 512 }
      → ◌≡◌ {A = Report}
      (record { prediction = record { number = 0; samples = record { y = samples; u = rest.chroma.u; v = rest.chroma.v } }; fetched = fetched; clips = clips })
      (reported (split set low ref col row vs) list clipped)
  split_reported luma_is fetched_is clips_are =
      let same = R.completes low.luma refl luma_is in
      apart-reported list clipped all_is few (split_le set low ref col row vs) same (sym (ap (λ (p : Prediction). p.number) same)) fetched_is clips_are
