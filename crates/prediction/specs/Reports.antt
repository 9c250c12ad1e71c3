-- A report, from what its blocks take in one number. Assumes nothing.
use Rattle.std.specs.Prelude.{◌≡◌, List, ℕ, ◌+◌, ◌-◌, ◌/◌, ◌%◌, ◌<◌, ◌≤◌, length}
use Rattle.std.proofs.Common.{sym, ◌∙◌, arith}
use Rattle.rfc6386.specs.Clips.{no_clips}
use Rattle.rfc6386.specs.Fetched.{Coordinate}
use Rattle.rfc6386.specs.Report.{reported}
use Rattle.rfc6386.proofs.Laws.Refusals.{done}
use Rattle.rfc6386.specs.declared.Clips.{Clips}
use Rattle.rfc6386.specs.Answer.{Prediction, Report}
use Rattle.blocks.specs.Taken.{taken}
use Rattle.blocks.specs.Laws.{taken_fetched, taken_fit, taken_clips}

module _ (l : List Coordinate) (k : Clips) {all : ℕ} (e : all ≡ taken (length l) k) (few : length l ≤ 1944) (most : k.low + k.high ≤ 384) where
  small : length l < 4294967296
  small = omega arith

  511_at_most : k.low + k.high ≤ 511
  511_at_most = omega arith

  pub apart_fits : all / 4294967296 / 512 ≤ all / 4294967296 % 512
  apart_fits = taken_fit (length l) k small e 511_at_most

  -- THEOREM. Taken apart, into f and c, it is the report of an accepted prediction q.
  pub apart-reported : {p q : Prediction} {f : ℕ} {c : Clips} → p ≡ q → q.number ≡ 0 → f ≡ all % 4294967296
      → c ≡ record { low = all / 4294967296 / 512; high = all / 4294967296 % 512 - all / 4294967296 / 512 }
      → ◌≡◌ {A = Report} (record { prediction = p; fetched = f; clips = c }) (reported q l k)
  apart-reported same zero fetched clips =
      let fetched_is = fetched ∙ taken_fetched (length l) k small e ∙ sym (done (length l) 0 zero) in
      let clips_are = clips ∙ taken_clips (length l) k small e 511_at_most ∙ sym (done k no_clips zero) in
      λ i. record { prediction = same i; fetched = fetched_is i; clips = clips_are i }
