-- Laws of places and of what blocks take, that proofs of the crates above cite. Assumes nothing.
use Rattle.std.specs.Prelude.{◌≡◌, Bool, true, false, cond, ℕ, ◌+◌, ◌-◌, ◌*◌, ◌/◌, ◌%◌, ◌<◌, ◌≤◌, length}
use Rattle.std.proofs.Common.{sym, ap, ◌∙◌, mul-le-mul, arith}
use Rattle.rfc6386.specs.Vector.{is_whole}
use Rattle.rfc6386.specs.Picture.{Plane, image}
use Rattle.rfc6386.specs.Fetched.{block_of}
use Rattle.rfc6386.specs.Clips.{both_clips, block_clips}
use Rattle.rfc6386.proofs.Laws.Fetched.{length-block}
use Rattle.rfc6386.proofs.Laws.Clipping.{block_clips_le}
use Rattle.rfc6386.specs.declared.Mv.{Mv}
use Rattle.rfc6386.specs.declared.FilterSet.{FilterSet}
use Rattle.rfc6386.specs.declared.Clips.{Clips}
use Rattle.steps.specs.Tally.{tally_of}
use Rattle.steps.proofs.Laws.Tallies.{digits, digits_fit}
use Rattle.blocks.specs.Places.{Alike}
use Rattle.blocks.specs.Taken.{taken, block_takes}
use Rattle.blocks.specs.declared.place.Place.{Place}

-- alike places stay so, the same number of columns and rows further on
pub alike_from : {p q p' q' : Place} (x y : ℕ) → Alike p q → p' ≡ record { stride = p.stride; w = p.w; h = p.h; x = p.x + x; y = p.y + y }
    → q' ≡ record { stride = q.stride; w = q.w; h = q.h; x = q.x + x; y = q.y + y } → Alike p' q'
alike_from x y A e f =
    record {
      width = ap (λ (p : Place). p.w) e ∙ A.width ∙ sym (ap (λ (p : Place). p.w) f);
      height = ap (λ (p : Place). p.h) e ∙ A.height ∙ sym (ap (λ (p : Place). p.h) f);
      column = ap (λ (p : Place). p.x) e ∙ ap (λ (k : ℕ). k + x) A.column ∙ sym (ap (λ (p : Place). p.x) f);
      row = ap (λ (p : Place). p.y) e ∙ ap (λ (k : ℕ). k + y) A.row ∙ sym (ap (λ (p : Place). p.y) f);
    }

-- ---- what blocks take
pub taken_both : (m n : ℕ) (k l : Clips) → taken m k + taken n l ≡ taken (m + n) (both_clips k l)
taken_both m n k l = omega arith

-- the two parts of a number, again
upper : (n tally : ℕ) {all : ℕ} → n < 4294967296 → all ≡ n + 4294967296 * tally → all / 4294967296 ≡ tally
upper n tally h e = omega arith

lower : (n tally : ℕ) {all : ℕ} → n < 4294967296 → all ≡ n + 4294967296 * tally → all % 4294967296 ≡ n
lower n tally h e = omega arith

-- THEOREM. What was put together comes apart: the count, and, where no more than 511 are clipped, the totals.
module _ (n : ℕ) (k : Clips) {all : ℕ} (few : n < 4294967296) (e : all ≡ taken n k) where
  pub taken_fetched : all % 4294967296 ≡ n
  taken_fetched = lower n (tally_of k) few e

  pub taken_fit : k.low + k.high ≤ 511 → all / 4294967296 / 512 ≤ all / 4294967296 % 512
  taken_fit h = digits_fit k h (upper n (tally_of k) few e)

  pub taken_clips : k.low + k.high ≤ 511
      → ◌≡◌ {A = Clips} (record { low = all / 4294967296 / 512; high = all / 4294967296 % 512 - all / 4294967296 / 512 }) k
  taken_clips h = digits k h (upper n (tally_of k) few e)

-- ---- how much one block takes at most
pub block_fetched_most : (n : ℕ) (p : Plane) (x y : ℕ) (v : Mv) → n ≤ 16 → length (block_of n p x y v) ≤ 441
block_fetched_most n p x y v h = omega (arith, length-block n p x y v, at (is_whole v))
  where
    at : (b : Bool) → cond b (n * n) ((n + 5) * (n + 5)) ≤ 441
    at true = omega (arith, mul-le-mul {n₂ = 16} {m₂ = 16} h h)
    at false = let k : n + 5 ≤ 21 = omega arith in mul-le-mul {n₂ = 21} {m₂ = 21} k k

pub block_clips_most : (n : ℕ) (set : FilterSet) (p : Plane) (x y : ℕ) (v : Mv) → n ≤ 16
    → (block_clips n set (image p) x y v).low + (block_clips n set (image p) x y v).high ≤ 256
unfolding block_clips
block_clips_most n set p x y v h = omega (arith, block_clips_le n set (image p) x y (λ r c. v), mul-le-mul {n₂ = 16} {m₂ = 16} h h)

most : (f low high : ℕ) → f ≤ 441 → low + high ≤ 256 → f + 4294967296 * (low + high + 512 * low) ≤ 1000000000000000
most f low high h k = omega arith

pub takes_most : (n : ℕ) (set : FilterSet) (p : Plane) (x y : ℕ) (v : Mv) → n ≤ 16 → block_takes n set p x y v ≤ 1000000000000000
takes_most n set p x y v h =
    most _ (block_clips n set (image p) x y v).low (block_clips n set (image p) x y v).high (block_fetched_most n p x y v h) (block_clips_most n set p x y v h)
