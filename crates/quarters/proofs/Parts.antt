-- Squares and their quarters, over the side. Assumes nothing.
use mathlib.Core.Path.{◌≡◌, refl, sym, ap, ap₂, ◌∙◌, subst}
use mathlib.Core.Bool.{Bool, true, false, cond, ◌&&◌, ◌||◌}
use mathlib.Core.Logic.{inl, inr}
use mathlib.Core.List.{List}
use Prim.Native.Nat.{ℕ, ◌+◌, ◌-◌, ◌*◌, ◌/◌, ◌%◌, ◌<◌, ◌≤◌}
use native.Mathlib.Nat.{mul-le-mul}
use native.Mathlib.Omega.{arith}
use lib.ListN.{length, get_or}
use lib.IntN.{pos}
use lib.Seq.{ext_get_or}
use Rattle.rfc6386.specs.Raster.{within}
use Rattle.rfc6386.specs.Vector.{luma_vector, sent}
use Rattle.rfc6386.specs.declared.Lowering.{Lowering}
use Rattle.rfc6386.specs.Picture.{Plane, Image, image, block, block_by}
use Rattle.rfc6386.specs.Fetched.{block_of, tiles_of}
use Rattle.rfc6386.specs.Sums.{sum_rows}
use Rattle.rfc6386.specs.Clips.{predicted_clip, block_clips, clips_by}
use Rattle.rfc6386.specs.Macroblock.{subblock}
use Rattle.rfc6386.specs.Report.{one_in, luma}
use Rattle.rfc6386.proofs.Laws.Raster.{raster_ext, get_or-written, length-written, written_ext, written_all, within_is}
use Rattle.rfc6386.proofs.Laws.Blocks.{block_at, block_part}
use Rattle.rfc6386.proofs.Laws.Fetched.{cost, length-block, length_tiles, cost_most, one_in_lem, luma_apart, luma_one, luma_least, luma_split, luma_most}
use Rattle.rfc6386.proofs.Laws.Sums.{sum_le, rows_ext, sum_quarters}
use Rattle.rfc6386.proofs.Laws.Clipping.{totals_ext, totals_le}
use Rattle.rfc6386.specs.declared.Mv.{Mv}
use Rattle.rfc6386.specs.declared.FilterSet.{FilterSet}
use Rattle.rfc6386.specs.declared.Clips.{Clips}
use Rattle.steps.specs.Rows.{Room}
use Rattle.steps.specs.Side.{Side}
use Rattle.steps.specs.Tally as clip
use Rattle.steps.specs.Tally.{tally_of}
use Rattle.steps.specs.Window.{put_at}
use Rattle.steps.proofs.Laws.Parts.{within_parts}
use Rattle.steps.proofs.Laws.Tallies.{tally-totals}
use Rattle.blocks.specs.Taken.{taken, block_takes}
use Rattle.prediction.specs.Tiles.{tiles_take}
use Rattle.quarters.specs.Parts.{Square, part, OneVector, square_clips, square_takes}

-- ---- sides
-- what arithmetic needs of a side
pub record Sized (n : ℕ) : Type 0 where
  pub blocks : n % 4 ≡ 0
  pub least : 4 ≤ n

pub sized : {x y n : ℕ} → Square x y n → Sized n
sized {n = n} S = of S.side
  where
    of : Side n → Sized n
    of (inl e) = record { blocks = omega arith; least = omega arith }
    of (inr (inl e)) = record { blocks = omega arith; least = omega arith }
    of (inr (inr e)) = record { blocks = omega arith; least = omega arith }

-- its corner lies inside
pub corner : {x y n : ℕ} → Square x y n → (x < 16) × (y < 16)
corner S = (omega (arith, (sized S).least, S.across), omega (arith, (sized S).least, S.down))

-- it lies in a list of sixteen rows of sixteen
pub room : {x y n bytes : ℕ} → Square x y n → bytes ≡ 256 → Room bytes 16 x y n n
room S e = record { some = omega (arith, (sized S).least); across = S.across; down = λ r h. omega (arith, S.across, S.down) }

-- a square of another side than 4 and its four quarters
pub record Quarters (x y n h : ℕ) : Type 0 where
  pub twice : h + h ≡ n
  pub less : h < n
  pub first : Square x y h
  pub right : Square (x + h) y h
  pub below : Square x (y + h) h
  pub last : Square (x + h) (y + h) h

pub quarters : {x y n : ℕ} → Square x y n → ¬ (n ≡ 4) → Quarters x y n (n / 2)
quarters {x} {y} {n} S f = of S.side
  where
    with_half : Side (n / 2) → n / 2 % 4 ≡ 0 → n / 2 + n / 2 ≡ n → 4 ≤ n → Quarters x y n (n / 2)
    with_half side blocks twice least =
        record {
          twice = twice;
          less = omega arith;
          first = at x y S.column S.row (omega arith) (omega arith);
          right = at (x + n / 2) y (omega (arith, S.column)) S.row (omega arith) (omega arith);
          below = at x (y + n / 2) S.column (omega (arith, S.row)) (omega arith) (omega arith);
          last = at (x + n / 2) (y + n / 2) (omega (arith, S.column)) (omega (arith, S.row)) (omega arith) (omega arith);
        }
      where
        at : (x' y' : ℕ) → x' % 4 ≡ 0 → y' % 4 ≡ 0 → x' ≤ x + n / 2 → y' ≤ y + n / 2 → Square x' y' (n / 2)
        at x' y' p q k l = record { side = side; column = p; row = q; across = omega (arith, S.across); down = omega (arith, S.down) }

    of : Side n → Quarters x y n (n / 2)
    of (inl e) = absurd (f e)
    of (inr (inl e)) = with_half (inl (omega arith)) (omega arith) (omega arith) (omega arith)
    of (inr (inr e)) = with_half (inr (inl (omega arith))) (omega arith) (omega arith) (omega arith)

-- ---- one vector
place : {x y n : ℕ} → Square x y n → (r c : ℕ) → subblock (y + r) (x + c) ≡ y / 4 * 4 + x / 4 + r / 4 * 4 + c / 4
place S r c = omega (arith, S.column, S.row)

module _ {mvs : List Mv} {x y n : ℕ} (S : Square x y n) where
  -- the test by rows of blocks is the test of the square
  pub by_rows : ((i : ℕ) → i < n / 4 → (k : ℕ) → k < n / 4 → sent mvs (y / 4 * 4 + x / 4 + i * 4 + k) ≡ sent mvs (y / 4 * 4 + x / 4)) → OneVector mvs x y n
  by_rows h =
      let s = sized S in
      record { alike = λ r c hr hc. ap (sent mvs) (place S r c) ∙ h (r / 4) (omega (arith, s.blocks)) (c / 4) (omega (arith, s.blocks)) }

  pub rows_of : OneVector mvs x y n → (i : ℕ) → i < n / 4 → (k : ℕ) → k < n / 4 → sent mvs (y / 4 * 4 + x / 4 + i * 4 + k) ≡ sent mvs (y / 4 * 4 + x / 4)
  rows_of O i hi k hk =
      let e : y / 4 * 4 + x / 4 + i * 4 + k ≡ subblock (y + i * 4) (x + k * 4) = omega (arith, S.column, S.row) in
      ap (sent mvs) e ∙ O.alike (i * 4) (k * 4) (omega arith) (omega arith)

  -- a square of side 4 is one block
  pub one-of_4 : n ≡ 4 → OneVector mvs x y n
  one-of_4 e =
      record {
        alike = λ r c hr hc. let p : subblock (y + r) (x + c) ≡ subblock y x = omega (arith, S.column, S.row) in ap (sent mvs) p;
      }

-- ---- what is written
-- a block of one vector, where the vectors of the square are that one
pub one-part : (n : ℕ) (set : FilterSet) (img : Image) (x y : ℕ) (low : Lowering) (mvs : List Mv) (at_x at_y : ℕ) (out : List ℕ) {v : Mv}
    → Square at_x at_y n → OneVector mvs at_x at_y n → v ≡ luma_vector low (sent mvs (subblock at_y at_x))
    → put_at out 16 at_x at_y n (block n set img (x + at_x) (y + at_y) v)
    ≡ part (block_by 16 set img x y (λ r c. luma_vector low (sent mvs (subblock r c)))) out at_x at_y n
unfolding block part
one-part n set img x y low mvs at_x at_y out {v} S O e =
    written_ext out 16 at_x at_y n n _ _
    (λ r c hr hc.
    let z : 0 + r * n + c ≡ r * n + c = omega arith in
    ap (λ (k : ℕ). get_or (block_by n set img (x + at_x) (y + at_y) (λ r c. v)) k 0) z
    ∙ block_part 16 n set img x y at_y at_x (λ r c. luma_vector low (sent mvs (subblock r c))) (λ r c. v) r c hr hc S.down S.across
    (e ∙ ap (luma_vector low) (sym (O.alike r c hr hc))))

-- byte i of out with a square of all
module _ (all out : List ℕ) (x y n : ℕ) where
  pub part_at : (i : ℕ) → i < length out → get_or (part all out x y n) i 0 ≡ cond (within y n (i / 16) && within x n (i % 16)) (get_or all i 0) (get_or out i 0)
  unfolding part
  part_at i h = get_or-written out 16 x y n n (λ r c. get_or all ((y + r) * 16 + (x + c)) 0) i h ∙ at (within y n (i / 16)) (within x n (i % 16)) refl refl
    where
      at : (R C : Bool) → within y n (i / 16) ≡ R → within x n (i % 16) ≡ C
          → cond (R && C) (get_or all ((y + (i / 16 - y)) * 16 + (x + (i % 16 - x))) 0) (get_or out i 0) ≡ cond (R && C) (get_or all i 0) (get_or out i 0)
      at true true p q =
          let r = within_is y n (i / 16) p in
          let c = within_is x n (i % 16) q in
          let e : (y + (i / 16 - y)) * 16 + (x + (i % 16 - x)) ≡ i = omega (arith, r.from, c.from) in
          ap (λ (k : ℕ). get_or all k 0) e
      at true false p q = refl
      at false C p q = refl

  pub length_part : length (part all out x y n) ≡ length out
  unfolding part
  length_part = length-written out 16 x y n n (λ r c. get_or all ((y + r) * 16 + (x + c)) 0)

-- a stretch of n is its two halves
halves : (a h n k : ℕ) → h + h ≡ n → within a n k ≡ within a h k || within (a + h) h k
halves a h n k e = sym (ap (λ (m : ℕ). within a m k) e) ∙ within_parts a h h k

-- rows R above rows R', columns C before columns C': what the four quarters write, one after the other
over : (a d : ℕ) (p q : Bool) → cond (p || q) a d ≡ cond q a (cond p a d)
over a d true true = refl
over a d true false = refl
over a d false q = refl

four : (a d : ℕ) (R R' C C' : Bool) → cond ((R || R') && (C || C')) a d ≡ cond (R' && C') a (cond (R' && C) a (cond (R && C') a (cond (R && C) a d)))
four a d false false C C' = refl
four a d false true C C' = over a d C C'
four a d true false C C' = over a d C C'
four a d true true true true = refl
four a d true true true false = refl
four a d true true false true = refl
four a d true true false false = refl

-- THEOREM. A square is its four quarters, whatever its side.
module _ (all d₀ : List ℕ) (x y h n : ℕ) (twice : h + h ≡ n) where
  abbrev d₁ : List ℕ
  d₁ = part all d₀ x y h

  abbrev d₂ : List ℕ
  d₂ = part all d₁ (x + h) y h

  abbrev d₃ : List ℕ
  d₃ = part all d₂ x (y + h) h

  abbrev d₄ : List ℕ
  d₄ = part all d₃ (x + h) (y + h) h

  l₁ : length d₁ ≡ length d₀
  l₁ = length_part all d₀ x y h

  l₂ : length d₂ ≡ length d₀
  l₂ = length_part all d₁ (x + h) y h ∙ l₁

  l₃ : length d₃ ≡ length d₀
  l₃ = length_part all d₂ x (y + h) h ∙ l₂

  pub part_quarters : d₄ ≡ part all d₀ x y n
  part_quarters =
      ext_get_or 0 d₄ (part all d₀ x y n) (length_part all d₃ (x + h) (y + h) h ∙ l₃ ∙ sym (length_part all d₀ x y n)) (λ i k. at i (omega (arith, length_part all d₃ (x + h) (y + h) h, l₃)))
    where
      at : (i : ℕ) → i < length d₀ → get_or d₄ i 0 ≡ get_or (part all d₀ x y n) i 0
      at i k =
          let a = get_or all i 0 in
          let R = within y h (i / 16) in
          let R' = within (y + h) h (i / 16) in
          let C = within x h (i % 16) in
          let C' = within (x + h) h (i % 16) in
          part_at all d₃ (x + h) (y + h) h i (omega (arith, l₃))
          ∙ ap (λ (z : ℕ). cond (R' && C') a z)
          (part_at all d₂ x (y + h) h i (omega (arith, l₂))
          ∙ ap (λ (z : ℕ). cond (R' && C) a z)
          (part_at all d₁ (x + h) y h i (omega (arith, l₁)) ∙ ap (λ (z : ℕ). cond (R && C') a z) (part_at all d₀ x y h i k)))
          ∙ sym
          (part_at all d₀ x y n i k
          ∙ ap₂ (λ (p q : Bool). cond (p && q) a (get_or d₀ i 0)) (halves y h n (i / 16) twice) (halves x h n (i % 16) twice)
          ∙ four a (get_or d₀ i 0) R R' C C')

-- the same, as four calls leave it
pub quarters_are : (all d₀ : List ℕ) (x y h n : ℕ) {d₁ d₂ d₃ d₄ : List ℕ} → h + h ≡ n
    → d₁ ≡ part all d₀ x y h → d₂ ≡ part all d₁ (x + h) y h → d₃ ≡ part all d₂ x (y + h) h → d₄ ≡ part all d₃ (x + h) (y + h) h
    → d₄ ≡ part all d₀ x y n
quarters_are all d₀ x y h n twice e₁ e₂ e₃ e₄ =
    e₄
    ∙ ap (λ (l : List ℕ). part all l (x + h) (y + h) h) (e₃ ∙ ap (λ (l : List ℕ). part all l x (y + h) h) (e₂ ∙ ap (λ (l : List ℕ). part all l (x + h) y h) e₁))
    ∙ part_quarters all d₀ x y h n twice

-- THEOREM. The square of side 16 is all there is.
pub part_all : (set : FilterSet) (img : Image) (x y : ℕ) (f : ℕ → ℕ → Mv) (out : List ℕ) → length out ≡ 256
    → part (block_by 16 set img x y f) out 0 0 16 ≡ block_by 16 set img x y f
unfolding block_by part
part_all set img x y f out e =
    written_all out 16 16 _ e
    ∙ raster_ext 16 16 _ _
    (λ r c hr hc.
    let k : (0 + r) * 16 + (0 + c) ≡ r * 16 + c = omega arith in
    ap (λ (i : ℕ). get_or (block_by 16 set img x y f) i 0) k ∙ block_at 16 set img x y f r c hr hc)

-- ---- what a square fetches
module _ (low : Lowering) (p : Plane) (at_x at_y : ℕ) (mvs : List Mv) where
  abbrev count : ℕ → ℕ → ℕ → ℕ
  count n x y = length (luma (n / 8) low p at_x at_y mvs x y)

  abbrev once : ℕ → ℕ → ℕ → ℕ
  once n x y = length (block_of n p (at_x + x) (at_y + y) (luma_vector low (sent mvs (subblock y x))))

  not_one : (x y n : ℕ) → (OneVector mvs x y n → ⊥) → one_in mvs x y n ≡ false
  not_one x y n h = at (one_in mvs x y n) refl
    where
      at : (b : Bool) → one_in mvs x y n ≡ b → b ≡ false
      at true e = absurd (h (record { alike = (one_in_lem mvs x y n).0 e }))
      at false e = refl

  -- one vector: in one go
  count_one : (x y n : ℕ) → Side n → OneVector mvs x y n → once n x y ≡ count n x y
  count_one x y n (inl e) O = subst (λ (k : ℕ). once k x y ≡ count k x y) (sym e) (sym (luma_least low p at_x at_y mvs x y))
  count_one x y n (inr (inl e)) O =
      subst (λ (k : ℕ). once k x y ≡ count k x y) (sym e) (sym (luma_one low p at_x at_y mvs 0 x y ((one_in_lem mvs x y 8).1 (subst (OneVector mvs x y) e O).alike)))
  count_one x y n (inr (inr e)) O =
      subst (λ (k : ℕ). once k x y ≡ count k x y) (sym e) (sym (luma_one low p at_x at_y mvs 1 x y ((one_in_lem mvs x y 16).1 (subst (OneVector mvs x y) e O).alike)))

  -- more than one: by its quarters
  abbrev fours : ℕ → ℕ → ℕ → ℕ
  fours n x y = let h = n / 2 in count h x y + count h (x + h) y + count h x (y + h) + count h (x + h) (y + h)

  count_four : (x y n : ℕ) → Side n → (OneVector mvs x y n → ⊥) → (n ≡ 4 → ⊥) → fours n x y ≡ count n x y
  count_four x y n (inl e) O four = absurd (four e)
  count_four x y n (inr (inl e)) O four =
      subst (λ (k : ℕ). fours k x y ≡ count k x y) (sym e) (omega (arith, luma_apart low p at_x at_y mvs 0 x y (not_one x y 8 (λ o. O (subst (OneVector mvs x y) (sym e) o)))))
  count_four x y n (inr (inr e)) O four =
      subst (λ (k : ℕ). fours k x y ≡ count k x y) (sym e) (omega (arith, luma_apart low p at_x at_y mvs 1 x y (not_one x y 16 (λ o. O (subst (OneVector mvs x y) (sym e) o)))))

  -- and they are few
  least_few : (x y : ℕ) → length (luma 0 low p at_x at_y mvs x y) ≤ 81
  least_few x y =
      let v = luma_vector low (sent mvs (subblock y x)) in
      omega (arith, luma_least low p at_x at_y mvs x y, length-block 4 p (at_x + x) (at_y + y) v, cost_most 4 v)

  quarter_few : (x y : ℕ) → length (luma 1 low p at_x at_y mvs x y) ≤ 324
  quarter_few x y = at (one_in mvs x y 8) refl
    where
      at : (b : Bool) → one_in mvs x y 8 ≡ b → length (luma 1 low p at_x at_y mvs x y) ≤ 324
      at true e =
          let v = luma_vector low (sent mvs (subblock y x)) in
          omega (arith, luma_one low p at_x at_y mvs 0 x y e, length-block 8 p (at_x + x) (at_y + y) v, cost_most 8 v)
      at false e = omega (arith, luma_apart low p at_x at_y mvs 0 x y e, least_few x y, least_few (x + 4) y, least_few x (y + 4), least_few (x + 4) (y + 4))

  count_few : (x y n : ℕ) → Side n → n < 16 → count n x y ≤ 324
  count_few x y n (inl e) h = subst (λ (k : ℕ). count k x y ≤ 324) (sym e) (omega (arith, least_few x y))
  count_few x y n (inr (inl e)) h = subst (λ (k : ℕ). count k x y ≤ 324) (sym e) (quarter_few x y)
  count_few x y n (inr (inr e)) h = absurd (omega arith)

  -- all of it: never more than sixteen blocks, and those where no quarter has one vector
  pub count_most : count 16 0 0 ≤ 1296
  count_most = omega (arith, luma_most low p at_x at_y mvs, sum_le 16 81 (λ b. cost 4 (luma_vector low (sent mvs b))) (λ b h. cost_most 4 (luma_vector low (sent mvs b))))

  count_split : ((q : ℕ) → q < 4 → OneVector mvs (q % 2 * 8) (q / 2 * 8) 8 → ⊥)
      → length (tiles_of 4 p at_x at_y (λ b. luma_vector low (sent mvs b))) ≡ count 16 0 0
  count_split none =
      length_tiles 4 p at_x at_y (λ b. luma_vector low (sent mvs b))
      ∙ sym (luma_split low p at_x at_y mvs (λ q h. not_one (q % 2 * 8) (q / 2 * 8) 8 (none q h)))

-- ---- and what it takes
module _ (set : FilterSet) (low : Lowering) (p : Plane) (at_x at_y : ℕ) (mvs : List Mv) where
  abbrev clips : ℕ → ℕ → ℕ → Clips
  clips n x y = square_clips set low (image p) at_x at_y mvs x y n

  abbrev takes : ℕ → ℕ → ℕ → ℕ
  takes n x y = square_takes set low p at_x at_y mvs x y n

  -- one vector: in one go
  clips_one : (x y n : ℕ) → OneVector mvs x y n → block_clips n set (image p) (at_x + x) (at_y + y) (luma_vector low (sent mvs (subblock y x))) ≡ clips n x y
  unfolding block_clips clips_by square_clips
  clips_one x y n O =
      totals_ext n _ _
      (λ r c hr hc.
      let col : at_x + x + c ≡ at_x + (x + c) = omega arith in
      let row : at_y + y + r ≡ at_y + (y + r) = omega arith in
      λ i. predicted_clip set (image p) (pos (col i)) (pos (row i)) (luma_vector low (sym (O.alike r c hr hc) i)))

  pub takes_one : (x y n : ℕ) → Side n → OneVector mvs x y n → block_takes n set p (at_x + x) (at_y + y) (luma_vector low (sent mvs (subblock y x))) ≡ takes n x y
  takes_one x y n side O = ap₂ (λ (m : ℕ) (k : Clips). taken m k) (count_one low p at_x at_y mvs x y n side O) (clips_one x y n O)

  -- more than one: by its quarters
  abbrev clip_part : ℕ → ℕ → ℕ
  clip_part r c = clip.part (predicted_clip set (image p) (pos (at_x + c)) (pos (at_y + r)) (luma_vector low (sent mvs (subblock r c))))

  tally-at : (x y n : ℕ) → tally_of (clips n x y) ≡ sum_rows n n (λ r c. clip_part (y + r) (x + c))
  unfolding square_clips
  tally-at x y n = sym (tally-totals n _)

  tally_four : (x y h : ℕ) → tally_of (clips (h + h) x y) ≡ tally_of (clips h x y) + tally_of (clips h (x + h) y) + tally_of (clips h x (y + h)) + tally_of (clips h (x + h) (y + h))
  tally_four x y h =
      tally-at x y (h + h)
      ∙ sum_quarters h (λ r c. clip_part (y + r) (x + c))
      ∙ ap₂ ◌+◌
      (ap₂ ◌+◌
      (ap₂ ◌+◌ (sym (tally-at x y h))
      (rows_ext h h _ _ (λ r c hr hc. ap (clip_part (y + r)) (omega arith)) ∙ sym (tally-at (x + h) y h)))
      (rows_ext h h _ _ (λ r c hr hc. ap (λ (k : ℕ). clip_part k (x + c)) (omega arith)) ∙ sym (tally-at x (y + h) h)))
      (rows_ext h h _ _ (λ r c hr hc. ap₂ clip_part (omega arith) (omega arith)) ∙ sym (tally-at (x + h) (y + h) h))

  pub takes_four : (x y n : ℕ) → Side n → (OneVector mvs x y n → ⊥) → (n ≡ 4 → ⊥) → n / 2 + n / 2 ≡ n
      → let h = n / 2 in takes h x y + takes h (x + h) y + takes h x (y + h) + takes h (x + h) (y + h) ≡ takes n x y
  takes_four x y n side O four twice =
      plus _ _ _ _ _ _ _ _ _ _ (count_four low p at_x at_y mvs x y n side O four) (ap (λ (m : ℕ). tally_of (clips m x y)) (sym twice) ∙ tally_four x y (n / 2))
    where
      plus : (a b c d s t u v l k : ℕ) → a + b + c + d ≡ l → k ≡ s + t + u + v
          → a + 4294967296 * s + (b + 4294967296 * t) + (c + 4294967296 * u) + (d + 4294967296 * v) ≡ l + 4294967296 * k
      plus a b c d s t u v l k e f = omega arith

  -- and it is not much
  most : (f low high : ℕ) → f ≤ 1296 → low + high ≤ 256 → f + 4294967296 * (low + high + 512 * low) ≤ 1000000000000000
  most f low high h k = omega arith

  clips-most : (x y n : ℕ) → n ≤ 16 → (clips n x y).low + (clips n x y).high ≤ 256
  unfolding square_clips
  clips-most x y n h = omega (arith, totals_le n (λ r c. predicted_clip set (image p) (pos (at_x + (x + c))) (pos (at_y + (y + r))) (luma_vector low (sent mvs (subblock (y + r) (x + c))))), mul-le-mul {n₂ = 16} {m₂ = 16} h h)

  pub takes_few : (x y n : ℕ) → Side n → n < 16 → takes n x y ≤ 1000000000000000
  takes_few x y n side h = most _ (clips n x y).low (clips n x y).high (omega (arith, count_few low p at_x at_y mvs x y n side h)) (clips-most x y n (omega arith))

  pub all_few : takes 16 0 0 ≤ 1000000000000000
  all_few = most _ (clips 16 0 0).low (clips 16 0 0).high (count_most low p at_x at_y mvs) (clips-most 0 0 16 (omega arith))

  -- the square of side 16 is all there is
  pub clips_all : clips 16 0 0 ≡ clips_by 16 set (image p) at_x at_y (λ r c. luma_vector low (sent mvs (subblock r c)))
  unfolding square_clips clips_by
  clips_all =
      totals_ext 16 _ _
      (λ r c hr hc.
      let col : 0 + c ≡ c = omega arith in
      let row : 0 + r ≡ r = omega arith in
      λ i. predicted_clip set (image p) (pos (at_x + col i)) (pos (at_y + row i)) (luma_vector low (sent mvs (subblock (row i) (col i)))))

  pub takes_split : ((q : ℕ) → q < 4 → OneVector mvs (q % 2 * 8) (q / 2 * 8) 8 → ⊥) → tiles_take 4 set p at_x at_y (λ b. luma_vector low (sent mvs b)) ≡ takes 16 0 0
  takes_split none = ap₂ (λ (m : ℕ) (k : Clips). taken m k) (count_split low p at_x at_y mvs none) (sym clips_all)
