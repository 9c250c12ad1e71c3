-- Samples of which an area is finished: nothing yet, a block put in sample by sample, and two areas that make one. Assumes nothing.
use mathlib.Core.Path.{◌≡◌, refl, sym, ap, ap₂, ◌∙◌, subst}
use mathlib.Core.Bool.{Bool, true, false}
use mathlib.Core.List.{List}
use Prim.Native.Nat.{ℕ, ◌+◌, ◌-◌, ◌*◌, ◌/◌, ◌%◌, ◌<◌, ◌≤◌}
use native.Mathlib.Nat.{mul-le-mul_left, mul-le-mul_right}
use native.Mathlib.Omega.{arith}
use borrow.Author.Count.{below_more}
use borrow.Author.Tests.{ltb-true, ltb-false}
use lib.Dec.{ltb}
use lib.Arith.{digits_div, digits_mod}
use lib.ListN.{length, get_or, set, length-set}
use lib.Seq.{get_or-set_same, get_or-set_other}
use lib.IntN.{ℤ}
use Rattle.rfc6386.specs.Raster.{tab}
use Rattle.rfc6386.proofs.Laws.Raster.{get_or-tab}
use Rattle.residue.specs.Transform.{summed}
use Rattle.residue.specs.Inner.{Room, Inside, Area, BlockArea}
use Rattle.residue.specs.declared.spot.Spot.{Spot}

-- a place in rows of w samples tells its row and column
pub same_place : (w r q s t : ℕ) → q < w → t < w → r * w + q ≡ s * w + t → (r ≡ s) × (q ≡ t)
same_place w r q s t h k e =
    (sym (digits_div r h) ∙ ap (λ (n : ℕ). n / w) e ∙ digits_div s k, sym (digits_mod r h) ∙ ap (λ (n : ℕ). n % w) e ∙ digits_mod s k)

pub either : (a b : ℕ) {P : Type 0} → (a < b → P) → (b ≤ a → P) → P
either a b {P} less more = go (ltb a b) refl
  where
    go : (t : Bool) → ltb a b ≡ t → P
    go true e = less (ltb-true a b e)
    go false e = more (ltb-false a b e)

-- ---- nothing yet
pub area_no_rows : {d : List ℕ} {i w y a b : ℕ} {f : ℕ → ℕ → ℕ} → Area d d i w y y a b f
area_no_rows = record { size = refl; done = λ r q h. absurd (omega (arith, h)); rest = λ j h. refl }

pub area_no_columns : {d : List ℕ} {i w y z a : ℕ} {f : ℕ → ℕ → ℕ} → Area d d i w y z a a f
area_no_columns = record { size = refl; done = λ r q h. absurd (omega (arith, h)); rest = λ j h. refl }

-- ---- outside it nothing changes
moved : {y z a b r q s t : ℕ} → r ≡ s → q ≡ t → Inside y z a b s t → Inside y z a b r q
moved e f h =
    record { from_row = omega (arith, h); to_row = omega (arith, h); from-column = omega (arith, h); to-column = omega (arith, h) }

pub area_old : {d d' : List ℕ} {i w y z a b : ℕ} {f : ℕ → ℕ → ℕ} → Area d d' i w y z a b f → b ≤ w → (r q : ℕ) → q < w → (Inside y z a b r q → ⊥)
    → get_or d' (i + (r * w + q)) 0 ≡ get_or d (i + (r * w + q)) 0
area_old {i = i} {w} A h r q m out =
    A.rest (i + (r * w + q))
    (λ s t k e. let p = same_place w r q s t m (omega (arith, k)) (omega arith) in out (moved p.0 p.1 k))

-- ---- two areas, one after the other, that make a third
module _ {d d' d'' : List ℕ} {i w y z a b y' z' a' b' : ℕ} {f g : ℕ → ℕ → ℕ} (A : Area d d' i w y z a b f) (B : Area d' d'' i w y' z' a' b' g) (across : b ≤ w) (across' : b' ≤ w)
    (apart : (r q : ℕ) → Inside y z a b r q → Inside y' z' a' b' r q → ⊥) (same : (r q : ℕ) → Inside y' z' a' b' r q → g r q ≡ f r q) where
  pub area_join : {y'' z'' a'' b'' : ℕ} → ((r q : ℕ) → Inside y z a b r q → Inside y'' z'' a'' b'' r q) → ((r q : ℕ) → Inside y' z' a' b' r q → Inside y'' z'' a'' b'' r q)
      → ((r q : ℕ) (P : Type 0) → Inside y'' z'' a'' b'' r q → (Inside y z a b r q → P) → (Inside y' z' a' b' r q → P) → P) → Area d d'' i w y'' z'' a'' b'' f
  area_join in-a in_b cover =
      record {
        size = B.size ∙ A.size;
        done = λ r q h.
            cover r q _ h
            (λ k. area_old B across' r q (omega (arith, k)) (apart r q k) ∙ A.done r q k)
            (λ k. B.done r q k ∙ same r q k);
        rest = λ j out. B.rest j (λ r q k. out r q (in_b r q k)) ∙ A.rest j (λ r q k. out r q (in-a r q k));
      }

-- ---- a block, put in sample by sample: k of sixteen
abbrev pub place : Spot → ℕ → ℕ
place s k = s.i + (s.y + k / 4) * s.w + (s.x + k % 4)

pub record Putting (d₀ : List ℕ) (s : Spot) (p : List ℕ) (d : List ℕ) (k : ℕ) : Type 0 where
  pub most : k ≤ 16
  pub size : length d ≡ length d₀
  pub done : (j : ℕ) → j < k → get_or d (place s j) 0 ≡ get_or p j 0
  pub rest : (n : ℕ) → ((j : ℕ) → j < k → n ≡ place s j → ⊥) → get_or d n 0 ≡ get_or d₀ n 0

pub putting_none : {d : List ℕ} {s : Spot} {p : List ℕ} → Putting d s p d 0
putting_none = record { most = omega arith; size = refl; done = λ j h. absurd (omega arith); rest = λ n h. refl }

-- every sample lies in the list, and no two at one place
pub place_in : {n : ℕ} {s : Spot} → Room n s → (k : ℕ) → k < 16 → (s.y + k / 4 ≤ (s.y + k / 4) * s.w) × (place s k < n)
place_in {n} {s} R k h =
    let e : (s.y + k / 4) * s.w ≤ (s.y + 3) * s.w = mul-le-mul_right s.w (omega arith) in
    let f : 1 ≤ s.w = omega (arith, R) in
    (omega (arith, mul-le-mul_left (s.y + k / 4) f), omega (arith, R))

place_one : {n : ℕ} {s : Spot} → Room n s → (j k : ℕ) → j < 16 → k < 16 → place s j ≡ place s k → j ≡ k
place_one {n} {s} R j k h l e =
    let p = same_place s.w (s.y + j / 4) (s.x + j % 4) (s.y + k / 4) (s.x + k % 4) (omega (arith, R)) (omega (arith, R)) (omega arith) in
    omega (arith, p)

pub putting_more : {d₀ d p : List ℕ} {s : Spot} {k v : ℕ} → Room (length d₀) s → Putting d₀ s p d k → k < 16 → v ≡ get_or p k 0
    → Putting d₀ s p (set d (place s k) v) (k + 1)
putting_more {d₀} {d} {p} {s} {k} {v} R P h e =
    let n = place s k in
    record {
      most = omega arith;
      size = length-set d n v ∙ P.size;
      done =
          below_more (λ j. get_or (set d n v) (place s j) 0 ≡ get_or p j 0) k
          (λ j l. get_or-set_other d n (place s j) v 0 (λ q. omega (arith, place_one R j k (omega arith) h (omega arith))) ∙ P.done j l)
          (get_or-set_same d n v 0 (omega (arith, P.size, place_in R k h)) ∙ e);
      rest = λ m out. get_or-set_other d n m v 0 (λ q. out k (omega arith) (omega arith)) ∙ P.rest m (λ j l. out j (omega arith));
    }

pub putting_all : {d₀ d p : List ℕ} {s : Spot} {k : ℕ} → Putting d₀ s p d k → 16 ≤ k → BlockArea d₀ d s (λ r q. get_or p ((r - s.y) * 4 + (q - s.x)) 0)
putting_all {d₀} {d} {p} {s} {k} P h =
    record {
      size = P.size;
      done = λ r q m.
          let e : place s ((r - s.y) * 4 + (q - s.x)) ≡ s.i + (r * s.w + q) = at_place r q m in
          subst (λ (n : ℕ). get_or d n 0 ≡ get_or p ((r - s.y) * 4 + (q - s.x)) 0) e (P.done ((r - s.y) * 4 + (q - s.x)) (omega (arith, m)));
      rest = λ n out.
          P.rest n
          (λ j l e. out (s.y + j / 4) (s.x + j % 4) (record { from_row = omega arith; to_row = omega (arith, P.most); from-column = omega arith; to-column = omega arith }) (omega arith));
    }
  where
    at_place : (r q : ℕ) → Inside s.y (s.y + 4) s.x (s.x + 4) r q → place s ((r - s.y) * 4 + (q - s.x)) ≡ s.i + (r * s.w + q)
    at_place r q m =
        let a : s.y + ((r - s.y) * 4 + (q - s.x)) / 4 ≡ r = omega (arith, m) in
        let b : s.x + ((r - s.y) * 4 + (q - s.x)) % 4 ≡ q = omega (arith, m) in
        ap₂ (λ (r q : ℕ). s.i + r * s.w + q) a b ∙ omega arith

-- ---- the samples p of a block taken out, added to, and put back
module _ (z : ℕ → ℤ) (d : List ℕ) {p t : List ℕ} (s : Spot) (ep : p ≡ tab 16 (λ k. get_or d (s.i + ((s.y + k / 4) * s.w + (s.x + k % 4))) 0))
    (et : t ≡ tab 16 (λ k. summed (get_or p k 0) (z k))) where
  total : (k : ℕ) → k < 16 → get_or t k 0 ≡ summed (get_or d (s.i + ((s.y + k / 4) * s.w + (s.x + k % 4))) 0) (z k)
  total k h =
      ap (λ (l : List ℕ). get_or l k 0) et
      ∙ get_or-tab 16 (λ k. summed (get_or p k 0) (z k)) k 0 h
      ∙ ap (λ (n : ℕ). summed n (z k)) (ap (λ (l : List ℕ). get_or l k 0) ep ∙ get_or-tab 16 _ k 0 h)

  pub added : {d' : List ℕ} → BlockArea d d' s (λ r q. get_or t ((r - s.y) * 4 + (q - s.x)) 0)
      → BlockArea d d' s (λ r q. summed (get_or d (s.i + (r * s.w + q)) 0) (z ((r - s.y) * 4 + (q - s.x))))
  added A =
      record {
        size = A.size;
        done = λ r q m.
            let k = (r - s.y) * 4 + (q - s.x) in
            let a : s.y + k / 4 ≡ r = omega (arith, m) in
            let b : s.x + k % 4 ≡ q = omega (arith, m) in
            A.done r q m ∙ total k (omega (arith, m)) ∙ ap₂ (λ (r q : ℕ). summed (get_or d (s.i + (r * s.w + q)) 0) (z k)) a b;
        rest = A.rest;
      }
