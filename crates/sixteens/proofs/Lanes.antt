-- A tally in eight lanes: a row of 16 more, and all of them together. Assumes nothing.
use mathlib.Core.Path.{◌≡◌, sym, ap, ap₂, ◌∙◌}
use mathlib.Core.List.{List}
use Prim.Native.Nat.{ℕ, zero, ◌+◌, ◌<◌, ◌≤◌}
use native.Mathlib.Omega.{arith}
use borrow.Author.Count.{below_more}
use lib.ListN.{length, get_or, set, length-set, replicate, length-replicate, get_or-replicate}
use lib.Seq.{get_or-set_same, get_or-set_other}
use Rattle.rfc6386.specs.Sums.{sum_to, sum_rows}
use Rattle.rfc6386.proofs.Laws.Sums.{sum_none, sum_more, sum_ext, sum_le, rows_add, rows_beside, sum_columns}
use Rattle.sixteens.specs.Lanes.{Roomy, Added}

-- ---- a row: h k is added to lane k, one a turn
pub record Adding (l₀ : List ℕ) (h : ℕ → ℕ) (l : List ℕ) (c : ℕ) : Type 0 where
  pub size : length l ≡ length l₀
  pub done : (k : ℕ) → k < c → get_or l k 0 ≡ get_or l₀ k 0 + h k
  pub rest : (k : ℕ) → c ≤ k → get_or l k 0 ≡ get_or l₀ k 0

pub adding_more : {l₀ l : List ℕ} {h : ℕ → ℕ} {c p : ℕ} → Adding l₀ h l c → c < length l₀ → p ≡ h c → Adding l₀ h (set l c (get_or l c 0 + p)) (c + 1)
adding_more {l₀} {l} {h} {c} {p} A room e =
    record {
      size = length-set l c (get_or l c 0 + p) ∙ A.size;
      done =
          below_more (λ k. get_or (set l c (get_or l c 0 + p)) k 0 ≡ get_or l₀ k 0 + h k) c
          (λ k m. get_or-set_other l c k (get_or l c 0 + p) 0 (λ q. omega arith) ∙ A.done k m)
          (get_or-set_same l c (get_or l c 0 + p) 0 (omega (arith, A.size)) ∙ ap₂ ◌+◌ (A.rest c (omega arith)) e);
      rest = λ k m. get_or-set_other l c k (get_or l c 0 + p) 0 (λ q. omega arith) ∙ A.rest k (omega arith);
    }

-- ---- rows: lane c has h q c of each row
pub record Lanes (h : ℕ → ℕ → ℕ) (l : List ℕ) (r : ℕ) : Type 0 where
  pub size : length l ≡ 8
  pub each : (c : ℕ) → c < 8 → get_or l c 0 ≡ sum_to r (λ q. h q c)

pub lanes_none : {h : ℕ → ℕ → ℕ} {l : List ℕ} → l ≡ replicate 8 0 → Lanes h l 0
lanes_none {h} e =
    record {
      size = ap length e ∙ length-replicate 8 zero;
      each = λ c m. ap (λ (l : List ℕ). get_or l c 0) e ∙ get_or-replicate 8 c zero 0 m ∙ sym (sum_none (λ q. h q c));
    }

pub lanes_more : {h : ℕ → ℕ → ℕ} {l l' : List ℕ} {r : ℕ} (g : ℕ → ℕ) → Lanes h l r → Added l g l' → ((c : ℕ) → c < 8 → g c ≡ h r c) → Lanes h l' (r + 1)
lanes_more {h} {r = r} g L A e =
    record {
      size = A.size ∙ L.size;
      each = λ c m. A.each c m ∙ ap₂ ◌+◌ (L.each c m) (e c m) ∙ sym (sum_more r (λ q. h q c));
    }

pub lanes_room : {h : ℕ → ℕ → ℕ} {l : List ℕ} {r : ℕ} → Lanes h l r → ((q c : ℕ) → h q c ≤ 1026) → r < 16 → Roomy l
lanes_room {h} {r = r} L le m = record { size = L.size; each = λ c n. omega (arith, L.each c n, sum_le r 1026 (λ q. h q c) (λ q k. le q c)) }

-- THEOREM. Where lane c has columns c and 8 + c of 16 rows, all lanes together have the sum of the rows.
pub lanes_all : (k : ℕ → ℕ → ℕ) {l : List ℕ} {r sum : ℕ} → Lanes (λ q c. k q c + k q (8 + c)) l r → r ≡ 16 → sum ≡ sum_to 8 (λ c. get_or l c 0) → sum ≡ sum_rows 16 16 k
lanes_all k {r = r} L e s =
    s
    ∙ sum_ext 8 _ _ (λ c m. L.each c m)
    ∙ sum_columns r 8 (λ q c. k q c + k q (8 + c))
    ∙ ap (λ (r : ℕ). sum_rows r 8 (λ q c. k q c + k q (8 + c))) e
    ∙ rows_add 16 8 k (λ q c. k q (8 + c))
    ∙ sym (rows_beside 16 8 8 k)
