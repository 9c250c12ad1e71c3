-- Parts of a list of coefficients: what stands in them, and that they lie in a range where it does in the list. Assumes nothing.
use Rattle.std.specs.Prelude.{◌≡◌, ◌↔◌, Bool, false, List, ℕ, ◌+◌, ◌-◌, ◌<◌, ◌≤◌, take, drop, length, ℤ, pos, nat_abs}
use Rattle.std.proofs.Common.{sym, ap, ◌∙◌, subst, arith}
use Rattle.std.proofs.lemmas.List.{length-take-le, length-drop, get_or-take, get_or-drop}
use Rattle.rfc6386.specs.Raster.{tab}
use Rattle.rfc6386.proofs.Laws.Raster.{is-tab}
use Rattle.residue.specs.Transform.{at}
use Rattle.residue.specs.Inner.{Low}

-- s is n numbers of c from number i on
pub record Part (s c : List ℤ) (i n : ℕ) : Type 0 where
  pub size : length s ≡ n
  pub each : (k : ℕ) → k < n → at s k ≡ at c (i + k)

-- `&c[i..j]`
pub part_range : (c : List ℤ) (i j n : ℕ) → j ≡ i + n → j ≤ length c → Part (take (j - i) (drop i c)) c i n
part_range c i j n e h =
    let m : j - i ≡ n = omega arith in
    record {
      size = length-take-le (j - i) (drop i c) (omega (arith, length-drop i c)) ∙ m;
      each = λ k l. get_or-take (j - i) (drop i c) k (pos 0) (omega arith) ∙ get_or-drop i c k (pos 0);
    }

-- the whole list
pub part_all : (c : List ℤ) (n : ℕ) → length c ≡ n → Part c c 0 n
part_all c n e = record { size = e; each = λ k l. ap (at c) (omega arith) }

module _ {s c : List ℤ} {i n : ℕ} (P : Part s c i n) where
  pub part_tab : s ≡ tab n (λ k. at c (i + k))
  part_tab = is-tab (pos 0) n (λ k. at c (i + k)) s P.size P.each

  -- a test of the part that is false exactly where all its numbers lie in the range
  pub part_test : {m : ℕ} {r : Bool} → (r ≡ false) ↔ Low s 0 (length s) m → (r ≡ false) ↔ Low c i n m
  part_test {m} (there, here) = (
    λ e. let l = there e in record { low = λ k h. subst (λ (z : ℤ). nat_abs z ≤ m) (ap (at s) (omega arith) ∙ P.each k h) (l.low k (omega (arith, P.size))) },
    λ l. here (record { low = λ k h. subst (λ (z : ℤ). nat_abs z ≤ m) (sym (P.each k (omega (arith, P.size))) ∙ ap (at s) (omega arith)) (l.low k (omega (arith, P.size))) }),
  )
