-- Where the one test of all finds nothing, neither would the others.
use Rattle.std.proofs.Common.{◌≡◌, ◌↔◌, refl, sym, ◌∙◌, arith, Bool, true, false, List, take, drop, length, ℕ, ◌+◌, ◌-◌, ℤ}
use Rattle.residue.specs.Coefficients.{whole_beyond}
use Rattle.residue.specs.Inner.{Low, Open}
use Rattle.residue.proofs.Parts.{part_range, part_test}
use Rattle.residue.proofs.Refused.{by-true, whole_low, low_whole, whole_of_all, true-not-false}
use Rattle.residue.proofs.domain.whole_beyond.Goals as goal

module _ (c : List ℤ) {r : Bool} {P : Type 0} (e : (r ≡ false) ↔ P) where
  -- a test of some numbers finds one
  found : (whole_beyond c ≡ false → P) → r ≡ true → true ≡ whole_beyond c
  found f t = sym (by-true (whole_beyond c) (λ w. true-not-false r t (e.1 (f w))))

-- the last test decides
last : (c : List ℤ) (r : Bool) → Low c 0 16 16383 → Open c 16 256 → (r ≡ false) ↔ Low c 272 128 4095 → r ≡ whole_beyond c
last c true p q e = found c e (λ w. (whole_low c w).chroma) refl
last c false p q e = sym (low_whole c (record { y2 = p; y = q; chroma = e.0 refl }))

module _ (c : List ℤ) (n : length c ≡ 400) {r : Bool} where
  y2 : (r ≡ false) ↔ Low (take 16 c) 0 (length (take 16 c)) 16383 → (r ≡ false) ↔ Low c 0 16 16383
  y2 = part_test (part_range c 0 16 16 refl (omega arith))

  rest : {m k : ℕ} (i : ℕ) → i + k ≡ 400 → (r ≡ false) ↔ Low (take (length c - i) (drop i c)) 0 (length (take (length c - i) (drop i c))) m → (r ≡ false) ↔ Low c i k m
  rest {k = k} i e = part_test (part_range c i (length c) k (omega arith) (omega arith))

pub returns-then-beyond : goal.returns-then-beyond
returns-then-beyond c = let l = c.args.c.now in found l (y2 l c.requires c.beyond.ensures) (λ w. (whole_low l w).y2) c.if-beyond.true

pub returns-then-not-beyond : goal.returns-then-not-beyond
returns-then-not-beyond c =
    let l = c.args.c.now in
    sym (low_whole l (whole_of_all ((y2 l c.requires c.beyond.ensures).0 c.if-beyond.false) ((rest l c.requires 16 refl c.beyond-2.ensures).0 c.if-not-beyond.true)))

pub returns-then-beyond_firsts : goal.returns-then-beyond_firsts
returns-then-beyond_firsts c =
    let l = c.args.c.now in c.if-beyond_firsts.true ∙ found l c.beyond_firsts.ensures (λ w. (whole_low l w).y) c.if-beyond_firsts.true

pub returns-else-beyond_firsts : goal.returns-else-beyond_firsts
returns-else-beyond_firsts c =
    let l = c.args.c.now in
    last l c.beyond-else-beyond_firsts.result ((y2 l c.requires c.beyond.ensures).0 c.if-beyond.false) (c.beyond_firsts.ensures.0 c.if-beyond_firsts.false)
    (rest l c.requires 272 refl c.beyond-else-beyond_firsts.ensures)
