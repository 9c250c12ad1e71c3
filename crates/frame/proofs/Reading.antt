-- The two codes of an order as they are read, and the picture that is chosen by one. Assumes nothing.
use Rattle.std.specs.Prelude.{◌≡◌, refl, Bool, true, false, ◌||◌, ℕ, zero, suc, List, Result, Ok, Err, ltb}
use Rattle.std.proofs.Common.{ap, ◌∙◌, arith}
use borrow.Author.Tests.{lt-ltb}
use Rattle.numbers.specs.declared.Refusal.{Refusal}
use Rattle.numbers.specs.declared.Refusal.TheVariants.{Orders}
use Rattle.numbers.specs.Outcome.{number_of}
use Rattle.rfc6386.specs.Macroblock.{lent}
use Rattle.rfc6386.specs.declared.Sizes.{Sizes}
use Rattle.frame.specs.Frame.{Planes, reference, reference_code, kind_code, bad_order}
use Rattle.frame.specs.Codes.{reference_of, kind_of, codes_of, codes_at}
use Rattle.frame.specs.Inner.{planes_named, references_in}
use Rattle.frame.specs.declared.pictures.Pictures.{Pictures}
use Rattle.frame.specs.declared.pictures.Named.{Named}
use Rattle.frame.specs.declared.pictures.Named.TheVariants.{Last, Golden, Altref}
use Rattle.frame.specs.declared.orders.Kind.{Kind}
use Rattle.frame.specs.declared.orders.Kind.TheVariants.{Whole, Split}
use Rattle.frame.specs.declared.orders.Codes.{Codes}

-- ---- one of them alone
named_bad : (r : ℕ) {e : Refusal} → reference_of r ≡ Err e → (ltb 2 r ≡ true) × (9 ≡ number_of e)
named_bad zero h = let z : ⊥ = cc in absurd z
named_bad (suc zero) h = let z : ⊥ = cc in absurd z
named_bad (suc (suc zero)) h = let z : ⊥ = cc in absurd z
named_bad (suc (suc (suc n))) {e} h = let p : Orders ≡ e = cc in (lt-ltb 2 (suc (suc (suc n))) (omega arith), ap number_of p)

named_good : (r : ℕ) {n : Named} → reference_of r ≡ Ok n → ltb 2 r ≡ false
named_good zero h = refl
named_good (suc zero) h = refl
named_good (suc (suc zero)) h = refl
named_good (suc (suc (suc n))) h = let z : ⊥ = cc in absurd z

kind_bad : (k : ℕ) {e : Refusal} → kind_of k ≡ Err e → (ltb 1 k ≡ true) × (9 ≡ number_of e)
kind_bad zero h = let z : ⊥ = cc in absurd z
kind_bad (suc zero) h = let z : ⊥ = cc in absurd z
kind_bad (suc (suc n)) {e} h = let p : Orders ≡ e = cc in (lt-ltb 1 (suc (suc n)) (omega arith), ap number_of p)

kind_good : (k : ℕ) {n : Kind} → kind_of k ≡ Ok n → ltb 1 k ≡ false
kind_good zero h = refl
kind_good (suc zero) h = refl
kind_good (suc (suc n)) h = let z : ⊥ = cc in absurd z

pub whole_kind : (k : ℕ) → kind_of k ≡ Ok Whole → k ≡ 0
whole_kind zero h = refl
whole_kind (suc zero) h = let z : ⊥ = cc in absurd z
whole_kind (suc (suc n)) h = let z : ⊥ = cc in absurd z

pub split_kind : (k : ℕ) → kind_of k ≡ Ok Split → k ≡ 0 → ⊥
split_kind zero h e = (cc)
split_kind (suc n) h e = omega arith

-- ---- both
pub both_read : (x : Result Named Refusal) (y : Result Kind Refusal) {c : Codes} → codes_of x y ≡ Ok c → (x ≡ Ok c.named) × (y ≡ Ok c.kind)
both_read (Ok n) (Ok k) {c} h = let p : record { named = n; kind = k } ≡ c = cc in (ap (λ (c : Codes). Ok c.named) p, ap (λ (c : Codes). Ok c.kind) p)
both_read (Ok n) (Err e) h = let z : ⊥ = cc in absurd z
both_read (Err e) y h = let z : ⊥ = cc in absurd z

pub codes_good : (orders : List ℕ) (k : ℕ) {c : Codes} → codes_at orders k ≡ Ok c → bad_order orders k ≡ false
codes_good orders k h =
    let b = both_read (reference_of (reference_code orders k)) (kind_of (kind_code orders k)) h in
    λ i. named_good (reference_code orders k) b.0 i || kind_good (kind_code orders k) b.1 i

pub codes_bad : (orders : List ℕ) (k : ℕ) {e : Refusal} → codes_at orders k ≡ Err e → (bad_order orders k ≡ true) × (9 ≡ number_of e)
codes_bad orders k {e} h = at (reference_of (reference_code orders k)) (kind_of (kind_code orders k)) refl refl h
  where
    at : (x : Result Named Refusal) (y : Result Kind Refusal) → reference_of (reference_code orders k) ≡ x → kind_of (kind_code orders k) ≡ y → codes_of x y ≡ Err e
        → (bad_order orders k ≡ true) × (9 ≡ number_of e)
    at (Ok n) (Ok m) p q h = let z : ⊥ = cc in absurd z
    at (Ok n) (Err f) p q h =
        let b = kind_bad (kind_code orders k) q in
        let g : f ≡ e = cc in
        (λ i. named_good (reference_code orders k) p i || b.0 i, b.1 ∙ ap number_of g)
    at (Err f) y p q h =
        let b = named_bad (reference_code orders k) p in
        let g : f ≡ e = cc in
        (ap (λ (t : Bool). t || ltb 1 (kind_code orders k)) b.0, b.1 ∙ ap number_of g)

-- ---- the picture that a code names
pub chosen : (p : Pictures) (sizes : Sizes) (code : ℕ) {n : Named} {q : Planes} → reference_of code ≡ Ok n → q ≡ planes_named n p
    → lent q.y q.u q.v sizes ≡ reference (references_in sizes p) code
chosen p sizes code {n} {q} h e = ap (λ (q : Planes). lent q.y q.u q.v sizes) e ∙ at code h
  where
    at : (code : ℕ) → reference_of code ≡ Ok n → lent (planes_named n p).y (planes_named n p).u (planes_named n p).v sizes ≡ reference (references_in sizes p) code
    at zero h = let g : n ≡ Last = cc in ap (λ (n : Named). lent (planes_named n p).y (planes_named n p).u (planes_named n p).v sizes) g
    at (suc zero) h = let g : n ≡ Golden = cc in ap (λ (n : Named). lent (planes_named n p).y (planes_named n p).u (planes_named n p).v sizes) g
    at (suc (suc zero)) h = let g : n ≡ Altref = cc in ap (λ (n : Named). lent (planes_named n p).y (planes_named n p).u (planes_named n p).v sizes) g
    at (suc (suc (suc m))) h = let z : ⊥ = cc in absurd z
