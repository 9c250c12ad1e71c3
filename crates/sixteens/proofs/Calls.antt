-- Two rows of what calls gave, laid an element of each a turn, and what the list is then; and a row that is copied within a list. Assumes nothing.
use Rattle.std.specs.Prelude.{◌≡◌, refl, List, ℕ, ◌+◌, ◌<◌, ◌≤◌, length, get_or, set}
use Rattle.std.proofs.Common.{sym, ap, ◌∙◌, subst, arith, below_more, length-set, get_or-set_same, get_or-set_other}
use Rattle.std.specs.List.{CopiedTo, SameFrom}
use Rattle.steps.specs.Rows.{laid, laid_twice}
use Rattle.steps.proofs.Laws.Copying.{either, laying_all}
use Rattle.steps.proofs.Laws.Twofold.{Twice, twice_all}
use Rattle.sixteens.specs.Calls.{LaidTwo}

pub two_none : {A : Type 0} {p q : ℕ → A → Type 0} {d : List A} {to off : ℕ} → LaidTwo p q d to off 0 d
two_none = record { size = refl; first = λ c h. absurd (omega arith); second = λ c h. absurd (omega arith); rest = λ i a b x. refl }

pub two_more : {A : Type 0} {p q : ℕ → A → Type 0} {d₀ d : List A} {to off n c : ℕ} {u v : A} → LaidTwo p q d₀ to off c d → n ≤ off → to + off + n ≤ length d₀ → c < n
    → p c u → q c v → LaidTwo p q d₀ to off (c + 1) (set (set d (to + c) u) (to + off + c) v)
two_more {A} {p} {q} {d₀} {d} {to} {off} {n} {c} {u} {v} L apart room h pu qv =
    record {
      size = length-set d₁ (to + off + c) v ∙ size₁;
      first =
          below_more (λ k. (x : A) → p k (get_or d₂ (to + k) x)) c
          (λ k l x. subst (p k) (sym (over (to + k) x (λ e. omega arith) ∙ get_or-set_other d (to + c) (to + k) u x (λ e. omega arith))) (L.first k l x))
          (λ x. subst (p c) (sym (over (to + c) x (λ e. omega arith) ∙ get_or-set_same d (to + c) u x (omega (arith, L.size)))) pu);
      second =
          below_more (λ k. (x : A) → q k (get_or d₂ (to + off + k) x)) c
          (λ k l x. subst (q k) (sym (over (to + off + k) x (λ e. omega arith) ∙ get_or-set_other d (to + c) (to + off + k) u x (λ e. omega arith))) (L.second k l x))
          (λ x. subst (q c) (sym (get_or-set_same d₁ (to + off + c) v x (omega (arith, size₁)))) qv);
      rest = λ i a b x.
          over i x (λ e. b (omega arith) (omega arith))
          ∙ get_or-set_other d (to + c) i u x (λ e. a (omega arith) (omega arith))
          ∙ L.rest i (λ m k. a m (omega arith)) (λ m k. b m (omega arith)) x;
    }
  where
    d₁ : List A
    d₁ = set d (to + c) u

    d₂ : List A
    d₂ = set d₁ (to + off + c) v

    size₁ : length d₁ ≡ length d₀
    size₁ = length-set d (to + c) u ∙ L.size

    over : (i : ℕ) (x : A) → (i ≡ to + off + c → ⊥) → get_or d₂ i x ≡ get_or d₁ i x
    over i x n = get_or-set_other d₁ (to + off + c) i v x n

-- numbers, where only one is allowed at each place
pub two_laid : {p q : ℕ → ℕ → Type 0} {d₀ d : List ℕ} {to off n : ℕ} {f g : ℕ → ℕ} → LaidTwo p q d₀ to off n d → n ≤ off
    → ((c v : ℕ) → c < n → p c v → v ≡ f c) → ((c v : ℕ) → c < n → q c v → v ≡ g c) → d ≡ laid_twice d₀ to off n f g
two_laid {d₀ = d₀} {d} {to} {off} {n} {f} {g} L apart ef eg = twice_all T (omega arith) apart
  where
    T : Twice d₀ to off n f g d n
    T =
        record {
          most = omega arith;
          size = L.size;
          first = λ k h. ef k _ h (L.first k h 0);
          second = λ k h. eg k _ h (L.second k h 0);
          rest = λ i a b. L.rest i a b 0;
        }

-- to the front of the list
pub copied_laid : (m m' : List ℕ) (from n : ℕ) → length m' ≡ length m → CopiedTo m m' from 0 n → SameFrom m m' n → m' ≡ laid m 0 n (λ c. get_or m (from + c) 0)
copied_laid m m' from n size copied rest =
    laying_all {c = n}
    (record {
      most = omega arith;
      size = size;
      done = λ k h. copied (0 + k) 0 (omega arith) (omega arith) ∙ ap (λ (i : ℕ). get_or m i 0) (omega arith);
      rest = λ i out. either i n (λ h. absurd (out (omega arith) (omega arith))) (λ h. rest i 0 h);
    }) (omega arith)
