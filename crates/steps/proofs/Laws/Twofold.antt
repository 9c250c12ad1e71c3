-- Two rows laid in turn, `off` apart: a loop that lays an element of each a turn. Assumes nothing.
use Rattle.std.specs.Prelude.{◌≡◌, refl, cond, List, ℕ, ◌+◌, ◌-◌, ◌<◌, ◌≤◌, length, get_or, set}
use Rattle.std.proofs.Common.{sym, ◌∙◌, subst, arith, below_more, length-set, get_or-set_same, get_or-set_other}
use Rattle.rfc6386.proofs.Laws.Raster.{is-tab}
use Rattle.steps.specs.Rows.{laid, laid_twice}
use Rattle.steps.proofs.Laws.Copying.{within_cases, get_or-laid, length-laid, laid_in, laid_out}

pub record Twice (d₀ : List ℕ) (to off w : ℕ) (f g : ℕ → ℕ) (d : List ℕ) (c : ℕ) : Type 0 where
  pub most : c ≤ w
  pub size : length d ≡ length d₀
  pub first : (k : ℕ) → k < c → get_or d (to + k) 0 ≡ f k
  pub second : (k : ℕ) → k < c → get_or d (to + off + k) 0 ≡ g k
  pub rest : (i : ℕ) → (to ≤ i → i < to + c → ⊥) → (to + off ≤ i → i < to + off + c → ⊥) → get_or d i 0 ≡ get_or d₀ i 0

pub twice_none : {d₀ : List ℕ} {to off w : ℕ} {f g : ℕ → ℕ} → Twice d₀ to off w f g d₀ 0
twice_none =
    record {
      most = omega arith;
      size = refl;
      first = λ k h. absurd (omega arith);
      second = λ k h. absurd (omega arith);
      rest = λ i a b. refl;
    }

pub twice_more : {d₀ d : List ℕ} {to off w c u v : ℕ} {f g : ℕ → ℕ} → Twice d₀ to off w f g d c → w ≤ off → to + off + w ≤ length d₀ → c < w
    → u ≡ f c → v ≡ g c → Twice d₀ to off w f g (set (set d (to + c) u) (to + off + c) v) (c + 1)
twice_more {d₀} {d} {to} {off} {w} {c} {u} {v} {f} {g} T apart room h eu ev =
    record {
      most = omega arith;
      size = length-set d₁ (to + off + c) v ∙ size₁;
      first =
          below_more (λ k. get_or d₂ (to + k) 0 ≡ f k) c
          (λ k l. over (to + k) (λ q. omega arith) ∙ get_or-set_other d (to + c) (to + k) u 0 (λ q. omega arith) ∙ T.first k l)
          (over (to + c) (λ q. omega arith) ∙ get_or-set_same d (to + c) u 0 (omega (arith, T.size)) ∙ eu);
      second =
          below_more (λ k. get_or d₂ (to + off + k) 0 ≡ g k) c
          (λ k l. over (to + off + k) (λ q. omega arith) ∙ get_or-set_other d (to + c) (to + off + k) u 0 (λ q. omega arith) ∙ T.second k l)
          (get_or-set_same d₁ (to + off + c) v 0 (omega (arith, size₁)) ∙ ev);
      rest = λ i a b.
          over i (λ q. b (omega arith) (omega arith))
          ∙ get_or-set_other d (to + c) i u 0 (λ q. a (omega arith) (omega arith))
          ∙ T.rest i (λ p q. a p (omega arith)) (λ p q. b p (omega arith));
    }
  where
    d₁ : List ℕ
    d₁ = set d (to + c) u

    d₂ : List ℕ
    d₂ = set d₁ (to + off + c) v

    size₁ : length d₁ ≡ length d₀
    size₁ = length-set d (to + c) u ∙ T.size

    over : (i : ℕ) → (i ≡ to + off + c → ⊥) → get_or d₂ i 0 ≡ get_or d₁ i 0
    over i n = get_or-set_other d₁ (to + off + c) i v 0 n

pub twice_all : {d₀ d : List ℕ} {to off w c : ℕ} {f g : ℕ → ℕ} → Twice d₀ to off w f g d c → w ≤ c → w ≤ off → d ≡ laid_twice d₀ to off w f g
unfolding laid
twice_all {d₀} {d} {to} {off} {w} {c} {f} {g} T h apart =
    is-tab 0 (length (laid d₀ to w f)) _ d (T.size ∙ sym (length-laid d₀ to w f))
    (λ i l.
    within_cases (to + off) w i (λ b. get_or d i 0 ≡ cond b (g (i - (to + off))) (get_or (laid d₀ to w f) i 0))
    (λ a b. let q : to + off + (i - (to + off)) ≡ i = omega arith in subst (λ (j : ℕ). get_or d j 0 ≡ g (i - (to + off))) q (T.second (i - (to + off)) (omega arith)))
    (λ out.
    within_cases to w i (λ b. get_or d i 0 ≡ cond b (f (i - to)) (get_or d₀ i 0))
    (λ a b. let q : to + (i - to) ≡ i = omega arith in subst (λ (j : ℕ). get_or d j 0 ≡ f (i - to)) q (T.first (i - to) (omega arith)))
    (λ out'. T.rest i (λ a b. out' a (omega arith)) (λ a b. out a (omega arith)))
    ∙ sym (get_or-laid d₀ to w f i (omega (arith, length-laid d₀ to w f)))))

-- ---- what stands where, afterwards
module _ (d : List ℕ) (to off w : ℕ) (f g : ℕ → ℕ) (apart : w ≤ off) (room : to + off + w ≤ length d) where
  pub twice-first : (k : ℕ) → k < w → get_or (laid_twice d to off w f g) (to + k) 0 ≡ f k
  twice-first k h =
      laid_out (laid d to w f) (to + off) w g (to + k) (omega (arith, length-laid d to w f)) (λ a b. omega arith)
      ∙ laid_in d to w f k (omega arith) h

  pub twice-second : (k : ℕ) → k < w → get_or (laid_twice d to off w f g) (to + off + k) 0 ≡ g k
  twice-second k h = laid_in (laid d to w f) (to + off) w g k (omega (arith, length-laid d to w f)) h

  pub twice_else : (i : ℕ) → i < length d → (to ≤ i → i < to + w → ⊥) → (to + off ≤ i → i < to + off + w → ⊥)
      → get_or (laid_twice d to off w f g) i 0 ≡ get_or d i 0
  twice_else i l a b =
      laid_out (laid d to w f) (to + off) w g i (omega (arith, length-laid d to w f)) b
      ∙ laid_out d to w f i l a

  pub length_twice : length (laid_twice d to off w f g) ≡ length d
  length_twice = length-laid (laid d to w f) (to + off) w g ∙ length-laid d to w f
