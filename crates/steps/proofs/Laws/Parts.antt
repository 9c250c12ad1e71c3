-- Stretches and rectangles in two parts, and what arithmetic needs of a side. Assumes nothing.
use Rattle.std.specs.Prelude.{◌≡◌, refl, Bool, true, false, cond, ◌&&◌, ◌||◌, List, ℕ, ◌+◌, ◌-◌, ◌/◌, ◌%◌, ◌<◌, ◌≤◌, leb, ltb, length, get_or}
use Rattle.std.proofs.Common.{sym, ap, ◌∙◌, inl, inr, ⊎_elim, arith, le-leb, lt-ltb, ltb-true, ltb-false, leb-false, ext_get_or}
use Rattle.std.proofs.lemmas.Bool.{lt-leb}
use Rattle.rfc6386.specs.Raster.{written, within}
use Rattle.rfc6386.proofs.Laws.Raster.{get_or-written, length-written, within_is}
use Rattle.steps.specs.Side.{Side}

-- ---- sides
pub side_least : {n : ℕ} → Side n → 4 ≤ n
side_least (inl e) = omega arith
side_least (inr (inl e)) = omega arith
side_least (inr (inr e)) = omega arith

pub side_most : {n : ℕ} → Side n → n ≤ 16
side_most (inl e) = omega arith
side_most (inr (inl e)) = omega arith
side_most (inr (inr e)) = omega arith

-- the side that is neither 4 nor 8
pub third : {n : ℕ} → Side n → ¬ (n ≡ 4) → ¬ (n ≡ 8) → n ≡ 16
third s a b = ⊎_elim (λ e. absurd (a e)) (λ o. ⊎_elim (λ e. absurd (b e)) (λ e. e) o) s

-- ---- the first h of a stretch, and k more
pub within_parts : (a h k i : ℕ) → within a (h + k) i ≡ within a h i || within (a + h) k i
within_parts a h k i = at (leb a i) (ltb i (a + h)) refl refl
  where
    at : (p q : Bool) → leb a i ≡ p → ltb i (a + h) ≡ q → p && ltb i (a + (h + k)) ≡ (p && q) || (leb (a + h) i && ltb i (a + h + k))
    at false q s t = sym (ap (λ (z : Bool). z && ltb i (a + h + k)) (lt-leb (a + h) i (omega (arith, leb-false a i s))))
    at true true s t = lt-ltb i (a + (h + k)) (omega (arith, ltb-true i (a + h) t))
    at true false s t =
        let e : a + (h + k) ≡ a + h + k = omega arith in
        ap (ltb i) e ∙ sym (ap (λ (z : Bool). z && ltb i (a + h + k)) (le-leb (a + h) i (omega (arith, ltb-false i (a + h) t))))

-- THEOREM. A rectangle of h + k rows is its first h rows, and the k rows below them.
module _ (d : List ℕ) (s x y w h k : ℕ) (f : ℕ → ℕ → ℕ) where
  two : (a b d : ℕ) (R R' C : Bool) → (R' ≡ true → b ≡ a) → cond (R' && C) b (cond (R && C) a d) ≡ cond ((R || R') && C) a d
  two a b d true true true e = e refl
  two a b d true true false e = refl
  two a b d true false C e = refl
  two a b d false true true e = e refl
  two a b d false true false e = refl
  two a b d false false C e = refl

  abbrev d₁ : List ℕ
  d₁ = written d s x y w h f

  abbrev d₂ : List ℕ
  d₂ = written d₁ s x (y + h) w k (λ r c. f (h + r) c)

  pub written_rows : d₂ ≡ written d s x y w (h + k) f
  written_rows =
      ext_get_or 0 d₂ (written d s x y w (h + k) f) (n₂ ∙ n₁ ∙ sym (length-written d s x y w (h + k) f)) (λ i l. at i (omega (arith, n₂, n₁)))
    where
      n₁ : length d₁ ≡ length d
      n₁ = length-written d s x y w h f

      n₂ : length d₂ ≡ length d₁
      n₂ = length-written d₁ s x (y + h) w k (λ r c. f (h + r) c)

      at : (i : ℕ) → i < length d → get_or d₂ i 0 ≡ get_or (written d s x y w (h + k) f) i 0
      at i l =
          let q = i / s in
          let m = i % s in
          get_or-written d₁ s x (y + h) w k (λ r c. f (h + r) c) i (omega (arith, n₁))
          ∙ ap (cond (within (y + h) k q && within x w m) (f (h + (q - (y + h))) (m - x))) (get_or-written d s x y w h f i l)
          ∙ two (f (q - y) (m - x)) (f (h + (q - (y + h))) (m - x)) (get_or d i 0) (within y h q) (within (y + h) k q) (within x w m)
          (λ e. let W = within_is (y + h) k q e in let z : h + (q - (y + h)) ≡ q - y = omega (arith, W.from) in ap (λ (j : ℕ). f j (m - x)) z)
          ∙ sym
          (get_or-written d s x y w (h + k) f i l
          ∙ ap (λ (b : Bool). cond (b && within x w m) (f (q - y) (m - x)) (get_or d i 0)) (within_parts y h k q))
