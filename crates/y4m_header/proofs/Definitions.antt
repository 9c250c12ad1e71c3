-- Laws of words: equal ones, what stands before a byte, a line parted at its spaces. Assumes nothing.
use Rattle.std.specs.Prelude.{◌≡◌, refl, Bool, true, false, cond, ◌&&◌, List, [], ◌∷◌, ◌++◌, ℕ, suc, ◌<◌, leb, eqb, length, drop}
use Rattle.std.proofs.Common.{ap, ap₂, ◌∙◌, arith, leb-true, eq-eqb, ne_eqb, eqb-true}
use Rattle.std.proofs.lemmas.Bool.{eqb-false}
use Rattle.y4m_header.specs.Words.{before, onto, words, same, digit, digits}

-- both sides, from what they are together
pub both : (a b : Bool) → (a && b) ≡ true → (a ≡ true) × (b ≡ true)
both true b e = (refl, e)
both false b e = let f : ◌≡◌ {A = ℕ} 0 1 = cc in absurd (omega arith)

-- ---- equal words
pub same_lengths : (a b : List ℕ) → (length a ≡ length b → ⊥) → same a b ≡ false
unfolding same
same_lengths [] [] h = absurd (h refl)
same_lengths [] (y ∷ m) h = refl
same_lengths (x ∷ l) [] h = refl
same_lengths (x ∷ l) (y ∷ m) h = go (eqb x y) (same_lengths l m (λ e. h (ap suc e)))
  where
    go : (t : Bool) → same l m ≡ false → (t && same l m) ≡ false
    go true e = e
    go false e = refl

pub same_equal : (a b : List ℕ) → same a b ≡ true → a ≡ b
unfolding same
same_equal [] [] e = refl
same_equal [] (y ∷ m) e = let f : ◌≡◌ {A = ℕ} 0 1 = cc in absurd (omega arith)
same_equal (x ∷ l) [] e = let f : ◌≡◌ {A = ℕ} 0 1 = cc in absurd (omega arith)
same_equal (x ∷ l) (y ∷ m) e = let p = both (eqb x y) (same l m) e in ap₂ (λ (a : ℕ) (b : List ℕ). a ∷ b) (eqb-true x y p.0) (same_equal l m p.1)

-- ---- lists in which a byte does not stand
pub record Other (x b : ℕ) : Type 0 where
  pub not_it : x ≡ b → ⊥

pub above : (x b : ℕ) → b < x → Other x b
above x b h = record { not_it = λ (z : x ≡ b). omega arith }

pub data Without (b : ℕ) : List ℕ → Type 0 where
  none : Without b []
  more : {x : ℕ} {l : List ℕ} → Other x b → Without b l → Without b (x ∷ l)

pub append_without : (b : ℕ) (l m : List ℕ) → Without b l → Without b m → Without b (l ++ m)
append_without b [] m none v = v
append_without b (x ∷ l) m (more o w) v = more o (append_without b l m w v)

pub digits_without : (b : ℕ) (l : List ℕ) → b < 48 → digits l ≡ true → Without b l
unfolding digits
digits_without b [] h e = none
digits_without b (x ∷ l) h e =
    let p = both (digit x) (digits l) e in
    let q = both (leb 48 x) (leb x 57) p.0 in
    more (above x b (omega (arith, leb-true 48 x q.0))) (digits_without b l h p.1)

-- ---- before a byte
pub before_end : (b : ℕ) (l r : List ℕ) → Without b l → before b (l ++ b ∷ r) ≡ l
unfolding before
before_end b [] r none = ap (λ (t : Bool). cond t [] (b ∷ before b r)) (eq-eqb b b refl)
before_end b (x ∷ l) r (more o w) = ap (λ (t : Bool). cond t [] (x ∷ before b (l ++ b ∷ r))) (ne_eqb x b o.not_it) ∙ ap (λ (m : List ℕ). x ∷ m) (before_end b l r w)

pub before_without : (b : ℕ) (l : List ℕ) → Without b (before b l)
unfolding before
before_without b [] = none
before_without b (x ∷ l) = go (eqb x b) refl (before_without b l)
  where
    go : (t : Bool) → eqb x b ≡ t → Without b (before b l) → Without b (cond t [] (x ∷ before b l))
    go true e w = none
    go false e w = more (record { not_it = eqb-false x b e }) w

pub before_split : (b : ℕ) (l : List ℕ) → length (before b l) < length l → l ≡ before b l ++ b ∷ drop (suc (length (before b l))) l
unfolding before
before_split b [] h = absurd (omega arith)
before_split b (x ∷ l) h = go (eqb x b) refl h (λ k. before_split b l k)
  where
    go : (t : Bool) → eqb x b ≡ t → length (cond t [] (x ∷ before b l)) < suc (length l)
        → (length (before b l) < length l → l ≡ before b l ++ b ∷ drop (suc (length (before b l))) l)
        → x ∷ l ≡ cond t [] (x ∷ before b l) ++ b ∷ drop (length (cond t [] (x ∷ before b l))) l
    go true e h k = ap (λ (y : ℕ). y ∷ l) (eqb-true x b e)
    go false e h k = ap (λ (m : List ℕ). x ∷ m) (k (omega arith))

-- ---- the words of a line
words_end : (u : List ℕ) → Without 32 u → words (u ++ []) ≡ u ∷ []
unfolding words
words_end [] none = refl
words_end (x ∷ u) (more o w) = ap (λ (t : Bool). cond t ([] ∷ words (u ++ [])) (onto x (words (u ++ [])))) (ne_eqb x 32 o.not_it) ∙ ap (onto x) (words_end u w)

words_space : (u l : List ℕ) → Without 32 u → words (u ++ 32 ∷ l) ≡ u ∷ words l
unfolding words
words_space [] l none = refl
words_space (x ∷ u) l (more o w) =
    ap (λ (t : Bool). cond t ([] ∷ words (u ++ 32 ∷ l)) (onto x (words (u ++ 32 ∷ l)))) (ne_eqb x 32 o.not_it) ∙ ap (onto x) (words_space u l w)

-- words as they stand in a line, each after one space
unfoldable pub joined : List (List ℕ) → List ℕ
joined [] = []
joined (p ∷ ps) = 32 ∷ (p ++ joined ps)

-- words: neither a space nor a newline stands in them
pub record Word (w : List ℕ) : Type 0 where
  pub no_space : Without 32 w
  pub no_newline : Without 10 w

pub data AllWords : List (List ℕ) → Type 0 where
  no_word : AllWords []
  word : {p : List ℕ} {ps : List (List ℕ)} → Word p → AllWords ps → AllWords (p ∷ ps)

pub words-joined : (u : List ℕ) (ps : List (List ℕ)) → Without 32 u → AllWords ps → words (u ++ joined ps) ≡ u ∷ ps
unfolding joined
words-joined u [] w no_word = words_end u w
words-joined u (p ∷ ps) w (word q qs) =
    words_space u (p ++ joined ps) w ∙ ap (λ (ws : List (List ℕ)). u ∷ ws) (words-joined p ps q.no_space qs)

pub joined_without : (ps : List (List ℕ)) → AllWords ps → Without 10 (joined ps)
unfolding joined
joined_without [] no_word = none
joined_without (p ∷ ps) (word q qs) = more (above 32 10 (omega arith)) (append_without 10 p (joined ps) q.no_newline (joined_without ps qs))

-- and every line without a newline is its words, joined
pub record Parted (l : List ℕ) : Type 0 where
  pub first : List ℕ
  pub others : List (List ℕ)
  pub first-is : Word first
  pub others_are : AllWords others
  pub is : l ≡ first ++ joined others
  pub words_are : words l ≡ first ∷ others

pub parted : (l : List ℕ) → Without 10 l → Parted l
unfolding words joined
parted [] none = record { first = []; others = []; first-is = record { no_space = none; no_newline = none }; others_are = no_word; is = refl; words_are = refl }
parted (x ∷ l) (more o w) = go (eqb x 32) refl (parted l w)
  where
    go : (t : Bool) → eqb x 32 ≡ t → Parted l → Parted (x ∷ l)
    go true e p =
        record {
          first = [];
          others = p.first ∷ p.others;
          first-is = record { no_space = none; no_newline = none };
          others_are = word p.first-is p.others_are;
          is = ap₂ (λ (y : ℕ) (m : List ℕ). y ∷ m) (eqb-true x 32 e) p.is;
          words_are = ap (λ (t : Bool). cond t ([] ∷ words l) (onto x (words l))) e ∙ ap (λ (ws : List (List ℕ)). [] ∷ ws) p.words_are;
        }
    go false e p =
        record {
          first = x ∷ p.first;
          others = p.others;
          first-is = record { no_space = more (record { not_it = eqb-false x 32 e }) p.first-is.no_space; no_newline = more o p.first-is.no_newline };
          others_are = p.others_are;
          is = ap (λ (m : List ℕ). x ∷ m) p.is;
          words_are = ap (λ (t : Bool). cond t ([] ∷ words l) (onto x (words l))) e ∙ ap (onto x) p.words_are;
        }
