-- A header whose sizes are replaced and whose other parameters are kept, as for a file that is padded or cropped. Assumes nothing.
use Rattle.std.specs.Prelude.{◌≡◌, Bool, ◌&&◌, List, [], ◌∷◌, ◌++◌, ℕ, ◌+◌, ◌≤◌, length}
use Rattle.std.proofs.Math.Path.{refl, sym, ap, subst}
use Rattle.std.proofs.Common.{◌∙◌, arith}
use Rattle.std.proofs.Math.Bool.{true, false, cond, not}
use Rattle.std.proofs.Math.Dec.{eqb}
use borrow.Author.Tests.{eq-eqb, ne_eqb, not-true}
use Rattle.y4m_header.specs.Words.{same, worth}
use Rattle.y4m_header.specs.HeaderLine.{Told, jpeg420, size, nothing, broken, tell_width, tell_height, tell_colour, tell, tell_all, complete, heading, header_of}
use Rattle.y4m_header.proofs.Definitions.{both, Word, AllWords, no_word, word}
use Rattle.y4m_header.proofs.Theorems.{line_of, header_means, IsSize, size_is, size_word}

-- the digits a after W, the digits b after H
unfoldable pub resized : List ℕ → List ℕ → List ℕ → List ℕ
resized a b [] = []
resized a b (name ∷ l) = cond (eqb name 87) (87 ∷ a) (cond (eqb name 72) (72 ∷ b) (name ∷ l))

unfoldable pub all_resized : List ℕ → List ℕ → List (List ℕ) → List (List ℕ)
all_resized a b [] = []
all_resized a b (p ∷ ps) = resized a b p ∷ all_resized a b ps

clash : false ≡ true → ⊥
clash e = let f : ◌≡◌ {A = ℕ} 0 1 = cc in absurd (omega arith)

-- t' has been told what t has, with the width v where t has one, and the height u
record Alike (v u : ℕ) (t t' : Told) : Type 0 where
  pub good : t'.good ≡ t.good
  pub colour : t'.colour ≡ t.colour
  pub width : t'.width ≡ cond (eqb t.width 0) 0 v
  pub height : t'.height ≡ cond (eqb t.height 0) 0 u

module _ (v u : ℕ) (some-v : 1 ≤ v) (some-u : 1 ≤ u) where
  width_alike : (n : ℕ) (t t' : Told) → Alike v u t t' → (tell_width n t).good ≡ true → Alike v u (tell_width n t) (tell_width v t')
  unfolding tell_width
  width_alike n t t' p e = go (eqb t.width 0) refl (eqb n 0) refl e
    where
      go : (x : Bool) → eqb t.width 0 ≡ x → (y : Bool) → eqb n 0 ≡ y
          → (cond (x && not y) (record { good = t.good; width = n; height = t.height; colour = t.colour }) broken).good ≡ true
          → Alike v u (cond (x && not y) (record { good = t.good; width = n; height = t.height; colour = t.colour }) broken) (tell_width v t')
      go true f false g e =
          let none : t'.width ≡ 0 = p.width ∙ ap (λ (b : Bool). cond b 0 v) f in
          let is : tell_width v t' ≡ record { good = t'.good; width = v; height = t'.height; colour = t'.colour } =
          simp (eq-eqb t'.width 0 none, ne_eqb v 0 (λ (z : v ≡ 0). omega arith)) in
          subst (Alike v u (record { good = t.good; width = n; height = t.height; colour = t.colour })) (sym is)
          (record { good = p.good; colour = p.colour; width = sym (ap (λ (b : Bool). cond b 0 v) g); height = p.height })
      go true f true g e = absurd (clash e)
      go false f y g e = absurd (clash e)

  height_alike : (n : ℕ) (t t' : Told) → Alike v u t t' → (tell_height n t).good ≡ true → Alike v u (tell_height n t) (tell_height u t')
  unfolding tell_height
  height_alike n t t' p e = go (eqb t.height 0) refl (eqb n 0) refl e
    where
      go : (x : Bool) → eqb t.height 0 ≡ x → (y : Bool) → eqb n 0 ≡ y
          → (cond (x && not y) (record { good = t.good; width = t.width; height = n; colour = t.colour }) broken).good ≡ true
          → Alike v u (cond (x && not y) (record { good = t.good; width = t.width; height = n; colour = t.colour }) broken) (tell_height u t')
      go true f false g e =
          let none : t'.height ≡ 0 = p.height ∙ ap (λ (b : Bool). cond b 0 u) f in
          let is : tell_height u t' ≡ record { good = t'.good; width = t'.width; height = u; colour = t'.colour } =
          simp (eq-eqb t'.height 0 none, ne_eqb u 0 (λ (z : u ≡ 0). omega arith)) in
          subst (Alike v u (record { good = t.good; width = t.width; height = n; colour = t.colour })) (sym is)
          (record { good = p.good; colour = p.colour; width = p.width; height = sym (ap (λ (b : Bool). cond b 0 u) g) })
      go true f true g e = absurd (clash e)
      go false f y g e = absurd (clash e)

  colour_alike : (known : Bool) (t t' : Told) → Alike v u t t' → (tell_colour known t).good ≡ true → Alike v u (tell_colour known t) (tell_colour known t')
  unfolding tell_colour
  colour_alike known t t' p e =
      subst (Alike v u (tell_colour known t)) (sym (ap (λ (c : Bool). cond (not c && known) told' broken) p.colour)) (go (not t.colour && known) e)
    where
      told' : Told
      told' = record { good = t'.good; width = t'.width; height = t'.height; colour = true }

      go : (x : Bool) → (cond x (record { good = t.good; width = t.width; height = t.height; colour = true }) broken).good ≡ true
          → Alike v u (cond x (record { good = t.good; width = t.width; height = t.height; colour = true }) broken) (cond x told' broken)
      go true e = record { good = p.good; colour = refl; width = p.width; height = p.height }
      go false e = absurd (clash e)

-- a parameter that breaks no rule tells the same, with the other sizes
tell_alike : (a b : List ℕ) → IsSize a → IsSize b → (t t' : Told) (w : List ℕ) → Alike (worth 0 a) (worth 0 b) t t' → (tell t w).good ≡ true
    → Alike (worth 0 a) (worth 0 b) (tell t w) (tell t' (resized a b w))
unfolding tell resized
tell_alike a b sa sb t t' [] p e = absurd (clash e)
tell_alike a b sa sb t t' (name ∷ l) p e = go (eqb name 87) refl (eqb name 72) refl (eqb name 67) refl e
  where
    go : (x : Bool) → eqb name 87 ≡ x → (y : Bool) → eqb name 72 ≡ y → (z : Bool) → eqb name 67 ≡ z
        → (cond x (tell_width (size l) t) (cond y (tell_height (size l) t) (cond z (tell_colour (same l jpeg420) t) t))).good ≡ true
        → Alike (worth 0 a) (worth 0 b) (cond x (tell_width (size l) t) (cond y (tell_height (size l) t) (cond z (tell_colour (same l jpeg420) t) t)))
        (tell t' (cond x (87 ∷ a) (cond y (72 ∷ b) (name ∷ l))))
    go true f y g z h e =
        subst (λ (n : ℕ). Alike (worth 0 a) (worth 0 b) (tell_width (size l) t) (tell_width n t')) (sym (size_is a sa))
        (width_alike (worth 0 a) (worth 0 b) sa.least sb.least (size l) t t' p e)
    go false f true g z h e =
        subst (λ (n : ℕ). Alike (worth 0 a) (worth 0 b) (tell_height (size l) t) (tell_height n t')) (sym (size_is b sb))
        (height_alike (worth 0 a) (worth 0 b) sa.least sb.least (size l) t t' p e)
    go false f false g true h e =
        let is : tell t' (name ∷ l) ≡ tell_colour (same l jpeg420) t' = simp (f, g, h) in
        subst (Alike (worth 0 a) (worth 0 b) (tell_colour (same l jpeg420) t)) (sym is)
        (colour_alike (worth 0 a) (worth 0 b) sa.least sb.least (same l jpeg420) t t' p e)
    go false f false g false h e =
        let is : tell t' (name ∷ l) ≡ t' = simp (f, g, h) in
        subst (Alike (worth 0 a) (worth 0 b) t) (sym is) p

-- a rule that is broken stays broken
good_before : (t : Told) (w : List ℕ) → (tell t w).good ≡ true → t.good ≡ true
unfolding tell tell_width tell_height tell_colour
good_before t [] e = absurd (clash e)
good_before t (name ∷ l) e =
    go (eqb name 87) (eqb name 72) (eqb name 67) (eqb t.width 0 && not (eqb (size l) 0)) (eqb t.height 0 && not (eqb (size l) 0))
    (not t.colour && same l jpeg420) e
  where
    outcome : Bool → Bool → Bool → Bool → Bool → Bool → Told
    outcome x y z i j k =
        cond x (cond i (record { good = t.good; width = size l; height = t.height; colour = t.colour }) broken)
        (cond y (cond j (record { good = t.good; width = t.width; height = size l; colour = t.colour }) broken)
        (cond z (cond k (record { good = t.good; width = t.width; height = t.height; colour = true }) broken)
        t))

    go : (x y z i j k : Bool) → (outcome x y z i j k).good ≡ true → t.good ≡ true
    go true y z true j k e = e
    go true y z false j k e = absurd (clash e)
    go false true z i true k e = e
    go false true z i false k e = absurd (clash e)
    go false false true i j true e = e
    go false false true i j false e = absurd (clash e)
    go false false false i j k e = e

pub all-good : (t : Told) (ps : List (List ℕ)) → (tell_all t ps).good ≡ true → t.good ≡ true
unfolding tell_all
all-good t [] e = e
all-good t (p ∷ ps) e = good_before t p (all-good (tell t p) ps e)

tell_all_alike : (a b : List ℕ) → IsSize a → IsSize b → (t t' : Told) (ps : List (List ℕ)) → Alike (worth 0 a) (worth 0 b) t t' → (tell_all t ps).good ≡ true
    → Alike (worth 0 a) (worth 0 b) (tell_all t ps) (tell_all t' (all_resized a b ps))
unfolding tell_all all_resized
tell_all_alike a b sa sb t t' [] p e = p
tell_all_alike a b sa sb t t' (w ∷ ps) p e =
    tell_all_alike a b sa sb (tell t w) (tell t' (resized a b w)) ps (tell_alike a b sa sb t t' w p (all-good (tell t w) ps e)) e

resized-word : (a b : List ℕ) → IsSize a → IsSize b → (w : List ℕ) → Word w → Word (resized a b w)
unfolding resized
resized-word a b sa sb [] p = p
resized-word a b sa sb (name ∷ l) p = go (eqb name 87) (eqb name 72)
  where
    go : (x y : Bool) → Word (cond x (87 ∷ a) (cond y (72 ∷ b) (name ∷ l)))
    go true y = size_word 87 a (omega arith) sa
    go false true = size_word 72 b (omega arith) sb
    go false false = p

resized_words : (a b : List ℕ) → IsSize a → IsSize b → (ps : List (List ℕ)) → AllWords ps → AllWords (all_resized a b ps)
unfolding all_resized
resized_words a b sa sb [] no_word = no_word
resized_words a b sa sb (w ∷ ps) (word p q) = word (resized-word a b sa sb w p) (resized_words a b sa sb ps q)

-- THEOREM. A header that is read, with other sizes in the places of its own, is read to those, whatever follows it, if it still fits.
pub header-resized : (a b : List ℕ) → IsSize a → IsSize b → (ps : List (List ℕ)) (rest : List ℕ) → AllWords ps → complete (tell_all nothing ps) ≡ true
    → length (line_of (all_resized a b ps)) ≤ 255
    → header_of (line_of (all_resized a b ps) ++ 10 ∷ rest) ≡ record { number = 0; width = worth 0 a; height = worth 0 b; taken = length (line_of (all_resized a b ps)) + 1 }
unfolding heading
header-resized a b sa sb ps rest all e fits =
    let v = worth 0 a in
    let u = worth 0 b in
    let least = sa.least in
    let least' = sb.least in
    let t = tell_all nothing ps in
    let t' = tell_all nothing (all_resized a b ps) in
    let good = both t.good (not (eqb t.width 0) && not (eqb t.height 0)) e in
    let sizes = both (not (eqb t.width 0)) (not (eqb t.height 0)) good.1 in
    let p = tell_all_alike a b sa sb nothing nothing ps (record { good = refl; colour = refl; width = refl; height = refl }) good.0 in
    let is-v : t'.width ≡ v = p.width ∙ ap (λ (x : Bool). cond x 0 v) (not-true (eqb t.width 0) sizes.0) in
    let is-u : t'.height ≡ u = p.height ∙ ap (λ (x : Bool). cond x 0 u) (not-true (eqb t.height 0) sizes.1) in
    header_means (all_resized a b ps) rest (resized_words a b sa sb ps all) fits
    ∙ simp (p.good ∙ good.0, is-v, is-u, ne_eqb v 0 (λ (z : v ≡ 0). omega arith), ne_eqb u 0 (λ (z : u ≡ 0). omega arith))
