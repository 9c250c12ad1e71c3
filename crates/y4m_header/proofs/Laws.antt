-- Laws that the proofs of this crate share. Assumes nothing.
use mathlib.Core.Path.{◌≡◌, refl, sym, ap, ◌∙◌, subst}
use mathlib.Core.Bool.{Bool, true, false, cond, ◌&&◌}
use mathlib.Core.List.{List, [], ◌∷◌}
use Prim.Native.Nat.{ℕ, zero, suc, min, ◌+◌, ◌-◌, ◌*◌, ◌<◌, ◌≤◌}
use native.Mathlib.Omega.{arith}
use native.Mathlib.Numerals.{add-one}
use lib.ListN.{length, get_or, take, drop, length-take}
use lib.Seq.{drop-cons, drop-length, take_all, take-take}
use lib.Dec.{leb, ltb, eqb}
use lib.Pointwise.{pointwise}
use borrow.Author.Tests.{eq-eqb, ne_eqb, lt-leb, le-leb, ltb-true, ltb-false, leb-true}
use Rattle.std.proofs.Common.{Option, Some, None, nat_eq, unwrap_or}
use Rattle.std.specs.Option.{ForSome, is_none}
use Rattle.std.proofs.Common.{eqb-true}
use Rattle.std.proofs.lemmas.Bool.{eqb-false}
use Rattle.std.specs.Iterator.{Yields}
use Rattle.std.proofs.lemmas.Iterator.{YieldsList}
use Rattle.std.proofs.lemmas.Iterator.Splits.{YieldsList-from_slice_split}
use Rattle.std.specs.Slice.Iter.{split_steps, split_rest, split_done, split_callee}
use Rattle.std.specs.declared.slice.Split.{Split}
use Rattle.std.specs.Fn.{CalledAt}
use denote.Param.Members.{Mut}
use denote.Ref.{Bor}
use Rattle.std.specs.List.{position_or_len, slice_split, onto_first}
use Rattle.std.proofs.lemmas.List.Recursion.{is_position_or_len}
use Rattle.y4m_header.specs.Words.{before, onto, words, same, digit, digits, worth}
use Rattle.y4m_header.specs.HeaderLine.{Told, HeaderAnswer, size, mark, jpeg420, nothing, broken, tell_width, tell_height, tell_colour, tell, tell_all, told, line, ended, refused, heading, header_of}
use Rattle.y4m_header.specs.Inner.{some_size, so_far, Sound, Kept}
use Rattle.y4m_header.specs.declared.header_line.Parameters.{Parameters}
use Rattle.y4m_header.proofs.Definitions.{both}
use Rattle.y4m_header.proofs.Resizing.{all-good}

-- ---- lists from a place on
pub drop_next : (l : List ℕ) (i : ℕ) → i < length l → drop i l ≡ get_or l i 0 ∷ drop (i + 1) l
drop_next l i h = drop-cons l i 0 h ∙ ap (λ (n : ℕ). get_or l i 0 ∷ drop n l) (sym (add-one i))

pub drop_end : (l : List ℕ) (i : ℕ) → i ≡ length l → drop i l ≡ []
drop_end l i e = ap (λ (n : ℕ). drop n l) e ∙ drop-length l

-- ---- before a byte
pub before-take : (b : ℕ) (l : List ℕ) → before b l ≡ take (length (before b l)) l
unfolding before
before-take b [] = refl
before-take b (x ∷ l) = go (eqb x b) (before-take b l)
  where
    go : (t : Bool) → before b l ≡ take (length (before b l)) l → cond t [] (x ∷ before b l) ≡ take (length (cond t [] (x ∷ before b l))) (x ∷ l)
    go true e = refl
    go false e = ap (λ (m : List ℕ). x ∷ m) e

-- how many bytes stand there
pub length-before : (b : ℕ) (l : List ℕ) → length (before b l) ≡ position_or_len (λ x. eqb x b) l
unfolding before
length-before b l = is_position_or_len (λ (m : List ℕ). length (before b m)) (λ x. eqb x b) refl (λ x m. go x m (eqb x b)) l
  where
    go : (x : ℕ) (m : List ℕ) (t : Bool) → length (cond t [] (x ∷ before b m)) ≡ cond t 0 (1 + length (before b m))
    go x m true = refl
    go x m false = omega arith

-- ---- equal words: what `==` says of them
pub equal_is : (a b : List ℕ) → pointwise nat_eq a b ≡ same a b
unfolding same
equal_is [] [] = refl
equal_is [] (y ∷ m) = refl
equal_is (x ∷ l) [] = refl
equal_is (x ∷ l) (y ∷ m) = ap (λ (t : Bool). nat_eq x y && t) (equal_is l m)

-- ---- a size
-- the largest number of so many digits
unfoldable pub most : ℕ → ℕ
most zero = 0
most (suc n) = 10 * most n + 9

most_5 : (n : ℕ) → n ≤ 5 → most n ≤ 99999
unfolding most
most_5 zero h = omega arith
most_5 (suc zero) h = omega arith
most_5 (suc (suc zero)) h = omega arith
most_5 (suc (suc (suc zero))) h = omega arith
most_5 (suc (suc (suc (suc zero)))) h = omega arith
most_5 (suc (suc (suc (suc (suc zero))))) h = omega arith
most_5 (suc (suc (suc (suc (suc (suc n)))))) h = absurd (omega arith)

most_next : (n : ℕ) → most (n + 1) ≡ 10 * most n + 9
unfolding most
most_next n = ap most (add-one n)

-- the first i are digits, worth v
pub record Counted (l : List ℕ) (v i : ℕ) : Type 0 where
  pub few : length l ≤ 5
  pub inside : i ≤ length l
  pub least : v ≤ most i
  pub value : worth 0 l ≡ worth v (drop i l)
  pub good : digits l ≡ digits (drop i l)

pub counted_small : (l : List ℕ) (v i : ℕ) → Counted l v i → v ≤ 99999
counted_small l v i p = let a = p.few in let b = p.inside in let c = p.least in omega (arith, most_5 i (omega arith))

digit_is : (b : ℕ) → digit b ≡ true → (48 ≤ b) × (b ≤ 57)
digit_is b e = let p = both (leb 48 b) (leb b 57) e in (leb-true 48 b p.0, leb-true b 57 p.1)

pub counted_more : (l : List ℕ) (v i : ℕ) → i < length l → digit (get_or l i 0) ≡ true → Counted l v i → Counted l (10 * v + (get_or l i 0 - 48)) (i + 1)
unfolding worth digits
counted_more l v i h d p =
    let least = p.least in
    record {
      few = p.few;
      inside = omega arith;
      least = omega (arith, most_next i, digit_is (get_or l i 0) d);
      value = p.value ∙ ap (worth v) (drop_next l i h);
      good = p.good ∙ ap digits (drop_next l i h) ∙ ap (λ (t : Bool). t && digits (drop (i + 1) l)) d;
    }

pub size-long : (l : List ℕ) → 5 < length l → size l ≡ 0
unfolding size
size-long l h = ap (λ (t : Bool). cond (t && (digits l && leb (worth 0 l) 16384)) (worth 0 l) 0) (lt-leb (length l) 5 h)

size_other : (l : List ℕ) → digits l ≡ false → size l ≡ 0
unfolding size
size_other l e = go (leb (length l) 5)
  where
    go : (t : Bool) → cond (t && (digits l && leb (worth 0 l) 16384)) (worth 0 l) 0 ≡ 0
    go false = refl
    go true = ap (λ (t : Bool). cond (t && leb (worth 0 l) 16384) (worth 0 l) 0) e

pub counted_not : (l : List ℕ) (v i : ℕ) → i < length l → digit (get_or l i 0) ≡ false → Counted l v i → size l ≡ 0
unfolding digits
counted_not l v i h bad p =
    size_other l (p.good ∙ ap digits (drop_next l i h) ∙ ap (λ (t : Bool). t && digits (drop (i + 1) l)) bad)

-- all are digits
size-digits : (l : List ℕ) (v : ℕ) → length l ≤ 5 → digits l ≡ true → worth 0 l ≡ v → size l ≡ cond (leb v 16384) v 0
unfolding size
size-digits l v few good e =
    ap (λ (t : Bool). cond (t && (digits l && leb (worth 0 l) 16384)) (worth 0 l) 0) (le-leb (length l) 5 few)
    ∙ ap (λ (t : Bool). cond (t && leb (worth 0 l) 16384) (worth 0 l) 0) good
    ∙ ap (λ (n : ℕ). cond (leb n 16384) n 0) e

counted_end : (l : List ℕ) (v i : ℕ) → length l ≤ i → Counted l v i → size l ≡ cond (leb v 16384) v 0
unfolding worth digits
counted_end l v i h p =
    let inside = p.inside in
    let e = drop_end l i (omega arith) in
    size-digits l v p.few (p.good ∙ ap digits e) (p.value ∙ ap (worth v) e)

pub counted_large : (l : List ℕ) (v i : ℕ) → length l ≤ i → 16384 < v → Counted l v i → size l ≡ 0
counted_large l v i h k p = counted_end l v i h p ∙ ap (λ (t : Bool). cond t v 0) (lt-leb v 16384 k)

pub counted_all : (l : List ℕ) (v i : ℕ) → length l ≤ i → v ≤ 16384 → Counted l v i → size l ≡ v
counted_all l v i h k p = counted_end l v i h p ∙ ap (λ (t : Bool). cond t v 0) (le-leb v 16384 k)

-- a size, where it is one
pub no_size : (l : List ℕ) → size l ≡ 0 → None ≡ some_size (size l)
no_size l e = sym (ap some_size e)

pub is_size : (l : List ℕ) (v : ℕ) → 1 ≤ v → size l ≡ v → Some v ≡ some_size (size l)
is_size l v h e = sym (ap some_size e ∙ ap (λ (t : Bool). cond t None (Some v)) (ne_eqb v 0 (λ z. omega arith)))

pub of_no_size : (n : ℕ) → None ≡ some_size n → n ≡ 0
of_no_size n e = go (eqb n 0) refl e
  where
    go : (b : Bool) → eqb n 0 ≡ b → None ≡ cond b None (Some n) → n ≡ 0
    go true t q = eqb-true n 0 t
    go false t q = cc

pub of_size : (n v : ℕ) → Some v ≡ some_size n → (n ≡ v) × (1 ≤ v)
of_size n v e = go (eqb n 0) refl e
  where
    go : (b : Bool) → eqb n 0 ≡ b → Some v ≡ cond b None (Some n) → (n ≡ v) × (1 ≤ v)
    go true t q = cc
    go false t q = let is : n ≡ v = cc in (is, omega (arith, eqb-false n 0 t))

untold : (o : Option ℕ) → is_none o ≡ true → unwrap_or o 0 ≡ 0
untold None e = refl
untold (Some n) e = cc

is-told : (o : Option ℕ) → ForSome o (λ n. 1 ≤ n) → is_none o ≡ false → unwrap_or o 0 ≡ 0 → ⊥
is-told None f e z = cc
is-told (Some n) f e z = let h : 1 ≤ n = f n refl in omega arith

some_least : (v : ℕ) → 1 ≤ v → ForSome (Some v) (λ n. 1 ≤ n)
some_least v h n e = let is : v ≡ n = cc in omega arith

-- ---- one parameter
pub tell_empty : (t : Told) (l : List ℕ) → length l ≡ 0 → (tell t l).good ≡ false
unfolding tell
tell_empty t [] h = refl
tell_empty t (x ∷ l) h = absurd (omega arith)

module _ (p : Parameters) (word : List ℕ) (name : ℕ) (rest : List ℕ) (parted : word ≡ name ∷ rest) (sound : Sound p) where
  tell_is : tell (so_far p) word ≡ cond (eqb name 87) (tell_width (size rest) (so_far p)) (cond (eqb name 72) (tell_height (size rest) (so_far p))
      (cond (eqb name 67) (tell_colour (same rest jpeg420) (so_far p)) (so_far p)))
  unfolding tell
  tell_is = ap (tell (so_far p)) parted

  tell_W : name ≡ 87 → tell (so_far p) word ≡ tell_width (size rest) (so_far p)
  tell_W a = tell_is ∙ simp (eq-eqb name 87 a)

  tell_H : name ≡ 72 → tell (so_far p) word ≡ tell_height (size rest) (so_far p)
  tell_H a = tell_is ∙ simp (ne_eqb name 87 (λ b. omega arith), eq-eqb name 72 a)

  tell_C : name ≡ 67 → tell (so_far p) word ≡ tell_colour (same rest jpeg420) (so_far p)
  tell_C a = tell_is ∙ simp (ne_eqb name 87 (λ b. omega arith), ne_eqb name 72 (λ b. omega arith), eq-eqb name 67 a)

  pub tell_other : (name ≡ 87 → ⊥) → (name ≡ 72 → ⊥) → (name ≡ 67 → ⊥) → Kept (tell (so_far p) word) p
  tell_other a b d = record { is = tell_is ∙ simp (ne_eqb name 87 a, ne_eqb name 72 b, ne_eqb name 67 d); sound = sound }

  pub width_twice : name ≡ 87 → is_none p.width ≡ false → (tell (so_far p) word).good ≡ false
  unfolding tell_width
  width_twice a h = let e : tell (so_far p) word ≡ broken = tell_W a ∙ simp (ne_eqb (so_far p).width 0 (is-told p.width sound.wide h)) in ap (λ (t : Told). t.good) e

  pub width_none : name ≡ 87 → is_none p.width ≡ true → None ≡ some_size (size rest) → (tell (so_far p) word).good ≡ false
  unfolding tell_width
  width_none a h k = let e : tell (so_far p) word ≡ broken = tell_W a ∙ simp (eq-eqb (so_far p).width 0 (untold p.width h), eq-eqb (size rest) 0 (of_no_size _ k)) in ap (λ (t : Told). t.good) e

  pub width-told : (v : ℕ) → name ≡ 87 → is_none p.width ≡ true → Some v ≡ some_size (size rest) → Kept (tell (so_far p) word) (record { width = Some v; height = p.height; colour = p.colour })
  unfolding tell_width
  width-told v a h k =
      let s = of_size (size rest) v k in
      let e : tell_width (size rest) (so_far p) ≡ record { good = true; width = size rest; height = unwrap_or p.height 0; colour = p.colour } =
      simp (eq-eqb (so_far p).width 0 (untold p.width h), ne_eqb (size rest) 0 (λ z. omega (arith, s))) in
      record {
        is = tell_W a ∙ e ∙ ap (λ (n : ℕ). record { good = true; width = n; height = unwrap_or p.height 0; colour = p.colour }) s.0;
        sound = record { wide = some_least v s.1; high = sound.high };
      }

  pub height_twice : name ≡ 72 → is_none p.height ≡ false → (tell (so_far p) word).good ≡ false
  unfolding tell_height
  height_twice a h = let e : tell (so_far p) word ≡ broken = tell_H a ∙ simp (ne_eqb (so_far p).height 0 (is-told p.height sound.high h)) in ap (λ (t : Told). t.good) e

  pub height_none : name ≡ 72 → is_none p.height ≡ true → None ≡ some_size (size rest) → (tell (so_far p) word).good ≡ false
  unfolding tell_height
  height_none a h k = let e : tell (so_far p) word ≡ broken = tell_H a ∙ simp (eq-eqb (so_far p).height 0 (untold p.height h), eq-eqb (size rest) 0 (of_no_size _ k)) in ap (λ (t : Told). t.good) e

  pub height-told : (v : ℕ) → name ≡ 72 → is_none p.height ≡ true → Some v ≡ some_size (size rest) → Kept (tell (so_far p) word) (record { width = p.width; height = Some v; colour = p.colour })
  unfolding tell_height
  height-told v a h k =
      let s = of_size (size rest) v k in
      let e : tell_height (size rest) (so_far p) ≡ record { good = true; width = unwrap_or p.width 0; height = size rest; colour = p.colour } =
      simp (eq-eqb (so_far p).height 0 (untold p.height h), ne_eqb (size rest) 0 (λ z. omega (arith, s))) in
      record {
        is = tell_H a ∙ e ∙ ap (λ (n : ℕ). record { good = true; width = unwrap_or p.width 0; height = n; colour = p.colour }) s.0;
        sound = record { high = some_least v s.1; wide = sound.wide };
      }

  pub colour_twice : name ≡ 67 → p.colour ≡ true → (tell (so_far p) word).good ≡ false
  unfolding tell_colour
  colour_twice a h = let e : tell (so_far p) word ≡ broken = tell_C a ∙ simp h in ap (λ (t : Told). t.good) e

  pub colour_unknown : name ≡ 67 → p.colour ≡ false → pointwise nat_eq rest jpeg420 ≡ false → (tell (so_far p) word).good ≡ false
  unfolding tell_colour
  colour_unknown a h k = let e : tell (so_far p) word ≡ broken = tell_C a ∙ simp (h, sym (equal_is rest jpeg420) ∙ k) in ap (λ (t : Told). t.good) e

  pub colour-told : name ≡ 67 → p.colour ≡ false → pointwise nat_eq rest jpeg420 ≡ true
      → Kept (tell (so_far p) word) (record { width = p.width; height = p.height; colour = true })
  unfolding tell_colour
  colour-told a h k =
      record { is = tell_C a ∙ simp (h, sym (equal_is rest jpeg420) ∙ k); sound = record { wide = sound.wide; high = sound.high } }

-- ---- the words of a line
onto_is : (x : ℕ) (ws : List (List ℕ)) → onto x ws ≡ onto_first x ws
onto_is x [] = refl
onto_is x (w ∷ ws) = refl

pub words-split : (l : List ℕ) → slice_split (λ x. eqb x 32) l ≡ words l
unfolding words
words-split [] = refl
words-split (x ∷ l) =
    ap (λ (ws : List (List ℕ)). cond (eqb x 32) ([] ∷ ws) (onto_first x ws)) (words-split l)
    ∙ ap (λ (ws : List (List ℕ)). cond (eqb x 32) ([] ∷ words l) ws) (sym (onto_is x (words l)))

-- the first of them
told_first : (ws : List (List ℕ)) (w : List ℕ) → 0 < length ws → w ≡ get_or ws 0 w → told ws ≡ cond (same w mark) (tell_all nothing (drop 1 ws)) broken
unfolding told
told_first [] w h e = absurd (omega arith)
told_first (v ∷ ws) w h e = ap (λ (u : List ℕ). cond (same u mark) (tell_all nothing ws) broken) (sym e)

-- so many parameters are heard
pub record Heard (ws : List (List ℕ)) (p : Parameters) (n : ℕ) : Type 0 where
  pub inside : n < length ws
  pub rest : told ws ≡ tell_all (so_far p) (drop (suc n) ws)
  pub sound : Sound p

pub unmarked : (ws : List (List ℕ)) (w : List ℕ) → 0 < length ws → w ≡ get_or ws 0 w → pointwise nat_eq w mark ≡ false → (told ws).good ≡ false
unmarked ws w h e t = ap (λ (u : Told). u.good) (told_first ws w h e ∙ ap (λ (b : Bool). cond b (tell_all nothing (drop 1 ws)) broken) (sym (equal_is w mark) ∙ t))

pub heard_none : (ws : List (List ℕ)) (w : List ℕ) → 0 < length ws → w ≡ get_or ws 0 w → pointwise nat_eq w mark ≡ true
    → Heard ws (record { width = None; height = None; colour = false }) 0
heard_none ws w h e t =
    record {
      inside = h;
      rest = told_first ws w h e ∙ ap (λ (b : Bool). cond b (tell_all nothing (drop 1 ws)) broken) (sym (equal_is w mark) ∙ t);
      sound = record { wide = λ n e. cc; high = λ n e. cc };
    }

-- one more
heard_one : (ws : List (List ℕ)) (w : List ℕ) (p : Parameters) (n : ℕ) → suc n < length ws → w ≡ get_or ws (suc n) w → Heard ws p n
    → told ws ≡ tell_all (tell (so_far p) w) (drop (suc (suc n)) ws)
unfolding tell_all
heard_one ws w p n h e q =
    q.rest ∙ ap (tell_all (so_far p)) (drop-cons ws (suc n) w h ∙ ap (λ (v : List ℕ). v ∷ drop (suc (suc n)) ws) (sym e))

pub heard_more : (ws : List (List ℕ)) (w : List ℕ) (p r : Parameters) (n : ℕ) → suc n < length ws → w ≡ get_or ws (suc n) w → Kept (tell (so_far p) w) r → Heard ws p n
    → Heard ws r (suc n)
heard_more ws w p r n h e t q = record { inside = h; rest = heard_one ws w p n h e q ∙ ap (λ (u : Told). tell_all u (drop (suc (suc n)) ws)) t.is; sound = t.sound }

bad_stays : (t : Told) (ws : List (List ℕ)) → t.good ≡ false → (tell_all t ws).good ≡ false
bad_stays t ws e = go (tell_all t ws).good refl
  where
    go : (b : Bool) → (tell_all t ws).good ≡ b → b ≡ false
    go true q = let f : t.good ≡ true = all-good t ws q in cc
    go false q = refl

pub heard_bad : (ws : List (List ℕ)) (w : List ℕ) (p : Parameters) (n : ℕ) → suc n < length ws → w ≡ get_or ws (suc n) w → (tell (so_far p) w).good ≡ false → Heard ws p n
    → (told ws).good ≡ false
heard_bad ws w p n h e t q = ap (λ (u : Told). u.good) (heard_one ws w p n h e q) ∙ bad_stays (tell (so_far p) w) (drop (suc (suc n)) ws) t

pub heard_all : (ws : List (List ℕ)) (p : Parameters) (n : ℕ) → suc n ≡ length ws → Heard ws p n → Kept (told ws) p
unfolding tell_all
heard_all ws p n e q =
    record { is = q.rest ∙ ap (λ (k : ℕ). tell_all (so_far p) (drop k ws)) e ∙ ap (tell_all (so_far p)) (drop-length ws); sound = q.sound }

-- ---- the words that `split` yields: all of the line, and after the first the others. One step of its own tells which closure it has
pub words_yielded : {F : Type 0} {g : Mut F (Bor ℕ × Unit {0}) Bool} {s : Split ℕ F} (u : Split ℕ F) (r : Option (Bor (List ℕ))) (l : List ℕ) {f : F} → split_steps g s r u
    → split_rest s ≡ l → split_done s ≡ false → split_callee s ≡ f → ((x : ℕ) (b : Bool) (q : F) → CalledAt g f x b q → (q ≡ f) × (b ≡ eqb x 32))
    → YieldsList (split_steps g) (λ x. x.now) s (words l)
words_yielded {g = g} {s = s} u r l step rest done closure calls =
    subst (YieldsList (split_steps g) (λ x. x.now) s) (words-split l) (YieldsList-from_slice_split g (λ x. eqb x 32) l rest done closure calls)

pub after_first : {S A B : Type 0} {steps : S → Option A → S → Type 0} {v : A → B} {s : S} {all : List B} → YieldsList steps v s all → (x : A) (j k : S) → steps s (Some x) j → k ≡ j
    → (xs : List A) (t : S) → Yields steps k xs t → Yields steps s (x ∷ xs) t
after_first {steps = steps} {s = s} e x j k h i xs t y = (k, subst (steps s (Some x)) (sym i) h, y)

-- ---- the header
take-least : (file : List ℕ) (limit : ℕ) → limit ≡ min (length file) 256 → take limit file ≡ take 256 file
take-least file limit e = go (ltb 256 (length file)) refl
  where
    go : (t : Bool) → ltb 256 (length file) ≡ t → take limit file ≡ take 256 file
    go true q = let h = ltb-true 256 (length file) q in let all : limit ≡ 256 = omega arith in ap (λ (n : ℕ). take n file) all
    go false q = let h = ltb-false 256 (length file) q in take_all limit file (omega arith) ∙ sym (take_all 256 file h)

pub line_found : (file : List ℕ) (most : ℕ) (r : Option ℕ) → most ≡ min (length file) 256
    → r ≡ cond (ltb (position_or_len (λ x. eqb x 10) (take most file)) (length (take most file))) (Some (position_or_len (λ x. eqb x 10) (take most file))) None
    → r ≡ cond (ended file) (Some (length (line file))) None
line_found file most r e q =
    q
    ∙ ap (λ (n : ℕ). cond (ltb n (length (take most file))) (Some n) None) (sym (length-before 10 (take most file)))
    ∙ ap (λ (l : List ℕ). cond (ltb (length (before 10 l)) (length l)) (Some (length (before 10 l))) None) (take-least file most e)

pub no_line : (file : List ℕ) → None ≡ cond (ended file) (Some (length (line file))) None → header_of file ≡ refused
unfolding header_of
no_line file e = go (ended file) e
  where
    go : (t : Bool) → None ≡ cond t (Some (length (line file))) None → cond t (heading (told (words (line file))) (length (line file) + 1)) refused ≡ refused
    go true q = cc
    go false q = refl

pub line_inside : (file : List ℕ) (n : ℕ) → Some n ≡ cond (ended file) (Some (length (line file))) None → n < length (take 256 file)
line_inside file n e = go (ended file) refl e
  where
    go : (t : Bool) → ended file ≡ t → Some n ≡ cond t (Some (length (line file))) None → n < length (take 256 file)
    go true p q = let is : n ≡ length (line file) = cc in omega (arith, ltb-true (length (line file)) (length (take 256 file)) p)
    go false p q = cc

pub has_line : (file : List ℕ) (n : ℕ) → Some n ≡ cond (ended file) (Some (length (line file))) None → header_of file ≡ heading (told (words (take n file))) (n + 1)
unfolding header_of
has_line file n e = go (ended file) refl e
  where
    go : (t : Bool) → ended file ≡ t → Some n ≡ cond t (Some (length (line file))) None
        → cond t (heading (told (words (line file))) (length (line file) + 1)) refused ≡ heading (told (words (take n file))) (n + 1)
    go true p q =
        let is : n ≡ length (line file) = cc in
        let h : n < length (take 256 file) = omega (arith, ltb-true (length (line file)) (length (take 256 file)) p) in
        let l : line file ≡ take n file =
        before-take 10 (take 256 file) ∙ ap (λ (k : ℕ). take k (take 256 file)) (sym is) ∙ take-take n 256 file (omega (arith, length-take 256 file)) in
        ap (λ (m : List ℕ). heading (told (words m)) (length (line file) + 1)) l ∙ ap (λ (k : ℕ). heading (told (words (take n file))) (k + 1)) (sym is)
    go false p q = cc

-- a line that breaks a rule is refused
pub heading_bad : (t : Told) (n : ℕ) → t.good ≡ false → heading t n ≡ refused
unfolding heading
heading_bad t n e = simp e

-- ---- the two sizes
pub head_no_width : (p : Parameters) (n : ℕ) → p.width ≡ None → refused ≡ heading (so_far p) n
unfolding heading
head_no_width p n e = sym (simp (eq-eqb (so_far p).width 0 (ap (λ (o : Option ℕ). unwrap_or o 0) e)))

pub head_no_height : (p : Parameters) (n v : ℕ) → Sound p → p.width ≡ Some v → p.height ≡ None → refused ≡ heading (so_far p) n
unfolding heading
head_no_height p n v s d e =
    let some = s.wide v d in
    let w : (so_far p).width ≡ v = ap (λ (o : Option ℕ). unwrap_or o 0) d in
    sym (simp (ne_eqb (so_far p).width 0 (λ z. omega arith), eq-eqb (so_far p).height 0 (ap (λ (o : Option ℕ). unwrap_or o 0) e)))

pub head_done : (p : Parameters) (n v u : ℕ) → Sound p → p.width ≡ Some v → p.height ≡ Some u → ◌≡◌ {A = HeaderAnswer} (record { number = 0; width = v; height = u; taken = n }) (heading (so_far p) n)
unfolding heading
head_done p n v u s d e =
    let some = s.wide v d in
    let some' = s.high u e in
    let w : (so_far p).width ≡ v = ap (λ (o : Option ℕ). unwrap_or o 0) d in
    let h : (so_far p).height ≡ u = ap (λ (o : Option ℕ). unwrap_or o 0) e in
    let both : heading (so_far p) n ≡ record { number = 0; width = (so_far p).width; height = (so_far p).height; taken = n } =
    simp (ne_eqb (so_far p).width 0 (λ z. omega arith), ne_eqb (so_far p).height 0 (λ z. omega arith)) in
    sym (both ∙ (λ i. record { number = 0; width = w i; height = h i; taken = n }))
