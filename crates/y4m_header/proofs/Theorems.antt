-- Theorems of headers. The contracts of `read_header` and of `threshowl_y4m_header` are equations with `header_of`, and carry them to both.
-- Assumes nothing.
use Rattle.std.specs.Prelude.{◌≡◌, refl, Bool, true, false, cond, not, ◌&&◌, List, [], ◌∷◌, ◌++◌, ℕ, zero, suc, ◌+◌, ◌-◌, ◌*◌, ◌/◌, ◌%◌, ◌<◌, ◌≤◌, leb, ltb, eqb, length, take, drop}
use Rattle.std.proofs.Common.{sym, ap, ap₂, ◌∙◌, subst, append_assoc, arith, length-append, length-take, take-append-drop, take_at, leb-true, le-leb, ne_eqb, lt-ltb, ltb-true}
use Rattle.std.proofs.Math.Seq.{take-append-add}
use Rattle.std.proofs.lemmas.Bool.{eqb-false}
use Rattle.y4m_header.specs.Words.{before, words, same, digit, digits, worth}
use Rattle.y4m_header.specs.HeaderLine.{Told, HeaderAnswer, mark, jpeg420, size, nothing, broken, tell_width, tell_height, tell_colour, tell, tell_all, told, line, ended, complete, refused, heading, header_of}
use Rattle.y4m_header.proofs.Definitions.{both, same_equal, above, Without, none, more, append_without, digits_without, before_end, before_without, before_split, joined, Word, AllWords, no_word, word, words-joined, joined_without, parted}

-- THEOREM. No two outcomes meet the contract.
pub one_header : (file : List ℕ) {r r' : HeaderAnswer} → r ≡ header_of file → r' ≡ header_of file → r ≡ r'
one_header file a b = a ∙ sym b

-- ---- a header is a line of parameters
abbrev pub line_of : List (List ℕ) → List ℕ
line_of ps = mark ++ joined ps

mark_without : (b : ℕ) → b < 48 → Without b mark
mark_without b h =
    more (above 89 b (omega arith)) (more (above 85 b (omega arith)) (more (above 86 b (omega arith)) (more (above 52 b (omega arith))
    (more (above 77 b (omega arith)) (more (above 80 b (omega arith)) (more (above 69 b (omega arith)) (more (above 71 b (omega arith))
    (more (above 50 b (omega arith)) none))))))))

-- a line that ends within the first 256 bytes, whatever follows it
line_read : (l rest : List ℕ) → Without 10 l → length l ≤ 255 → header_of (l ++ 10 ∷ rest) ≡ heading (told (words l)) (length l + 1)
unfolding header_of
line_read l rest free h =
    let k = 255 - length l in
    let n : 256 ≡ length l + suc k = omega arith in
    let cut : take 256 (l ++ 10 ∷ rest) ≡ l ++ 10 ∷ take k rest = ap (λ (m : ℕ). take m (l ++ 10 ∷ rest)) n ∙ take-append-add l (10 ∷ rest) (suc k) in
    let is-line : line (l ++ 10 ∷ rest) ≡ l = ap (before 10) cut ∙ before_end 10 l (take k rest) free in
    let over : length (line (l ++ 10 ∷ rest)) < length (take 256 (l ++ 10 ∷ rest)) =
    omega (arith, ap length is-line, ap length cut, length-append l (10 ∷ take k rest)) in
    ap (λ (t : Bool). cond t (heading (told (words (line (l ++ 10 ∷ rest)))) (length (line (l ++ 10 ∷ rest)) + 1)) refused)
    (lt-ltb (length (line (l ++ 10 ∷ rest))) (length (take 256 (l ++ 10 ∷ rest))) over)
    ∙ ap (λ (m : List ℕ). heading (told (words m)) (length m + 1)) is-line

-- THEOREM. A header of any parameters means what they tell one after the other, whatever follows it.
pub header_means : (ps : List (List ℕ)) (rest : List ℕ) → AllWords ps → length (line_of ps) ≤ 255
    → header_of (line_of ps ++ 10 ∷ rest) ≡ heading (tell_all nothing ps) (length (line_of ps) + 1)
unfolding told same
header_means ps rest all h =
    line_read (line_of ps) rest (append_without 10 mark (joined ps) (mark_without 10 (omega arith)) (joined_without ps all)) h
    ∙ ap (λ (ws : List (List ℕ)). heading (told ws) (length (line_of ps) + 1)) (words-joined mark ps (mark_without 32 (omega arith)) all)

-- THEOREM. A line parts into parameters in one way.
pub one_parting : (ps qs : List (List ℕ)) → AllWords ps → AllWords qs → line_of ps ≡ line_of qs → ps ≡ qs
one_parting ps qs a b e =
    let free = mark_without 32 (omega arith) in
    ap parameters (sym (words-joined mark ps free a) ∙ ap words e ∙ words-joined mark qs free b)
  where
    parameters : List (List ℕ) → List (List ℕ)
    parameters [] = []
    parameters (w ∷ ws) = ws

-- ---- and nothing else is one
pub record Parts (file : List ℕ) : Type 0 where
  pub parameters : List (List ℕ)
  pub rest : List ℕ
  pub words_are : AllWords parameters
  pub fits : length (line_of parameters) ≤ 255
  pub is : file ≡ line_of parameters ++ 10 ∷ rest

has_newline : (file : List ℕ) → (header_of file).number ≡ 0 → ended file ≡ true
unfolding header_of
has_newline file e = go (ended file) refl e
  where
    go : (t : Bool) → ended file ≡ t → (cond t (heading (told (words (line file))) (length (line file) + 1)) refused).number ≡ 0 → ended file ≡ true
    go true p e = p
    go false p e = absurd (omega arith)

ended_read : (file : List ℕ) → ended file ≡ true → header_of file ≡ heading (told (words (line file))) (length (line file) + 1)
unfolding header_of
ended_read file e = ap (λ (t : Bool). cond t (heading (told (words (line file))) (length (line file) + 1)) refused) e

has-mark : (w : List ℕ) (ps : List (List ℕ)) (n : ℕ) → (heading (told (w ∷ ps)) n).number ≡ 0 → w ≡ mark
unfolding told heading
has-mark w ps n e = go (same w mark) refl e
  where
    go : (t : Bool) → same w mark ≡ t → (heading (cond t (tell_all nothing ps) broken) n).number ≡ 0 → w ≡ mark
    go true p e = same_equal w mark p
    go false p e = absurd (omega arith)

-- THEOREM. A header that is read is the mark, parameters and a newline, in at most 256 bytes.
pub header_parts : (file : List ℕ) → (header_of file).number ≡ 0 → Parts file
header_parts file e =
    let l = line file in
    let front = take 256 file in
    let end = has_newline file e in
    let h : length l < length front = ltb-true (length l) (length front) end in
    let p = parted l (before_without 10 front) in
    let heard : (heading (told (p.first ∷ p.others)) (length l + 1)).number ≡ 0 =
    ap (λ (ws : List (List ℕ)). (heading (told ws) (length l + 1)).number) (sym p.words_are) ∙ ap (λ (x : HeaderAnswer). x.number) (sym (ended_read file end)) ∙ e in
    let is : l ≡ line_of p.others = p.is ∙ ap (λ (w : List ℕ). w ++ joined p.others) (has-mark p.first p.others (length l + 1) heard) in
    let after = drop (suc (length l)) front in
    let whole : file ≡ (l ++ 10 ∷ after) ++ drop 256 file = sym (take-append-drop 256 file) ∙ ap (λ (m : List ℕ). m ++ drop 256 file) (before_split 10 front h) in
    record {
      parameters = p.others;
      rest = after ++ drop 256 file;
      words_are = p.others_are;
      fits = omega (arith, ap length is, length-take 256 file);
      is = whole ∙ append_assoc l (10 ∷ after) (drop 256 file) ∙ ap (λ (m : List ℕ). m ++ 10 ∷ (after ++ drop 256 file)) is;
    }

taken-all : (t : Told) (n : ℕ) → (heading t n).number ≡ 0 → (heading t n).taken ≡ n
unfolding heading
taken-all t n e = go (t.good && (not (eqb t.width 0) && not (eqb t.height 0))) e
  where
    go : (b : Bool) → (cond b (record { number = 0; width = t.width; height = t.height; taken = n }) refused).number ≡ 0
        → (cond b (record { number = 0; width = t.width; height = t.height; taken = n }) refused).taken ≡ n
    go true e = refl
    go false e = absurd (omega arith)

-- THEOREM. The bytes that are taken are the header, newline included, and it means the same whatever follows it.
pub header_alone : (file rest : List ℕ) → (header_of file).number ≡ 0 → header_of (take (header_of file).taken file ++ rest) ≡ header_of file
header_alone file rest e =
    let p = header_parts file e in
    let l = line_of p.parameters in
    let m = heading (tell_all nothing p.parameters) (length l + 1) in
    let means : header_of file ≡ m = ap header_of p.is ∙ header_means p.parameters p.rest p.words_are p.fits in
    let n : (header_of file).taken ≡ length (l ++ 10 ∷ []) =
    ap (λ (x : HeaderAnswer). x.taken) means
    ∙ taken-all (tell_all nothing p.parameters) (length l + 1) (sym (ap (λ (x : HeaderAnswer). x.number) means) ∙ e)
    ∙ sym (length-append l (10 ∷ [])) in
    let split : file ≡ (l ++ 10 ∷ []) ++ p.rest = p.is ∙ sym (append_assoc l (10 ∷ []) p.rest) in
    let cut : take (header_of file).taken file ≡ l ++ 10 ∷ [] =
    ap₂ (λ (k : ℕ) (x : List ℕ). take k x) n split ∙ take_at (l ++ 10 ∷ []) p.rest (length (l ++ 10 ∷ [])) refl in
    ap (λ (x : List ℕ). header_of (x ++ rest)) cut
    ∙ ap header_of (append_assoc l (10 ∷ []) rest)
    ∙ header_means p.parameters rest p.words_are p.fits
    ∙ sym means

-- ---- what is reported
-- THEOREM. A refused header reports 12 and three zeros.
pub header_refused : (file : List ℕ) → ((header_of file).number ≡ 0 → ⊥) → header_of file ≡ refused
unfolding header_of heading
header_refused file e = go (ended file) (complete (told (words (line file)))) e
  where
    t : Told
    t = told (words (line file))

    outcome : Bool → Bool → HeaderAnswer
    outcome a b = cond a (cond b (record { number = 0; width = t.width; height = t.height; taken = length (line file) + 1 }) refused) refused

    go : (a b : Bool) → ((outcome a b).number ≡ 0 → ⊥) → outcome a b ≡ refused
    go false b e = refl
    go true false e = refl
    go true true e = absurd (e refl)

above_zero : (n : ℕ) → (n ≡ 0 → ⊥) → 1 ≤ n
above_zero zero h = absurd (h refl)
above_zero (suc n) h = omega arith

size-most : (l : List ℕ) → size l ≤ 16384
unfolding size
size-most l = go (leb (length l) 5) (digits l) (leb (worth 0 l) 16384) refl
  where
    go : (a b c : Bool) → leb (worth 0 l) 16384 ≡ c → cond (a && (b && c)) (worth 0 l) 0 ≤ 16384
    go false b c e = omega arith
    go true false c e = omega arith
    go true true false e = omega arith
    go true true true e = leb-true (worth 0 l) 16384 e

record Small (t : Told) : Type 0 where
  pub width : t.width ≤ 16384
  pub height : t.height ≤ 16384

broken_small : Small broken
broken_small = record { width = omega arith; height = omega arith }

width_small : (n : ℕ) (t : Told) → n ≤ 16384 → Small t → Small (tell_width n t)
unfolding tell_width
width_small n t h s = go (eqb t.width 0 && not (eqb n 0))
  where
    go : (b : Bool) → Small (cond b (record { good = t.good; width = n; height = t.height; colour = t.colour }) broken)
    go true = record { width = h; height = s.height }
    go false = broken_small

height_small : (n : ℕ) (t : Told) → n ≤ 16384 → Small t → Small (tell_height n t)
unfolding tell_height
height_small n t h s = go (eqb t.height 0 && not (eqb n 0))
  where
    go : (b : Bool) → Small (cond b (record { good = t.good; width = t.width; height = n; colour = t.colour }) broken)
    go true = record { width = s.width; height = h }
    go false = broken_small

colour_small : (known : Bool) (t : Told) → Small t → Small (tell_colour known t)
unfolding tell_colour
colour_small known t s = go (not t.colour && known)
  where
    go : (b : Bool) → Small (cond b (record { good = t.good; width = t.width; height = t.height; colour = true }) broken)
    go true = record { width = s.width; height = s.height }
    go false = broken_small

tell_small : (t : Told) (w : List ℕ) → Small t → Small (tell t w)
unfolding tell
tell_small t [] s = broken_small
tell_small t (name ∷ l) s = go (eqb name 87) (eqb name 72) (eqb name 67)
  where
    go : (a b c : Bool) → Small (cond a (tell_width (size l) t) (cond b (tell_height (size l) t) (cond c (tell_colour (same l jpeg420) t) t)))
    go true b c = width_small (size l) t (size-most l) s
    go false true c = height_small (size l) t (size-most l) s
    go false false true = colour_small (same l jpeg420) t s
    go false false false = s

tell_all_small : (t : Told) (ws : List (List ℕ)) → Small t → Small (tell_all t ws)
unfolding tell_all
tell_all_small t [] s = s
tell_all_small t (w ∷ ws) s = tell_all_small (tell t w) ws (tell_small t w s)

told_small : (ws : List (List ℕ)) → Small (told ws)
unfolding told
told_small [] = broken_small
told_small (first ∷ ps) = go (same first mark)
  where
    go : (b : Bool) → Small (cond b (tell_all nothing ps) broken)
    go true = tell_all_small nothing ps (record { width = omega arith; height = omega arith })
    go false = broken_small

-- a size that the calls on frames take
pub record InRange (n : ℕ) : Type 0 where
  pub least : 1 ≤ n
  pub most : n ≤ 16384

heading_sizes : (t : Told) (n : ℕ) → Small t → (heading t n).number ≡ 0 → InRange (heading t n).width × InRange (heading t n).height
unfolding heading
heading_sizes t n s e = go t.good (eqb t.width 0) refl (eqb t.height 0) refl e
  where
    outcome : Bool → Bool → Bool → HeaderAnswer
    outcome a b c = cond (a && (not b && not c)) (record { number = 0; width = t.width; height = t.height; taken = n }) refused

    go : (a b : Bool) → eqb t.width 0 ≡ b → (c : Bool) → eqb t.height 0 ≡ c → (outcome a b c).number ≡ 0 → InRange (outcome a b c).width × InRange (outcome a b c).height
    go true false p false q e = (record { least = above_zero t.width (eqb-false t.width 0 p); most = s.width }, record { least = above_zero t.height (eqb-false t.height 0 q); most = s.height })
    go true false p true q e = absurd (omega arith)
    go true true p c q e = absurd (omega arith)
    go false b p c q e = absurd (omega arith)

-- THEOREM. The sizes of a header that is read are in 1 .. 16384.
pub header_sizes : (file : List ℕ) → (header_of file).number ≡ 0 → InRange (header_of file).width × InRange (header_of file).height
header_sizes file e =
    let t = told (words (line file)) in
    let is = ended_read file (has_newline file e) in
    subst (λ (x : HeaderAnswer). InRange x.width × InRange x.height) (sym is)
    (heading_sizes t (length (line file) + 1) (told_small (words (line file))) (sym (ap (λ (x : HeaderAnswer). x.number) is) ∙ e))

-- ---- headers of two sizes
-- digits that are a size
pub record IsSize (l : List ℕ) : Type 0 where
  pub few : length l ≤ 5
  pub all : digits l ≡ true
  pub least : 1 ≤ worth 0 l
  pub most : worth 0 l ≤ 16384

pub size_is : (l : List ℕ) → IsSize l → size l ≡ worth 0 l
unfolding size
size_is l p = simp (le-leb (length l) 5 p.few, p.all, le-leb (worth 0 l) 16384 p.most)

-- W and digits, H and digits
abbrev pub two_sizes : List ℕ → List ℕ → List (List ℕ)
two_sizes a b = (87 ∷ a) ∷ (72 ∷ b) ∷ []

sizes-told : (a b : List ℕ) → IsSize a → IsSize b → tell_all nothing (two_sizes a b) ≡ record { good = true; width = worth 0 a; height = worth 0 b; colour = false }
unfolding tell_all tell tell_width tell_height
sizes-told a b p q =
    let least = p.least in
    let least' = q.least in
    ap₂ (λ (m n : ℕ). tell_height n (tell_width m nothing)) (size_is a p) (size_is b q)
    ∙ simp (ne_eqb (worth 0 a) 0 (λ z. omega arith), ne_eqb (worth 0 b) 0 (λ z. omega arith))

pub size_word : (name : ℕ) (l : List ℕ) → 32 < name → IsSize l → Word (name ∷ l)
size_word name l h p =
    record {
      no_space = more (above name 32 h) (digits_without 32 l (omega arith) p.all);
      no_newline = more (above name 10 (omega arith)) (digits_without 10 l (omega arith) p.all);
    }

length_sizes : (a b : List ℕ) → length (line_of (two_sizes a b)) ≡ 13 + (length a + length b)
unfolding joined
length_sizes a b = length-append mark (32 ∷ ((87 ∷ a) ++ 32 ∷ ((72 ∷ b) ++ []))) ∙ omega (arith, length-append (87 ∷ a) (32 ∷ ((72 ∷ b) ++ [])), length-append (72 ∷ b) [])

-- THEOREM. A header of any two sizes, in any digits, is read back to them, whatever follows it.
pub header_back : (a b rest : List ℕ) → IsSize a → IsSize b
    → header_of (line_of (two_sizes a b) ++ 10 ∷ rest) ≡ record { number = 0; width = worth 0 a; height = worth 0 b; taken = 14 + (length a + length b) }
unfolding heading
header_back a b rest p q =
    let long = length_sizes a b in
    let few = p.few in
    let few' = q.few in
    let least = p.least in
    let least' = q.least in
    let n : length (line_of (two_sizes a b)) + 1 ≡ 14 + (length a + length b) = omega arith in
    header_means (two_sizes a b) rest (word (size_word 87 a (omega arith) p) (word (size_word 72 b (omega arith) q) no_word)) (omega arith)
    ∙ ap₂ heading (sizes-told a b p q) n
    ∙ simp (ne_eqb (worth 0 a) 0 (λ z. omega arith), ne_eqb (worth 0 b) 0 (λ z. omega arith))

-- ---- sizes in decimal digits
unfoldable pub power : ℕ → ℕ
power zero = 1
power (suc k) = 10 * power k

-- the last k digits of n
unfoldable pub digits_of : ℕ → ℕ → List ℕ
digits_of zero n = []
digits_of (suc k) n = digits_of k (n / 10) ++ (48 + n % 10) ∷ []

-- a size in as few digits as it has
abbrev pub places : ℕ → ℕ
places n = cond (ltb n 10) 1 (cond (ltb n 100) 2 (cond (ltb n 1000) 3 (cond (ltb n 10000) 4 5)))

abbrev pub decimal : ℕ → List ℕ
decimal n = digits_of (places n) n

length-digits_of : (k n : ℕ) → length (digits_of k n) ≡ k
unfolding digits_of
length-digits_of zero n = refl
length-digits_of (suc k) n = length-append (digits_of k (n / 10)) ((48 + n % 10) ∷ []) ∙ omega (arith, length-digits_of k (n / 10))

digits_next : (l : List ℕ) (b : ℕ) → digits l ≡ true → 48 ≤ b → b ≤ 57 → digits (l ++ b ∷ []) ≡ true
unfolding digits
digits_next [] b e h k = simp (le-leb 48 b h, le-leb b 57 k)
digits_next (x ∷ l) b e h k = let p = both (digit x) (digits l) e in simp (p.0, digits_next l b p.1 h k)

digits-digits_of : (k n : ℕ) → digits (digits_of k n) ≡ true
unfolding digits_of digits
digits-digits_of zero n = refl
digits-digits_of (suc k) n = digits_next (digits_of k (n / 10)) (48 + n % 10) (digits-digits_of k (n / 10)) (omega arith) (omega arith)

worth_next : (v : ℕ) (l : List ℕ) (b : ℕ) → worth v (l ++ b ∷ []) ≡ 10 * worth v l + (b - 48)
unfolding worth
worth_next v [] b = refl
worth_next v (x ∷ l) b = worth_next (10 * v + (x - 48)) l b

worth-digits_of : (k n : ℕ) → n < power k → worth 0 (digits_of k n) ≡ n
unfolding digits_of power worth
worth-digits_of zero n h = omega arith
worth-digits_of (suc k) n h =
    worth_next 0 (digits_of k (n / 10)) (48 + n % 10) ∙ omega (arith, worth-digits_of k (n / 10) (omega arith))

-- so many digits hold n
pub record Places (n k : ℕ) : Type 0 where
  pub few : k ≤ 5
  pub hold : n < power k

places-hold : (n : ℕ) → n ≤ 16384 → Places n (places n)
unfolding power
places-hold n h = go (ltb n 10) refl (ltb n 100) refl (ltb n 1000) refl (ltb n 10000) refl
  where
    go : (a : Bool) → ltb n 10 ≡ a → (b : Bool) → ltb n 100 ≡ b → (c : Bool) → ltb n 1000 ≡ c → (d : Bool) → ltb n 10000 ≡ d
        → Places n (cond a 1 (cond b 2 (cond c 3 (cond d 4 5))))
    go true p b q c r d s = record { few = omega arith; hold = ltb-true n 10 p }
    go false p true q c r d s = record { few = omega arith; hold = ltb-true n 100 q }
    go false p false q true r d s = record { few = omega arith; hold = ltb-true n 1000 r }
    go false p false q false r true s = record { few = omega arith; hold = ltb-true n 10000 s }
    go false p false q false r false s = record { few = omega arith; hold = omega arith }

pub digits-size : (n k : ℕ) → 1 ≤ n → n ≤ 16384 → Places n k → IsSize (digits_of k n)
digits-size n k h m p =
    let few = p.few in
    let is = worth-digits_of k n p.hold in
    record { few = omega (arith, length-digits_of k n); all = digits-digits_of k n; least = omega arith; most = omega arith }

-- THEOREM. The header that we would write for a width and height is read back to them.
pub own_header_back : (w h : ℕ) (rest : List ℕ) → 1 ≤ w → w ≤ 16384 → 1 ≤ h → h ≤ 16384
    → header_of (line_of (two_sizes (decimal w) (decimal h)) ++ 10 ∷ rest) ≡ record { number = 0; width = w; height = h; taken = 14 + (places w + places h) }
own_header_back w h rest a b c d =
    let p = places-hold w b in
    let q = places-hold h d in
    let n : 14 + (length (decimal w) + length (decimal h)) ≡ 14 + (places w + places h) = ap₂ (λ (i j : ℕ). 14 + (i + j)) (length-digits_of (places w) w) (length-digits_of (places h) h) in
    header_back (decimal w) (decimal h) rest (digits-size w (places w) a b p) (digits-size h (places h) c d q)
    ∙ ap₂ (λ (i j : ℕ). record { number = 0; width = i; height = j; taken = 14 + (length (decimal w) + length (decimal h)) }) (worth-digits_of (places w) w p.hold) (worth-digits_of (places h) h q.hold)
    ∙ ap (λ (k : ℕ). record { number = 0; width = w; height = h; taken = k }) n
