-- Laws of lists laid over others, and of lists by their elements. Assumes nothing.
use Rattle.std.specs.Prelude.{◌≡◌, refl, Bool, true, false, List, [], ◌∷◌, ◌++◌, ℕ, min, ◌+◌, ◌-◌, ◌*◌, ◌/◌, ◌%◌, ◌<◌, ◌≤◌, pos, ltb, length, get_or, take, drop, set, replicate}
use Rattle.std.proofs.Common.{sym, ap, ◌∙◌, append_assoc, arith, add-one, length-append, length-drop, take-append-drop, length-take-le, take_at, drop-drop, get_or-append-add, ltb-true, ltb-false}
use Rattle.std.proofs.Math.Arith.{digits_div, digits_mod}
use Rattle.std.proofs.Math.ListN.{get_or-append, length-take}
use Rattle.std.proofs.Math.Seq.{drop-append-add, paste, take_all, get_or-take, get_or-drop}
use Rattle.std.proofs.lemmas.List.{length-replicate, get_or-replicate, set_split}
use Rattle.rfc6386.specs.Number.{clamped}
use Rattle.rfc6386.specs.Raster.{tab, raster}
use Rattle.rfc6386.proofs.Laws.Raster.{length-tab, get_or-tab, is-tab, tab_ext, length-raster, next_row, row_fits}
use Rattle.y4m_frames.specs.Inner.{put}

-- ---- a list laid over another
pub put_none : (d : List ℕ) (at : ℕ) → put d at [] ≡ d
unfolding put
put_none d at = let e : at + 0 ≡ at = omega arith in ap (λ (k : ℕ). take at d ++ drop k d) e ∙ take-append-drop at d

-- with k for where l ends
put_is : (d : List ℕ) (at : ℕ) (l : List ℕ) (k : ℕ) → at + length l ≡ k → put d at l ≡ (take at d ++ l) ++ drop k d
unfolding put
put_is d at l k e = ap (λ (n : ℕ). take at d ++ (l ++ drop n d)) e ∙ sym (append_assoc (take at d) l (drop k d))

head-long : (d : List ℕ) (at : ℕ) (l : List ℕ) → at ≤ length d → length (take at d ++ l) ≡ at + length l
head-long d at l h = length-append (take at d) l ∙ ap (λ (n : ℕ). n + length l) (length-take-le at d h)

pub length-put : (d : List ℕ) (at : ℕ) (l : List ℕ) → at + length l ≤ length d → length (put d at l) ≡ length d
length-put d at l h =
    ap length (put_is d at l (at + length l) refl)
    ∙ length-append (take at d ++ l) (drop (at + length l) d)
    ∙ omega (arith, head-long d at l (omega arith), length-drop (at + length l) d)

pub put-put : (d : List ℕ) (at : ℕ) (a b : List ℕ) → at + length a + length b ≤ length d → put (put d at a) (at + length a) b ≡ put d at (a ++ b)
unfolding put
put-put d at a b h =
    let k = at + length a in
    let p = take at d ++ a in
    let e = put_is d at a k refl in
    let long : length p ≡ k = head-long d at a (omega arith) in
    let whole : at + length (a ++ b) ≡ k + length b = omega (arith, length-append a b) in
    ap (λ (x : List ℕ). take k x ++ (b ++ drop (k + length b) x)) e
    ∙ ap (λ (x : List ℕ). x ++ (b ++ drop (k + length b) (p ++ drop k d))) (take_at p (drop k d) k long)
    ∙ ap (λ (n : ℕ). p ++ (b ++ drop (n + length b) (p ++ drop k d))) (sym long)
    ∙ ap (λ (x : List ℕ). p ++ (b ++ x)) (drop-append-add p (drop k d) (length b) ∙ drop-drop (length b) k d)
    ∙ sym (append_assoc p b (drop (k + length b) d))
    ∙ ap (λ (x : List ℕ). x ++ drop (k + length b) d) (append_assoc (take at d) a b)
    ∙ sym (put_is d at (a ++ b) (k + length b) whole)

pub set-put : (d : List ℕ) (i x : ℕ) → i < length d → set d i x ≡ put d i (x ∷ [])
unfolding put
set-put d i x h = set_split d i x h ∙ ap (λ (n : ℕ). take i d ++ x ∷ drop n d) (sym (add-one i))

pub paste-put : (d : List ℕ) (at : ℕ) (l : List ℕ) (n : ℕ) → n ≡ length l → paste d at l n ≡ put d at l
paste-put d at l n e =
    ap (λ (x : List ℕ). take at d ++ x ++ drop (at + n) d) (take_all n l (omega arith)) ∙ sym (put_is d at l (at + n) (omega arith))

-- ---- lists by their elements
pub tab_append : (n m : ℕ) (f : ℕ → ℕ) → tab (n + m) f ≡ tab n f ++ tab m (λ i. f (n + i))
tab_append n m f = sym (is-tab 0 (n + m) f both (length-append (tab n f) rest ∙ omega (arith, length-tab n f, length-tab m g)) (λ i h. at i h (ltb i n) refl))
  where
    g : ℕ → ℕ
    g i = f (n + i)

    rest : List ℕ
    rest = tab m g

    both : List ℕ
    both = tab n f ++ rest

    at : (i : ℕ) → i < n + m → (t : Bool) → ltb i n ≡ t → get_or both i 0 ≡ f i
    at i h true e = let k = ltb-true i n e in get_or-append (tab n f) rest 0 i (omega (arith, length-tab n f)) ∙ get_or-tab n f i 0 k
    at i h false e =
        let k = ltb-false i n e in
        let p : i ≡ length (tab n f) + (i - n) = omega (arith, length-tab n f) in
        let q : n + (i - n) ≡ i = omega arith in
        ap (λ (j : ℕ). get_or both j 0) p ∙ get_or-append-add (tab n f) rest (i - n) 0 ∙ get_or-tab m g (i - n) 0 (omega arith) ∙ ap f q

pub tab_next : (n : ℕ) (f : ℕ → ℕ) → tab (n + 1) f ≡ tab n f ++ f n ∷ []
unfolding tab
tab_next n f = let e : n + 0 ≡ n = omega arith in tab_append n 1 f ∙ ap (λ (k : ℕ). tab n f ++ f k ∷ []) e

-- a part of a list, and an element repeated
pub tab-part : (s : List ℕ) (from n : ℕ) → from + n ≤ length s → take n (drop from s) ≡ tab n (λ i. get_or s (from + i) 0)
tab-part s from n h =
    is-tab 0 n (λ i. get_or s (from + i) 0) (take n (drop from s)) (omega (arith, length-take n (drop from s), length-drop from s))
    (λ i k. get_or-take n (drop from s) i 0 k ∙ get_or-drop from s i 0)

pub tab-same : (n b : ℕ) → replicate n b ≡ tab n (λ i. b)
tab-same n b = is-tab 0 n (λ i. b) (replicate n b) (length-replicate n b) (λ i k. get_or-replicate n i b 0 k)

pub raster_next : (r w : ℕ) (f : ℕ → ℕ → ℕ) → raster (r + 1) w f ≡ raster r w f ++ tab w (f r)
unfolding raster
raster_next r w f =
    ap (λ (n : ℕ). tab n (λ i. f (i / w) (i % w))) (next_row r w)
    ∙ tab_append (r * w) w (λ i. f (i / w) (i % w))
    ∙ ap (λ (l : List ℕ). tab (r * w) (λ i. f (i / w) (i % w)) ++ l) (tab_ext w (λ i. f ((r * w + i) / w) ((r * w + i) % w)) (f r) (λ i h. rw (digits_div r h, digits_mod r h)))

-- ---- a loop over rows: the first r are laid
pub record Stacked (d out : List ℕ) (at w r : ℕ) (f : ℕ → ℕ → ℕ) : Type 0 where
  pub long : length out ≡ length d
  pub is : out ≡ put d at (raster r w f)

pub stacked_none : (d : List ℕ) (at w : ℕ) (f : ℕ → ℕ → ℕ) → Stacked d d at w 0 f
unfolding raster tab
stacked_none d at w f =
    let e : 0 * w ≡ 0 = omega arith in
    record { long = refl; is = sym (ap (λ (n : ℕ). put d at (tab n (λ i. f (i / w) (i % w)))) e ∙ put_none d at) }

pub stacked_more : (d out out' : List ℕ) (at w r rows : ℕ) (f : ℕ → ℕ → ℕ) → at + rows * w ≤ length d → r < rows → out' ≡ put out (at + r * w) (tab w (f r))
    → Stacked d out at w r f → Stacked d out' at w (r + 1) f
stacked_more d out out' at w r rows f h k e p =
    let n = length-raster r w f in
    let m = length-tab w (f r) in
    let fits = row_fits r rows w k in
    let j : at + r * w ≡ at + length (raster r w f) = omega arith in
    let new : out' ≡ put d at (raster (r + 1) w f) =
    e
    ∙ ap (λ (l : List ℕ). put l (at + r * w) (tab w (f r))) p.is
    ∙ ap (λ (i : ℕ). put (put d at (raster r w f)) i (tab w (f r))) j
    ∙ put-put d at (raster r w f) (tab w (f r)) (omega arith)
    ∙ ap (put d at) (sym (raster_next r w f)) in
    record {
      long = ap length new ∙ length-put d at (raster (r + 1) w f) (omega (arith, length-raster (r + 1) w f, next_row r w));
      is = new;
    }

pub stacked_all : (d out : List ℕ) (at w r rows : ℕ) (f : ℕ → ℕ → ℕ) → r ≡ rows → Stacked d out at w r f → out ≡ put d at (raster rows w f)
stacked_all d out at w r rows f e p = p.is ∙ ap (λ (k : ℕ). put d at (raster k w f)) e

-- ---- a row and its last sample repeated
pub row_padded : (s : List ℕ) (from w pw : ℕ) → 1 ≤ w → w ≤ pw
    → tab w (λ c. get_or s (from + c) 0) ++ tab (pw - w) (λ i. get_or s (from + (w - 1)) 0) ≡ tab pw (λ c. get_or s (from + clamped (pos c) w) 0)
row_padded s from w pw h k =
    let e : w + (pw - w) ≡ pw = omega arith in
    sym
    (ap (λ (n : ℕ). tab n f) (sym e)
    ∙ tab_append w (pw - w) f
    ∙ ap (λ (l : List ℕ). l ++ tab (pw - w) (λ i. f (w + i))) (tab_ext w f (λ c. get_or s (from + c) 0) (λ i m. let q : min i (w - 1) ≡ i = omega arith in ap (λ (j : ℕ). get_or s (from + j) 0) q))
    ∙ ap (λ (l : List ℕ). tab w (λ c. get_or s (from + c) 0) ++ l)
    (tab_ext (pw - w) (λ i. f (w + i)) (λ i. get_or s (from + (w - 1)) 0) (λ i m. let q : min (w + i) (w - 1) ≡ w - 1 = omega arith in ap (λ (j : ℕ). get_or s (from + j) 0) q)))
  where
    f : ℕ → ℕ
    f c = get_or s (from + clamped (pos c) w) 0

-- ---- a loop over elements: the first i are laid
pub record Laid (d out : List ℕ) (at i : ℕ) (f : ℕ → ℕ) : Type 0 where
  pub long : length out ≡ length d
  pub is : out ≡ put d at (tab i f)

pub laid_none : (d : List ℕ) (at : ℕ) (f : ℕ → ℕ) → Laid d d at 0 f
unfolding tab
laid_none d at f = record { long = refl; is = sym (put_none d at) }

pub laid_more : (d out : List ℕ) (at i : ℕ) (f : ℕ → ℕ) (x : ℕ) → at + i < length d → x ≡ f i → Laid d out at i f → Laid d (set out (at + i) x) at (i + 1) f
laid_more d out at i f x h e p =
    let long = p.long in
    let n = length-tab i f in
    let k : at + i ≡ at + length (tab i f) = omega arith in
    let new : set out (at + i) x ≡ put d at (tab (i + 1) f) =
    set-put out (at + i) x (omega arith)
    ∙ ap (λ (y : ℕ). put out (at + i) (y ∷ [])) e
    ∙ ap (λ (l : List ℕ). put l (at + i) (f i ∷ [])) p.is
    ∙ ap (λ (j : ℕ). put (put d at (tab i f)) j (f i ∷ [])) k
    ∙ put-put d at (tab i f) (f i ∷ []) (omega arith)
    ∙ ap (put d at) (sym (tab_next i f)) in
    record {
      long = ap length new ∙ length-put d at (tab (i + 1) f) (omega (arith, length-tab (i + 1) f));
      is = new;
    }

pub laid_all : (d out : List ℕ) (at i n : ℕ) (f : ℕ → ℕ) → i ≡ n → Laid d out at i f → out ≡ put d at (tab n f)
laid_all d out at i n f e p = p.is ∙ ap (λ (k : ℕ). put d at (tab k f)) e
