-- Laws of the definition: of orders, of numbers, of samples one after the other and in their places. Assumes nothing.
use Rattle.std.proofs.Math.Path.{◌≡◌, refl, sym, ap}
use Rattle.std.proofs.Common.{ap₂, ◌∙◌, subst, add-one, arith, length-drop, length-append, get_or-append-add, length-take-le, get_or-take, get_or-drop}
use Rattle.std.specs.Prelude.{Bool, not, ◌||◌, ℕ, zero, suc, ◌+◌, ◌-◌, ◌*◌, ◌<◌, ◌≤◌, ltb, eqb, length, get_or, take, drop}
use Rattle.std.proofs.Math.Bool.{true, false, cond}
use mathlib.Core.List.{List, ◌++◌}
use Rattle.std.proofs.Math.Arith.{digits_div, digits_mod}
use Rattle.std.proofs.Math.ListN.{get_or-append}
use borrow.Author.Tests.{eqb-true, eqb-false, eq-eqb, ne_eqb, lt-leb, le-ltb, ltb-false}
use Rattle.rfc6386.specs.Picture.{Plane}
use Rattle.rfc6386.specs.Refusal.{or_else, room_refusal, stride_fault, length_fault}
use Rattle.rfc6386.specs.Vector.{zero_vector, sent}
use Rattle.rfc6386.specs.declared.Lowering.{Lowering}
use Rattle.rfc6386.specs.Macroblock.{Reference, plane_y, plane_u, plane_v, size_test, stride_test, length_test, place_test, refusal, answered, whole, split}
use Rattle.rfc6386.specs.Channel.{Channel, side, samples_in}
use Rattle.rfc6386.proofs.Laws.Tests.{or-false}
use Rattle.rfc6386.specs.Refusal.{Sized}
use Rattle.rfc6386.proofs.Laws.Refusals.{done, or_else_next, or_else-zero, sized}
use Rattle.rfc6386.proofs.Laws.Raster.{get_or-tab, row_fits}
use Rattle.vector_bytes.specs.Bytes.{int16, vector_at}
use Rattle.vector_bytes.specs.Laws.{vectors_read}
use Rattle.outputs.specs.Output.{flat, Left}
use Rattle.outputs.specs.Laws.{Counted, whole_counted, split_counted}
use Rattle.frame.specs.Frame.{Planes, References, named, reference, reference_code, kind_code, vectors_at, bad_order, any_bad, Asked, cols, rows, single, ordered, prediction_at, frame_sample, references_refusal, picture_of, output_refusal, orders_refusal, Fills}
use Rattle.frame.specs.Inner.{Holds}
use Rattle.rfc6386.specs.declared.Mv.{Mv}
use Rattle.rfc6386.specs.declared.FilterSet.{FilterSet}
use Rattle.rfc6386.specs.declared.Sizes.{Sizes}
use Rattle.rfc6386.specs.declared.ReconstructedMb.{ReconstructedMb}
use Rattle.rfc6386.specs.Answer.{Prediction}
use Rattle.frame.specs.declared.Strides.{Strides}

-- ---- orders
or-true : (a : Bool) → a || true ≡ true
or-true true = refl
or-true false = refl

-- one that is bad, among n
pub bad_found : (orders : List ℕ) (n k : ℕ) → k < n → bad_order orders k ≡ true → any_bad orders n ≡ true
unfolding any_bad
bad_found orders zero k h e = absurd (omega arith)
bad_found orders (suc n) k h e = at (eqb k n) refl (λ l. bad_found orders n k l e)
  where
    at : (b : Bool) → eqb k n ≡ b → (k < n → any_bad orders n ≡ true) → any_bad orders n || bad_order orders n ≡ true
    at true t found = ap (λ (j : ℕ). any_bad orders n || bad_order orders j) (sym (eqb-true k n t)) ∙ ap (λ (b : Bool). any_bad orders n || b) e ∙ or-true (any_bad orders n)
    at false t found = ap (λ (b : Bool). b || bad_order orders n) (found (omega (arith, eqb-false k n t)))

-- none among none, and one more that is good
pub good_none : (orders : List ℕ) → any_bad orders 0 ≡ false
unfolding any_bad
good_none orders = refl

pub good_more : (orders : List ℕ) (n : ℕ) → any_bad orders n ≡ false → bad_order orders n ≡ false → any_bad orders (n + 1) ≡ false
unfolding any_bad
good_more orders n e f = ap (any_bad orders) (add-one n) ∙ ap₂ ◌||◌ e f

-- where none is bad, each is good
pub good_at : (orders : List ℕ) (n k : ℕ) → any_bad orders n ≡ false → k < n → bad_order orders k ≡ false
good_at orders n k e h = at (bad_order orders k) refl
  where
    at : (b : Bool) → bad_order orders k ≡ b → b ≡ false
    at false f = refl
    at true f = sym (bad_found orders n k h f) ∙ e

-- number 9, by what was found
module _ (orders : List ℕ) (n : ℕ) where
  pub orders_other : (length orders ≡ 66 * n → ⊥) → 9 ≡ orders_refusal orders n
  unfolding orders_refusal
  orders_other h = sym (ap (λ (b : Bool). cond (not b || any_bad orders n) 9 0) (ne_eqb (length orders) (66 * n) h))

  pub orders_told : length orders ≡ 66 * n → (b : Bool) → b ≡ any_bad orders n → cond b 9 0 ≡ orders_refusal orders n
  unfolding orders_refusal
  orders_told h b e = ap (λ (b : Bool). cond b 9 0) e ∙ sym (ap (λ (b : Bool). cond (not b || any_bad orders n) 9 0) (eq-eqb (length orders) (66 * n) h))

module _ (orders : List ℕ) (n : ℕ) (e : orders_refusal orders n ≡ 0) where
  all_good : (a b : Bool) → ◌≡◌ {A = ℕ} (cond (not a || b) 9 0) 0 → (a ≡ true) × (b ≡ false)
  all_good true false h = (refl, refl)
  all_good true true h = absurd (omega arith)
  all_good false b h = absurd (omega arith)

  pub orders_count : length orders ≡ 66 * n
  unfolding orders_refusal
  orders_count = eqb-true (length orders) (66 * n) (all_good (eqb (length orders) (66 * n)) (any_bad orders n) e).0

  pub orders_good : any_bad orders n ≡ false
  unfolding orders_refusal
  orders_good = (all_good (eqb (length orders) (66 * n)) (any_bad orders n) e).1

-- the first vector stands in the four bytes after the codes
pub first-is : (orders : List ℕ) (k : ℕ) → 66 * k + 66 ≤ length orders
    → sent (vectors_at orders k) 0
    ≡ record { row = int16 (get_or orders (66 * k + 2) 0) (get_or orders (66 * k + 3) 0); col = int16 (get_or orders (66 * k + 4) 0) (get_or orders (66 * k + 5) 0) }
first-is orders k h =
    let b = take 64 (drop (66 * k + 2) orders) in
    let long : length b ≡ 64 = length-take-le 64 (drop (66 * k + 2) orders) (omega (arith, length-drop (66 * k + 2) orders)) in
    ap (λ (l : List Mv). get_or l 0 zero_vector) (vectors_read b long)
    ∙ get_or-tab 16 (vector_at b) 0 zero_vector (omega arith)
    ∙ (λ i. record { row = int16 (byte 0 (omega arith) i) (byte 1 (omega arith) i); col = int16 (byte 2 (omega arith) i) (byte 3 (omega arith) i) })
  where
    byte : (j : ℕ) → j < 64 → get_or (take 64 (drop (66 * k + 2) orders)) j 0 ≡ get_or orders (66 * k + (2 + j)) 0
    byte j l =
        let e : 66 * k + 2 + j ≡ 66 * k + (2 + j) = omega arith in
        get_or-take 64 (drop (66 * k + 2) orders) j 0 l ∙ get_or-drop (66 * k + 2) orders j 0 ∙ ap (λ (n : ℕ). get_or orders n 0) e

-- an order of the frame lies in the list
pub order_in : (cols rows col row : ℕ) → col < cols → row < rows → 66 * (row * cols + col) + 66 ≤ 66 * (rows * cols)
order_in cols rows col row hc hr = omega (arith, row_fits row rows cols hr)

-- ---- samples one after the other
module _ (s : ReconstructedMb) (n : Counted s) where
  pub flat_y : (i : ℕ) → i < 256 → get_or (flat s) i 0 ≡ get_or s.y i 0
  flat_y i h = get_or-append s.y (s.u ++ s.v) 0 i (omega (arith, n.y))

  pub flat_u : (i : ℕ) → i < 64 → get_or (flat s) (256 + i) 0 ≡ get_or s.u i 0
  flat_u i h =
      ap (λ (m : ℕ). get_or (flat s) (m + i) 0) (sym n.y) ∙ get_or-append-add s.y (s.u ++ s.v) i 0 ∙ get_or-append s.u s.v 0 i (omega (arith, n.u))

  pub flat_v : (i : ℕ) → get_or (flat s) (320 + i) 0 ≡ get_or s.v i 0
  flat_v i =
      let e : 320 + i ≡ length s.y + (length s.u + i) = omega (arith, n.y, n.u) in
      ap (λ (m : ℕ). get_or (flat s) m 0) e ∙ get_or-append-add s.y (s.u ++ s.v) (length s.u + i) 0 ∙ get_or-append-add s.u s.v i 0

  pub flat-length : length (flat s) ≡ 384
  flat-length = length-append s.y (s.u ++ s.v) ∙ omega (arith, n.y, n.u, n.v, length-append s.u s.v)

-- the samples of an accepted macroblock are as many as they should be
pub single_counted : (set : FilterSet) (low : Lowering) (ref : Reference) (kind col row : ℕ) (vs : List Mv) → refusal ref col row ≡ 0 → Counted (single set low ref kind col row vs).samples
unfolding single whole split answered
single_counted set low ref kind col row vs e = at (eqb kind 0)
  where
    at : (b : Bool) → Counted (cond b (whole set low ref col row (sent vs 0)) (split set low ref col row vs)).samples
    at true = whole_counted set low ref col row (sent vs 0) e
    at false = split_counted set low ref col row vs e

-- ---- one order
-- what is left of a lent output of 384 bytes, with no code, by an accepted prediction
pub left-flat : {p : Prediction} {out out' : List ℕ} {r : ℕ} → p.number ≡ 0 → length out ≡ 384 → Left p 0 out r out' → out' ≡ flat p.samples
left-flat {p} {out} z e L =
    let room : room_refusal (length out) ≡ 0 = ap room_refusal e in
    L.bytes_are ∙ done (flat p.samples) out (or_else_next p.number (room_refusal (length out)) z ∙ room)

module _ (set : FilterSet) (low : Lowering) (ref : Reference) (kind col row : ℕ) (vs : List Mv) (z : refusal ref col row ≡ 0) {out out' : List ℕ} {r : ℕ} (n : length out ≡ 384) where
  pub order-whole : {v : Mv} → kind ≡ 0 → v ≡ sent vs 0 → Left (whole set low ref col row v) 0 out r out' → out' ≡ flat (single set low ref kind col row vs).samples
  unfolding single whole answered
  order-whole {v} e f L =
      left-flat z n L
      ∙ ap (λ (m : Mv). flat (whole set low ref col row m).samples) f
      ∙ sym (ap (λ (b : Bool). flat (cond b (whole set low ref col row (sent vs 0)) (split set low ref col row vs)).samples) (eq-eqb kind 0 e))

  pub order-split : {mvs : List Mv} → (kind ≡ 0 → ⊥) → mvs ≡ vs → Left (split set low ref col row mvs) 0 out r out' → out' ≡ flat (single set low ref kind col row vs).samples
  unfolding single split answered
  order-split {mvs} e f L =
      left-flat z n L
      ∙ ap (λ (l : List Mv). flat (split set low ref col row l).samples) f
      ∙ sym (ap (λ (b : Bool). flat (cond b (whole set low ref col row (sent vs 0)) (split set low ref col row vs)).samples) (ne_eqb kind 0 e))

-- the plane that a code names
pub named_last : (code : ℕ) (l g a : List ℕ) → code ≡ 0 → l ≡ named code l g a
named_last zero l g a e = refl
named_last (suc n) l g a e = absurd (omega arith)

pub named_golden : (code : ℕ) (l g a : List ℕ) → code ≡ 1 → g ≡ named code l g a
named_golden zero l g a e = absurd (omega arith)
named_golden (suc zero) l g a e = refl
named_golden (suc (suc n)) l g a e = absurd (omega arith)

pub named_altref : (code : ℕ) (l g a : List ℕ) → (code ≡ 0 → ⊥) → (code ≡ 1 → ⊥) → a ≡ named code l g a
named_altref zero l g a e f = absurd (e refl)
named_altref (suc zero) l g a e f = absurd (f refl)
named_altref (suc (suc n)) l g a e f = refl

-- ---- the number
pub codes_first : (a b x : ℕ) {m n : ℕ} → m ≡ a → n ≡ or_else m b → (n ≡ 0 → ⊥) → n ≡ or_else a (or_else b x)
codes_first zero zero x e f h = absurd (h (f ∙ ap (λ (k : ℕ). or_else k 0) e))
codes_first zero (suc b) x e f h = f ∙ ap (λ (k : ℕ). or_else k (suc b)) e
codes_first (suc a) b x e f h = f ∙ ap (λ (k : ℕ). or_else k b) e

pub codes_none : (a b x : ℕ) {m n : ℕ} → m ≡ a → n ≡ or_else m b → n ≡ 0 → x ≡ or_else a (or_else b x)
codes_none zero zero x e f h = refl
codes_none zero (suc b) x e f h = absurd (omega (arith, sym h ∙ f ∙ ap (λ (k : ℕ). or_else k (suc b)) e))
codes_none (suc a) b x e f h = absurd (omega (arith, sym h ∙ f ∙ ap (λ (k : ℕ). or_else k b) e))

pub codes-passed : (a b : ℕ) {m n : ℕ} → m ≡ a → n ≡ or_else m b → n ≡ 0 → a ≡ 0
codes-passed a b e f h = or_else-zero a b (sym (ap (λ (k : ℕ). or_else k b) e) ∙ sym f ∙ h)

-- number 7, by the tests of a macroblock
module _ (out : Planes) (s : Strides) (sizes : Sizes) (S : Sized sizes.mb_cols sizes.mb_rows) where
  abbrev p : Reference
  p = picture_of out s sizes

  first_tests : refusal p 0 0 ≡ cond (stride_test p) 2 (cond (length_test p) 3 0)
  unfolding refusal
  first_tests =
      rw (ne_eqb sizes.mb_cols 0 (λ e. omega (arith, S.cols_least)), le-ltb 1024 sizes.mb_cols S.cols_most, ne_eqb sizes.mb_rows 0 (λ e. omega (arith, S.rows_least)), le-ltb 1024 sizes.mb_rows S.rows_most, lt-leb sizes.mb_cols 0 S.cols_least, lt-leb sizes.mb_rows 0 S.rows_least) refl

  pub output_told : (n : ℕ) → n ≡ refusal p 0 0 → cond (eqb n 0) 0 7 ≡ output_refusal out s sizes
  unfolding output_refusal
  output_told n e = ap (λ (k : ℕ). cond (eqb k 0) 0 7) (e ∙ first_tests) ∙ at (stride_test p) (length_test p)
    where
      at : (T L : Bool) → ◌≡◌ {A = ℕ} (cond (eqb (cond T 2 (cond L 3 0)) 0) 0 7) (cond (T || L) 7 0)
      at true L = refl
      at false true = refl
      at false false = refl

accepted : (ref : Reference) (col row : ℕ) → size_test ref ≡ false → stride_test ref ≡ false → length_test ref ≡ false → col < ref.cols → row < ref.rows → refusal ref col row ≡ 0
unfolding refusal
accepted ref col row s t l hc hr = rw (s, t, l, lt-leb ref.cols col hc, lt-leb ref.rows row hr) refl

-- planes that are not refused with 7 hold a picture
module _ (out : Planes) (s : Strides) (sizes : Sizes) (e : output_refusal out s sizes ≡ 0) where
  both : (T L : Bool) → ◌≡◌ {A = ℕ} (cond (T || L) 7 0) 0 → (T ≡ false) × (L ≡ false)
  both false false e = (refl, refl)
  both true L e = absurd (omega arith)
  both false true e = absurd (omega arith)

  three : (A B C : Bool) → A || (B || C) ≡ false → (A ≡ false) × (B ≡ false) × (C ≡ false)
  three A B C e = let x = or-false A (B || C) e in let y = or-false B C x.1 in (x.0, y.0, y.1)

  holds : (p : Plane) → stride_fault p ≡ false → length_fault p ≡ false → Holds (length p.bytes) p.stride p.width p.height
  holds p t l =
      record {
        across = ltb-false p.stride p.width (or-false (ltb p.stride p.width) (ltb 32768 p.stride) t).0;
        down = ltb-false (length p.bytes) ((p.height - 1) * p.stride + p.width) l;
      }

  abbrev q : Reference
  q = picture_of out s sizes

  pub output-holds :
      Holds (length out.y) s.y (sizes.mb_cols * 16) (sizes.mb_rows * 16)
      × Holds (length out.u) s.u (sizes.mb_cols * 8) (sizes.mb_rows * 8)
      × Holds (length out.v) s.v (sizes.mb_cols * 8) (sizes.mb_rows * 8)
  unfolding output_refusal
  output-holds =
      let b = both (stride_test q) (length_test q) e in
      let t = three (stride_fault (plane_y q)) (stride_fault (plane_u q)) (stride_fault (plane_v q)) b.0 in
      let l = three (length_fault (plane_y q)) (length_fault (plane_u q)) (length_fault (plane_v q)) b.1 in
      (holds (plane_y q) t.0 l.0, holds (plane_u q) t.1 l.1, holds (plane_v q) t.2 l.2)

module _ (refs : References) where
  place_first : size_test (reference refs 0) ≡ false → place_test (reference refs 0) 0 0 ≡ false
  place_first e =
      let S = sized refs.sizes.mb_cols refs.sizes.mb_rows e in
      ap₂ ◌||◌ (lt-leb refs.sizes.mb_cols 0 S.cols_least) (lt-leb refs.sizes.mb_rows 0 S.rows_least)

  abbrev tests : Bool → Bool → Bool → Bool → ℕ
  tests S T L P = cond S 1 (cond T 2 (cond L 3 (cond P 4 0)))

  -- three tests of a macroblock are one of the references
  pub three_refusals : or_else (refusal (reference refs 0) 0 0) (or_else (refusal (reference refs 1) 0 0) (refusal (reference refs 2) 0 0)) ≡ references_refusal refs
  unfolding refusal references_refusal
  three_refusals =
      at (size_test (reference refs 0)) (stride_test (reference refs 0)) (length_test (reference refs 0)) (length_test (reference refs 1)) (length_test (reference refs 2))
      (place_test (reference refs 0) 0 0) place_first
    where
      at : (S T L M N P : Bool) → (S ≡ false → P ≡ false) → or_else (tests S T L P) (or_else (tests S T M P) (tests S T N P)) ≡ cond S 1 (cond T 2 (cond (L || (M || N)) 3 0))
      at true T L M N P h = refl
      at false true L M N P h = refl
      at false false true M N P h = refl
      at false false false M N true h = let f : ◌≡◌ {A = ℕ} 0 1 = cc (h refl) in absurd (omega arith)
      at false false false true N false h = refl
      at false false false false true false h = refl
      at false false false false false false h = refl

  -- where none of them is refused, no macroblock is, in any of the three
  module _ (e : references_refusal refs ≡ 0) where
    passed : (S T L M N : Bool) → ◌≡◌ {A = ℕ} (cond S 1 (cond T 2 (cond (L || (M || N)) 3 0))) 0 → (S ≡ false) × (T ≡ false) × (L ≡ false) × (M ≡ false) × (N ≡ false)
    passed false false false false false h = (refl, refl, refl, refl, refl)
    passed true T L M N h = absurd (omega arith)
    passed false true L M N h = absurd (omega arith)
    passed false false true M N h = absurd (omega arith)
    passed false false false true N h = absurd (omega arith)
    passed false false false false true h = absurd (omega arith)

    abbrev all : Type 0
    all =
        (size_test (reference refs 0) ≡ false)
        × (stride_test (reference refs 0) ≡ false)
        × (length_test (reference refs 0) ≡ false)
        × (length_test (reference refs 1) ≡ false)
        × (length_test (reference refs 2) ≡ false)

    tested : all
    unfolding references_refusal
    tested = passed _ _ _ _ _ e

    pub references-sized : Sized refs.sizes.mb_cols refs.sizes.mb_rows
    references-sized = sized refs.sizes.mb_cols refs.sizes.mb_rows tested.0

    pub reference_accepted : (code col row : ℕ) → col < refs.sizes.mb_cols → row < refs.sizes.mb_rows → refusal (reference refs code) col row ≡ 0
    reference_accepted zero col row hc hr = accepted (reference refs 0) col row tested.0 tested.1 tested.2 hc hr
    reference_accepted (suc zero) col row hc hr = accepted (reference refs 1) col row tested.0 tested.1 tested.3 hc hr
    reference_accepted (suc (suc code)) col row hc hr = accepted (reference refs 2) col row tested.0 tested.1 tested.4 hc hr

-- ---- a sample of the macroblock at column col, row row
pub sample_in : (a : Asked) (k : Channel) (col row r c : ℕ) → r < side k → c < side k
    → frame_sample a k (row * side k + r) (col * side k + c) ≡ get_or (samples_in k (prediction_at a col row).samples) (r * side k + c) 0
unfolding frame_sample
sample_in a k col row r c hr hc = rw (digits_div row hr, digits_mod row hr, digits_div col hc, digits_mod col hc) refl

-- the single call's number is that of its reference
pub single_number : (a : Asked) (col row : ℕ) → refusal (reference a.refs (reference_code a.orders (row * cols a + col))) col row ≡ 0 → (prediction_at a col row).number ≡ 0
unfolding ordered single whole split answered
single_number a col row e = at (eqb (kind_code a.orders (row * cols a + col)) 0)
  where
    ref : Reference
    ref = reference a.refs (reference_code a.orders (row * cols a + col))

    vs : List Mv
    vs = vectors_at a.orders (row * cols a + col)

    at : (b : Bool) → (cond b (whole a.set a.low ref col row (sent vs 0)) (split a.set a.low ref col row vs)).number ≡ 0
    at true = e
    at false = e

-- ---- what a call leaves, said otherwise
pub fills_as : {a b : Asked} {m n : ℕ} {out : Planes} {s : Strides} {r : ℕ} {out' : Planes} → a ≡ b → m ≡ n → Fills a m out s r out' → Fills b n out s r out'
fills_as {out = out} {s} {r} {out'} e f F = subst (λ (x : Asked × ℕ). Fills x.0 x.1 out s r out') (λ i. (e i, f i)) F
