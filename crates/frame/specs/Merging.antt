-- Demand 3 for each macroblock of a frame. At any place of the orders, with all else as it is, a whole order of one vector and a split order of the
-- same vector sixteen times leave the same frame, number and planes, on every input exactly where both components lie in -16384 .. 16383. Assumes
-- nothing.
use Rattle.std.proofs.Math.Path.{◌≡◌, refl, sym, ap, ap₂}
use Rattle.std.proofs.Common.{◌∙◌, div-lt_iff_lt-mul, length-take, length-drop, ext_get_or, get_or-take, get_or-drop, length-take-le, eqb-true, SFits}
use Rattle.std.specs.Prelude.{◌↔◌, Bool, true, false, not, length, take, drop, replicate}
use Rattle.std.proofs.Math.Bool.{cond, ◌||◌}
use mathlib.Core.List.{List, ◌∷◌}
use Prim.Native.Nat.{ℕ, zero, suc, ◌+◌, ◌-◌, ◌*◌, ◌/◌, ◌%◌, ◌<◌, ◌≤◌, min}
use native.Mathlib.Omega.{arith}
use Rattle.std.proofs.Math.Dec.{ltb, eqb}
use Rattle.std.proofs.Math.ListN.{get_or, get_or-eq_default}
use Rattle.std.proofs.lemmas.Bool.{eqb-false}
use Rattle.std.specs.Int.{w16}
use Rattle.rfc6386.specs.Vector.{mergeable}
use Rattle.rfc6386.specs.declared.Lowering.{Lowering}
use Rattle.rfc6386.specs.Refusal.{or_else, if_done}
use Rattle.rfc6386.specs.Raster.{within}
use Rattle.rfc6386.specs.Macroblock.{refusal, answered, whole, split}
use Rattle.rfc6386.specs.Channel.{Channel, luma, chroma_u, chroma_v, side, samples_in}
use Rattle.rfc6386.specs.Telling.{sixteen, telling_sample}
use Rattle.rfc6386.proofs.Merging.{merge_inside}
use Rattle.rfc6386.proofs.Carried.{lent_at, telling_place, Unlike, results-differ}
use Rattle.rfc6386.proofs.Laws.Raster.{length-tab, written_ext}
use Rattle.steps.specs.Rows.{laid}
use Rattle.steps.proofs.Laws.Copying.{get_or-laid, length-laid, laid_in, either}
use Rattle.vector_bytes.specs.Bytes.{vectors_of}
use Rattle.vector_bytes.specs.Spelled.{sixteen_spelled, spelled_is}
use Rattle.frame.specs.Frame.{Planes, planes, References, reference, reference_code, kind_code, vectors_at, bad_order, any_bad, Asked, cols, rows, single, ordered, prediction_at, frame_sample, frame_plane, references_refusal, output_refusal, orders_refusal, frame_number, Fills}
use Rattle.outputs.specs.Laws.{if-done, zeros}
use Rattle.frame.specs.Laws.{three_refusals, orders_count, order_in}
use Rattle.frame.specs.Theorems.{frame_macroblock}
use Rattle.rfc6386.specs.declared.Mv.{Mv}
use Rattle.rfc6386.specs.declared.FilterSet.{FilterSet}
use Rattle.rfc6386.specs.Answer.{Prediction}
use Rattle.frame.specs.declared.Strides.{Strides}

-- ---- orders in which one is another
-- an order of one vector, as its bytes sixteen times
abbrev pub order_of : ℕ → ℕ → Mv → List ℕ
order_of code kind v = code ∷ kind ∷ sixteen_spelled v

-- order k replaced
abbrev pub replaced : List ℕ → ℕ → List ℕ → List ℕ
replaced orders k order = laid orders (66 * k) 66 (λ j. get_or order j 0)

-- a frame with such an order at place k
abbrev pub with : FilterSet → Lowering → References → List ℕ → ℕ → List ℕ → Asked
with set low refs orders k order = record { set = set; low = low; refs = refs; orders = replaced orders k order }

-- ---- what the two kinds have in common
module _ (orders : List ℕ) (k code : ℕ) (v : Mv) where
  abbrev one : ℕ → List ℕ
  one kind = replaced orders k (order_of code kind v)

  as_long : (kind : ℕ) → length (one kind) ≡ length orders
  as_long kind = length-laid orders (66 * k) 66 (λ j. get_or (order_of code kind v) j 0)

  -- a byte of the order, but for its kind
  order-byte : (j : ℕ) → (j ≡ 1 → ⊥) → get_or (order_of code 0 v) j 0 ≡ get_or (order_of code 1 v) j 0
  order-byte zero h = refl
  order-byte (suc zero) h = absurd (h refl)
  order-byte (suc (suc j)) h = refl

  tail : (kind i : ℕ) → get_or (order_of code kind v) (2 + i) 0 ≡ get_or (sixteen_spelled v) i 0
  tail kind i = let e : 2 + i ≡ suc (suc i) = omega arith in ap (λ (n : ℕ). get_or (order_of code kind v) n 0) e

  -- and of all orders
  same_byte : (i : ℕ) → (i ≡ 66 * k + 1 → ⊥) → get_or (one 0) i 0 ≡ get_or (one 1) i 0
  same_byte i h =
      either i (length orders)
      (λ l.
      get_or-laid orders (66 * k) 66 (λ j. get_or (order_of code 0 v) j 0) i l
      ∙ ap (λ (n : ℕ). cond (within (66 * k) 66 i) n (get_or orders i 0)) (order-byte (i - 66 * k) (λ e. h (omega arith)))
      ∙ sym (get_or-laid orders (66 * k) 66 (λ j. get_or (order_of code 1 v) j 0) i l))
      (λ l. past 0 i l ∙ sym (past 1 i l))
    where
      past : (kind i : ℕ) → length orders ≤ i → get_or (one kind) i 0 ≡ 0
      past kind i l = get_or-eq_default (one kind) 0 (omega (arith, as_long kind))

  -- the kind of order k, and its vectors
  kind_is : (kind : ℕ) → 66 * k + 66 ≤ length orders → kind_code (one kind) k ≡ kind
  kind_is kind h = laid_in orders (66 * k) 66 (λ j. get_or (order_of code kind v) j 0) 1 h (omega arith)

  vectors_are : (kind : ℕ) → 66 * k + 66 ≤ length orders → SFits w16 v.row → SFits w16 v.col → vectors_at (one kind) k ≡ sixteen v
  vectors_are kind h fr fc =
      ap vectors_of
      (ext_get_or 0 (take 64 (drop (66 * k + 2) (one kind))) (sixteen_spelled v) (long ∙ sym spelt)
      (λ i l.
      let m : i < 64 = omega (arith, long) in
      let e : 66 * k + 2 + i ≡ 66 * k + (2 + i) = omega arith in
      get_or-take 64 (drop (66 * k + 2) (one kind)) i 0 m
      ∙ get_or-drop (66 * k + 2) (one kind) i 0
      ∙ ap (λ (n : ℕ). get_or (one kind) n 0) e
      ∙ laid_in orders (66 * k) 66 (λ j. get_or (order_of code kind v) j 0) (2 + i) h (omega arith)
      ∙ tail kind i))
      ∙ spelled_is v fr fc
    where
      long : length (take 64 (drop (66 * k + 2) (one kind))) ≡ 64
      long = length-take-le 64 (drop (66 * k + 2) (one kind)) (omega (arith, length-drop (66 * k + 2) (one kind), as_long kind))

      spelt : length (sixteen_spelled v) ≡ 64
      spelt = length-tab 64 _

  -- of every order: the reference, the vectors, and whether it is bad
  vectors_same : (m : ℕ) → vectors_at (one 0) m ≡ vectors_at (one 1) m
  vectors_same m =
      ap vectors_of
      (ext_get_or 0 (cut 0) (cut 1) (length-take 64 (drop (66 * m + 2) (one 0)) ∙ ap (min 64) rest ∙ sym (length-take 64 (drop (66 * m + 2) (one 1))))
      (λ i l. let h : i < 64 = omega (arith, length-take 64 (drop (66 * m + 2) (one 0))) in byte 0 i h ∙ same_byte (66 * m + 2 + i) (λ e. omega arith) ∙ sym (byte 1 i h)))
    where
      cut : ℕ → List ℕ
      cut kind = take 64 (drop (66 * m + 2) (one kind))

      rest : length (drop (66 * m + 2) (one 0)) ≡ length (drop (66 * m + 2) (one 1))
      rest = length-drop (66 * m + 2) (one 0) ∙ ap (λ (n : ℕ). n - (66 * m + 2)) (as_long 0 ∙ sym (as_long 1)) ∙ sym (length-drop (66 * m + 2) (one 1))

      byte : (kind i : ℕ) → i < 64 → get_or (take 64 (drop (66 * m + 2) (one kind))) i 0 ≡ get_or (one kind) (66 * m + 2 + i) 0
      byte kind i h = get_or-take 64 (drop (66 * m + 2) (one kind)) i 0 h ∙ get_or-drop (66 * m + 2) (one kind) i 0

  bad_same : (m : ℕ) → 66 * m + 66 ≤ length orders → bad_order (one 0) m ≡ bad_order (one 1) m
  bad_same m h = ap₂ ◌||◌ (ap (ltb 2) (same_byte (66 * m) (λ e. omega arith))) (at (eqb m k) refl)
    where
      at : (b : Bool) → eqb m k ≡ b → ltb 1 (kind_code (one 0) m) ≡ ltb 1 (kind_code (one 1) m)
      at true t =
          let e = eqb-true m k t in
          ap (λ (n : ℕ). ltb 1 (kind_code (one 0) n)) e
          ∙ ap (ltb 1) (kind_is 0 (omega arith))
          ∙ sym (ap (λ (n : ℕ). ltb 1 (kind_code (one 1) n)) e ∙ ap (ltb 1) (kind_is 1 (omega arith)))
      at false t = ap (ltb 1) (same_byte (66 * m + 1) (λ e. eqb-false m k t (omega arith)))

  any_same : (n : ℕ) → 66 * n ≤ length orders → any_bad (one 0) n ≡ any_bad (one 1) n
  unfolding any_bad
  any_same zero h = refl
  any_same (suc n) h = ap₂ ◌||◌ (any_same n (omega arith)) (bad_same n (omega arith))

  orders_same : (n : ℕ) → orders_refusal (one 0) n ≡ orders_refusal (one 1) n
  unfolding orders_refusal
  orders_same n = at (eqb (length orders) (66 * n)) refl
    where
      told : (kind : ℕ) (b : Bool) → eqb (length orders) (66 * n) ≡ b → ◌≡◌ {A = ℕ} (cond (not (eqb (length (one kind)) (66 * n)) || any_bad (one kind) n) 9 0) (cond (not b || any_bad (one kind) n) 9 0)
      told kind b t = ap (λ (c : Bool). cond (not c || any_bad (one kind) n) 9 0) (ap (λ (m : ℕ). eqb m (66 * n)) (as_long kind) ∙ t)

      at : (b : Bool) → eqb (length orders) (66 * n) ≡ b
          → ◌≡◌ {A = ℕ} (cond (not (eqb (length (one 0)) (66 * n)) || any_bad (one 0) n) 9 0) (cond (not (eqb (length (one 1)) (66 * n)) || any_bad (one 1) n) 9 0)
      at true t = told 0 true t ∙ ap (λ (c : Bool). cond c 9 0) (any_same n (omega (arith, eqb-true (length orders) (66 * n) t))) ∙ sym (told 1 true t)
      at false t = told 0 false t ∙ sym (told 1 false t)

-- ---- inside
module _ (set : FilterSet) (low : Lowering) (v : Mv) (fr : SFits w16 v.row) (fc : SFits w16 v.col) where
  module _ (refs : References) (orders : List ℕ) (k code : ℕ) where
    abbrev asked : ℕ → Asked
    asked kind = with set low refs orders k (order_of code kind v)

    -- the prediction of every order
    ordered_same : mergeable v ≡ true → (m col row : ℕ) → 66 * m + 66 ≤ length orders → ordered (asked 0) m col row ≡ ordered (asked 1) m col row
    unfolding ordered single
    ordered_same e m col row h = at (eqb m k) refl
      where
        by : ℕ → ℕ → List Mv → Prediction
        by c kind vs = single set low (reference refs c) kind col row vs

        codes : reference_code (one orders k code v 0) m ≡ reference_code (one orders k code v 1) m
        codes = same_byte orders k code v (66 * m) (λ e. omega arith)

        at : (b : Bool) → eqb m k ≡ b
            → by (reference_code (one orders k code v 0) m) (kind_code (one orders k code v 0) m) (vectors_at (one orders k code v 0) m)
            ≡ by (reference_code (one orders k code v 1) m) (kind_code (one orders k code v 1) m) (vectors_at (one orders k code v 1) m)
        at false t =
            let kinds = same_byte orders k code v (66 * m + 1) (λ e. eqb-false m k t (omega arith)) in
            λ i. by (codes i) (kinds i) (vectors_same orders k code v m i)
        at true t =
            let q = eqb-true m k t in
            let l : 66 * k + 66 ≤ length orders = omega arith in
            let kind : (n : ℕ) → kind_code (one orders k code v n) m ≡ n = λ n. ap (kind_code (one orders k code v n)) q ∙ kind_is orders k code v n l in
            let vs : (n : ℕ) → vectors_at (one orders k code v n) m ≡ sixteen v = λ n. ap (vectors_at (one orders k code v n)) q ∙ vectors_are orders k code v n l fr fc in
            ap₂ (by (reference_code (one orders k code v 0) m)) (kind 0) (vs 0)
            ∙ merge_inside set low (reference refs (reference_code (one orders k code v 0) m)) col row v e
            ∙ ap (λ (c : ℕ). split set low (reference refs c) col row (sixteen v)) codes
            ∙ sym (ap₂ (by (reference_code (one orders k code v 1) m)) (kind 1) (vs 1))

    module _ (codes : ℕ) (out : Planes) (s : Strides) where
      number_same : frame_number (asked 0) codes out s ≡ frame_number (asked 1) codes out s
      unfolding frame_number
      number_same =
          ap (λ (n : ℕ). or_else (references_refusal refs) (or_else codes (or_else (output_refusal out s refs.sizes) n)))
          (orders_same orders k code v (rows (asked 0) * cols (asked 0)))

      counted : frame_number (asked 0) codes out s ≡ 0 → length orders ≡ 66 * (rows (asked 0) * cols (asked 0))
      unfolding frame_number
      counted z =
          sym (as_long orders k code v 0)
          ∙ orders_count (one orders k code v 0) (rows (asked 0) * cols (asked 0)) (zeros (output_refusal out s refs.sizes) _ (zeros codes _ (zeros (references_refusal refs) _ z)))

      sample_same : mergeable v ≡ true → frame_number (asked 0) codes out s ≡ 0 → (c : Channel) (i j : ℕ) → i < rows (asked 0) * side c → j < cols (asked 0) * side c
          → frame_sample (asked 0) c i j ≡ frame_sample (asked 1) c i j
      unfolding frame_sample
      sample_same e z c i j hi hj =
          let row = i / side c in
          let col = j / side c in
          let hr : row < rows (asked 0) = (div-lt_iff_lt-mul (side_some c)).1 hi in
          let hc : col < cols (asked 0) = (div-lt_iff_lt-mul (side_some c)).1 hj in
          ap (λ (p : Prediction). get_or (samples_in c p.samples) (i % side c * side c + j % side c) 0)
          (ordered_same e (row * cols (asked 0) + col) col row (omega (arith, order_in (cols (asked 0)) (rows (asked 0)) col row hc hr, counted z)))
        where
          side_some : (c : Channel) → 0 < side c
          side_some luma = omega arith
          side_some chroma_u = omega arith
          side_some chroma_v = omega arith

      plane_same : mergeable v ≡ true → (c : Channel) (o : List ℕ) (stride : ℕ)
          → if_done (frame_number (asked 0) codes out s) (frame_plane (asked 0) c o stride) o ≡ if_done (frame_number (asked 1) codes out s) (frame_plane (asked 1) c o stride) o
      unfolding frame_plane
      plane_same e c o stride =
          if-done (frame_number (asked 0) codes out s) o
          (λ z. written_ext o stride 0 0 (cols (asked 0) * side c) (rows (asked 0) * side c) (frame_sample (asked 0) c) (frame_sample (asked 1) c) (λ i j hi hj. sample_same e z c i j hi hj))
          ∙ ap (λ (n : ℕ). if_done n (frame_plane (asked 1) c o stride) o) number_same

      -- THEOREM (inside). The two leave the same number and the same planes.
      pub frames_agree : mergeable v ≡ true → {r r' : ℕ} {out₁ out₂ : Planes} → Fills (asked 0) codes out s r out₁ → Fills (asked 1) codes out s r' out₂ → (r ≡ r') × (out₁ ≡ out₂)
      frames_agree e F G =
          let y = F.y_is ∙ plane_same e luma out.y s.y ∙ sym G.y_is in
          let u = F.u_is ∙ plane_same e chroma_u out.u s.u ∙ sym G.u_is in
          let w = F.v_is ∙ plane_same e chroma_v out.v s.v ∙ sym G.v_is in
          (F.number_is ∙ number_same ∙ sym G.number_is, λ i. record { y = y i; u = u i; v = w i })

  -- ---- outside: a frame of one macroblock, whose references are all the picture that tells
  abbrev telling_refs : References
  telling_refs =
      let p = telling_place v in
      record { sizes = p.sizes; last = planes p.y p.u p.v; golden = planes p.y p.u p.v; altref = planes p.y p.u p.v }

  abbrev pub telling_frame : ℕ → Asked
  telling_frame kind = with set low telling_refs (replicate 66 0) 0 (order_of 0 kind v)

  -- and planes that it is written to
  abbrev pub empty_frame : Planes
  empty_frame = planes (replicate 256 0) (replicate 64 0) (replicate 64 0)

  abbrev pub tightly : Strides
  tightly = record { y = 16; u = 8; v = 8 }

  -- two frames that are done, and differ in byte i of U
  pub record UnlikeFrames (r r' : ℕ) (out₁ out₂ : Planes) (i : ℕ) : Type 0 where
    pub first_done : r ≡ 0
    pub second-done : r' ≡ 0
    pub in-u : i < 64
    pub differ : get_or out₁.u i 0 ≡ get_or out₂.u i 0 → ⊥

  module _ (e : mergeable v ≡ false) where
    -- both single calls are accepted there, and differ
    apart : Unlike (whole set low (lent_at (telling_place v)) 0 0 v) (split set low (lent_at (telling_place v)) 0 0 (sixteen v)) (telling_sample v)
    apart = results-differ set low v fr fc e _ _ refl refl

    place_accepted : refusal (lent_at (telling_place v)) 0 0 ≡ 0
    unfolding whole answered
    place_accepted = apart.first_accepted

    refs_accepted : references_refusal telling_refs ≡ 0
    refs_accepted = sym (three_refusals telling_refs) ∙ ap (λ (n : ℕ). or_else n (or_else n n)) place_accepted

    no_7 : output_refusal empty_frame tightly (telling_place v).sizes ≡ 0
    unfolding output_refusal
    no_7 = refl

    no_9 : (kind : ℕ) → ltb 1 kind ≡ false → orders_refusal (telling_frame kind).orders 1 ≡ 0
    unfolding orders_refusal any_bad
    no_9 kind h =
        ap₂ (λ (n m : ℕ). cond (not (eqb n 66) || (ltb 2 (reference_code (telling_frame kind).orders 0) || ltb 1 m)) 9 0) (as_long (replicate 66 0) 0 0 v kind) (kind_is (replicate 66 0) 0 0 v kind (omega arith))
        ∙ ap₂ (λ (n : ℕ) (b : Bool). cond (ltb 2 n || b) 9 0) (laid_in (replicate 66 0) 0 66 (λ j. get_or (order_of 0 kind v) j 0) 0 (omega arith) (omega arith)) h

    frame_done : (kind : ℕ) → ltb 1 kind ≡ false → frame_number (telling_frame kind) 0 empty_frame tightly ≡ 0
    unfolding frame_number
    frame_done kind h = ap₂ (λ (n m : ℕ). or_else n (or_else 0 (or_else (output_refusal empty_frame tightly (telling_place v).sizes) m))) refs_accepted (no_9 kind h) ∙ ap (λ (n : ℕ). or_else n 0) no_7

    -- the macroblock of such a frame
    one_macroblock : (kind : ℕ) → prediction_at (telling_frame kind) 0 0 ≡ single set low (lent_at (telling_place v)) kind 0 0 (sixteen v)
    unfolding ordered
    one_macroblock kind =
        λ t. single set low (reference telling_refs (laid_in (replicate 66 0) 0 66 (λ j. get_or (order_of 0 kind v) j 0) 0 (omega arith) (omega arith) t)) (kind_is (replicate 66 0) 0 0 v kind (omega arith) t) 0 0
        (vectors_are (replicate 66 0) 0 0 v kind (omega arith) fr fc t)

    byte_of : (kind : ℕ) {r : ℕ} {out : Planes} → r ≡ 0 → Fills (telling_frame kind) 0 empty_frame tightly r out
        → get_or out.u (telling_sample v) 0 ≡ get_or (single set low (lent_at (telling_place v)) kind 0 0 (sixteen v)).samples.u (telling_sample v) 0
    byte_of kind {r} {out} z F =
        let i = telling_sample v in
        let at : i ≡ (0 * 8 + i / 8) * 8 + (0 * 8 + i % 8) = omega arith in
        let back : i / 8 * 8 + i % 8 ≡ i = omega arith in
        ap (λ (n : ℕ). get_or out.u n 0) at
        ∙ frame_macroblock F z chroma_u 0 0 (i / 8) (i % 8) (omega arith) (omega arith) (omega (arith, apart.in-u)) (omega arith)
        ∙ ap (λ (n : ℕ). get_or (prediction_at (telling_frame kind) 0 0).samples.u n 0) back
        ∙ ap (λ (p : Prediction). get_or p.samples.u i 0) (one_macroblock kind)

    -- THEOREM (outside). On that frame of one macroblock both calls are done, and U byte `telling_sample v` differs.
    pub frames-differ : {r r' : ℕ} {out₁ out₂ : Planes} → Fills (telling_frame 0) 0 empty_frame tightly r out₁ → Fills (telling_frame 1) 0 empty_frame tightly r' out₂
        → UnlikeFrames r r' out₁ out₂ (telling_sample v)
    unfolding single
    frames-differ F G =
        let z = F.number_is ∙ frame_done 0 refl in
        let z' = G.number_is ∙ frame_done 1 refl in
        record {
          first_done = z;
          second-done = z';
          in-u = apart.in-u;
          differ = λ same. apart.differ (sym (byte_of 0 z F) ∙ same ∙ byte_of 1 z' G);
        }

  -- what a call leaves
  abbrev left : Asked → ℕ → Planes → Strides → Planes
  left a codes out s =
      planes (if_done (frame_number a codes out s) (frame_plane a luma out.y s.y) out.y)
      (if_done (frame_number a codes out s) (frame_plane a chroma_u out.u s.u) out.u)
      (if_done (frame_number a codes out s) (frame_plane a chroma_v out.v s.v) out.v)

  leaves : (a : Asked) (codes : ℕ) (out : Planes) (s : Strides) → Fills a codes out s (frame_number a codes out s) (left a codes out s)
  leaves a codes out s = record { number_is = refl; y_is = refl; u_is = refl; v_is = refl }

  -- THEOREM (demand 3 over frames). At every place of the orders, under all references, other orders, codes and outputs, the two leave the same
  -- exactly where both components lie in -16384 .. 16383.
  pub frames-agree-exactly :
      ((refs : References) (orders : List ℕ) (k code codes : ℕ) (out : Planes) (s : Strides) (r r' : ℕ) (out₁ out₂ : Planes)
      → Fills (with set low refs orders k (order_of code 0 v)) codes out s r out₁
      → Fills (with set low refs orders k (order_of code 1 v)) codes out s r' out₂
      → (r ≡ r') × (out₁ ≡ out₂))
      ↔ (mergeable v ≡ true)
  frames-agree-exactly = (λ same. at same (mergeable v) refl, λ e refs orders k code codes out s r r' out₁ out₂ F G. frames_agree refs orders k code codes out s e F G)
    where
      at : ((refs : References) (orders : List ℕ) (k code codes : ℕ) (out : Planes) (s : Strides) (r r' : ℕ) (out₁ out₂ : Planes)
          → Fills (with set low refs orders k (order_of code 0 v)) codes out s r out₁
          → Fills (with set low refs orders k (order_of code 1 v)) codes out s r' out₂
          → (r ≡ r') × (out₁ ≡ out₂))
          → (b : Bool) → mergeable v ≡ b → b ≡ true
      at same true e = refl
      at same false e =
          let F = leaves (telling_frame 0) 0 empty_frame tightly in
          let G = leaves (telling_frame 1) 0 empty_frame tightly in
          absurd ((frames-differ e F G).differ (ap (λ (p : Planes). get_or p.u (telling_sample v) 0) (same telling_refs (replicate 66 0) 0 0 0 empty_frame tightly _ _ _ _ F G).1))
