-- A whole frame at once: three references, an order for each macroblock, and the planes that the answer is written to.
use Rattle.std.specs.Prelude.{◌≡◌, Bool, false, cond, not, ◌||◌, List, ℕ, zero, suc, ◌+◌, ◌*◌, ◌/◌, ◌%◌, ltb, eqb, length, get_or, take, drop}
use Rattle.rfc6386.specs.Vector.{lowering_of, sent}
use Rattle.rfc6386.specs.declared.Lowering.{Lowering}
use Rattle.rfc6386.specs.Raster.{written}
use Rattle.rfc6386.specs.Refusal.{or_else, if_done}
use Rattle.rfc6386.specs.Macroblock.{Reference, lent, size_test, stride_test, length_test, whole, split}
use Rattle.rfc6386.specs.Channel.{Channel, luma, chroma_u, chroma_v, side, samples_in}
use Rattle.vector_bytes.specs.Bytes.{vectors_of}
use Rattle.rfc6386.specs.declared.Mv.{Mv}
use Rattle.rfc6386.specs.declared.FilterSet.{FilterSet}
use Rattle.rfc6386.specs.declared.Sizes.{Sizes}
use Rattle.rfc6386.specs.Answer.{Prediction}
use Rattle.frame.specs.declared.Strides.{Strides}
use Rattle.frame.specs.declared.Frame.{Frame}

-- ---- the references
-- the bytes of a picture's three planes
pub record Planes : Type 0 where
  pub y : List ℕ
  pub u : List ℕ
  pub v : List ℕ

-- three pictures that share sizes and strides
pub record References : Type 0 where
  pub sizes : Sizes
  pub last : Planes
  pub golden : Planes
  pub altref : Planes

abbrev pub planes : List ℕ → List ℕ → List ℕ → Planes
planes y u v = record { y = y; u = u; v = v }

abbrev pub references_of : Sizes → List ℕ → List ℕ → List ℕ → List ℕ → List ℕ → List ℕ → List ℕ → List ℕ → List ℕ → References
references_of sizes ly lu lv gy gu gv ay au av =
    record { sizes = sizes; last = planes ly lu lv; golden = planes gy gu gv; altref = planes ay au av }

-- what a code names: 0 last, 1 golden, 2 altref
abbrev pub named : ℕ → List ℕ → List ℕ → List ℕ → List ℕ
named zero last golden altref = last
named (suc zero) last golden altref = golden
named (suc (suc n)) last golden altref = altref

abbrev pub reference : References → ℕ → Reference
reference refs code =
    lent
    (named code refs.last.y refs.golden.y refs.altref.y)
    (named code refs.last.u refs.golden.u refs.altref.u)
    (named code refs.last.v refs.golden.v refs.altref.v)
    refs.sizes

-- ---- orders: 66 bytes each, in raster order. Order k: the code of its reference, its kind, 0 whole or 1 split, and sixteen vectors
abbrev pub reference_code : List ℕ → ℕ → ℕ
reference_code orders k = get_or orders (66 * k) 0

abbrev pub kind_code : List ℕ → ℕ → ℕ
kind_code orders k = get_or orders (66 * k + 1) 0

abbrev pub vectors_at : List ℕ → ℕ → List Mv
vectors_at orders k = vectors_of (take 64 (drop (66 * k + 2) orders))

abbrev pub bad_order : List ℕ → ℕ → Bool
bad_order orders k = ltb 2 (reference_code orders k) || ltb 1 (kind_code orders k)

-- one of the first n is bad
unfoldable pub any_bad : List ℕ → ℕ → Bool
any_bad orders zero = false
any_bad orders (suc n) = any_bad orders n || bad_order orders n

-- ---- what is predicted
-- all that a frame is made of
pub record Asked : Type 0 where
  pub set : FilterSet
  pub low : Lowering
  pub refs : References
  pub orders : List ℕ

-- as a call has it: the planes Y, U and V of last, of golden and of altref
abbrev pub asked_of : Frame → List ℕ → List ℕ → List ℕ → List ℕ → List ℕ → List ℕ → List ℕ → List ℕ → List ℕ → List ℕ → Asked
asked_of f ly lu lv gy gu gv ay au av orders =
    record { set = f.set; low = lowering_of f.full_pixel; refs = references_of f.sizes ly lu lv gy gu gv ay au av; orders = orders }

abbrev pub cols : Asked → ℕ
cols a = a.refs.sizes.mb_cols

abbrev pub rows : Asked → ℕ
rows a = a.refs.sizes.mb_rows

-- the macroblock at column col, row row by one order: what the single call answers. Whole takes the first vector
unfoldable pub single : FilterSet → Lowering → Reference → ℕ → ℕ → ℕ → List Mv → Prediction
single set low ref kind col row vs = cond (eqb kind 0) (whole set low ref col row (sent vs 0)) (split set low ref col row vs)

unfoldable pub ordered : Asked → ℕ → ℕ → ℕ → Prediction
ordered a k col row =
    single a.set a.low (reference a.refs (reference_code a.orders k)) (kind_code a.orders k) col row (vectors_at a.orders k)

abbrev pub prediction_at : Asked → ℕ → ℕ → Prediction
prediction_at a col row = ordered a (row * cols a + col) col row

-- the sample at row r, column c of a plane of the frame: it lies in the macroblock r / n, c / n, where n is the side of a macroblock's plane
unfoldable pub frame_sample : Asked → Channel → ℕ → ℕ → ℕ
frame_sample a k r c = get_or (samples_in k (prediction_at a (c / side k) (r / side k)).samples) (r % side k * side k + c % side k) 0

-- a plane with the frame in it: every byte outside the picture is as it was
unfoldable pub frame_plane : Asked → Channel → List ℕ → ℕ → List ℕ
frame_plane a k out stride = written out stride 0 0 (cols a * side k) (rows a * side k) (frame_sample a k)

-- ---- the number
-- 1, 2 and 3, of all references
unfoldable pub references_refusal : References → ℕ
references_refusal refs =
    cond (size_test (reference refs 0)) 1
    (cond (stride_test (reference refs 0)) 2
    (cond (length_test (reference refs 0) || (length_test (reference refs 1) || length_test (reference refs 2))) 3 0))

-- 7 for an output that is no such picture, with its own strides
abbrev pub picture_of : Planes → Strides → Sizes → Reference
picture_of out s sizes =
    lent out.y out.u out.v
    (record {
      y_stride = s.y;
      u_stride = s.u;
      v_stride = s.v;
      mb_cols = sizes.mb_cols;
      mb_rows = sizes.mb_rows;
    })

unfoldable pub output_refusal : Planes → Strides → Sizes → ℕ
output_refusal out s sizes = cond (stride_test (picture_of out s sizes) || length_test (picture_of out s sizes)) 7 0

-- 9 for orders that are not so many, or of which one is bad
unfoldable pub orders_refusal : List ℕ → ℕ → ℕ
orders_refusal orders n = cond (not (eqb (length orders) (66 * n)) || any_bad orders n) 9 0

-- `codes` is the number that codes beside the orders get
unfoldable pub frame_number : Asked → ℕ → Planes → Strides → ℕ
frame_number a codes out s =
    or_else (references_refusal a.refs)
    (or_else codes
    (or_else (output_refusal out s a.refs.sizes) (orders_refusal a.orders (rows a * cols a))))

-- what a call leaves: its number r, and the output's planes, which it keeps where it refuses
pub record Fills (a : Asked) (codes : ℕ) (out : Planes) (s : Strides) (r : ℕ) (out' : Planes) : Type 0 where
  pub number_is : r ≡ frame_number a codes out s
  pub y_is : out'.y ≡ if_done (frame_number a codes out s) (frame_plane a luma out.y s.y) out.y
  pub u_is : out'.u ≡ if_done (frame_number a codes out s) (frame_plane a chroma_u out.u s.u) out.u
  pub v_is : out'.v ≡ if_done (frame_number a codes out s) (frame_plane a chroma_v out.v s.v) out.v
