-- The three planes of a frame as the loops fill them: a macroblock more, a row more, and all. Assumes nothing.
use mathlib.Core.Path.{◌≡◌, sym, ap, ◌∙◌, subst}
use mathlib.Core.Bool.{false}
use mathlib.Core.List.{List}
use Prim.Native.Nat.{ℕ, ◌+◌, ◌*◌, ◌<◌, ◌≤◌}
use native.Mathlib.Omega.{arith}
use lib.ListN.{length, get_or}
use Rattle.rfc6386.specs.Raster.{written}
use Rattle.rfc6386.specs.Macroblock.{Reference, refusal}
use Rattle.rfc6386.specs.Channel.{luma, chroma_u, chroma_v}
use Rattle.rfc6386.proofs.Laws.Refusals.{done, refused, or_else-zero}
use Rattle.steps.specs.Rows.{Room}
use Rattle.outputs.specs.Output.{flat}
use Rattle.outputs.specs.Laws.{Counted, zeros}
use Rattle.frame.specs.Frame.{Planes, reference, reference_code, kind_code, vectors_at, bad_order, any_bad, Asked, cols, rows, ordered, prediction_at, frame_plane, references_refusal, output_refusal, frame_number, Fills}
use Rattle.frame.specs.Inner.{Ready, rows_part, RowWritten, RowsWritten}
use Rattle.frame.proofs.Placing.{row_none, row_more, rows_none, rows_more, room_at}
use Rattle.frame.specs.Laws.{flat_y, flat_u, flat_v, flat-length, single_counted, order_in, references-sized, reference_accepted, output-holds, orders_count, orders_good, good_at}
use Rattle.frame.specs.declared.Strides.{Strides}

module _ (a : Asked) (s : Strides) (out : Planes) where
  -- ---- a row
  pub row_begun : (row : ℕ) → RowWritten a s row 0 out out
  row_begun row =
      record {
        y_is = row_none a luma out.y s.y row;
        u_is = row_none a chroma_u out.u s.u row;
        v_is = row_none a chroma_v out.v s.v row;
      }

  -- ---- rows
  pub rows_begun : RowsWritten a s 0 out out
  rows_begun = record { y_is = rows_none a luma out.y s.y; u_is = rows_none a chroma_u out.u s.u; v_is = rows_none a chroma_v out.v s.v }

  pub rows_on : {out₁ out₂ : Planes} (row : ℕ) → RowsWritten a s row out out₁ → RowWritten a s row (cols a) out₁ out₂ → RowsWritten a s (row + 1) out out₂
  rows_on row W R =
      record {
        y_is = rows_more a luma out.y s.y row W.y_is R.y_is;
        u_is = rows_more a chroma_u out.u s.u row W.u_is R.u_is;
        v_is = rows_more a chroma_v out.v s.v row W.v_is R.v_is;
      }

-- ---- a turn: the macroblock at column col, row row, once nothing is refused
pub record Turn (a : Asked) (s : Strides) (y u v col row : ℕ) : Type 0 where
  pub ready : Ready a s y u v
  pub col_in : col < cols a
  pub row_in : row < rows a

module _ {a : Asked} {s : Strides} {y u v col row : ℕ} (T : Turn a s y u v col row) where
  abbrev k : ℕ
  k = row * cols a + col

  -- the reference that its order names
  abbrev own : Reference
  own = reference a.refs (reference_code a.orders k)

  pub order_lies : 66 * k + 66 ≤ length a.orders
  order_lies = omega (arith, order_in (cols a) (rows a) col row T.col_in T.row_in, T.ready.orders_are)

  pub order_good : any_bad a.orders (rows a * cols a) ≡ false → bad_order a.orders k ≡ false
  order_good e = good_at a.orders (rows a * cols a) k e (omega (arith, order_in (cols a) (rows a) col row T.col_in T.row_in))

  pub small : (col < 1024) × (row < 1024)
  small =
      let S = references-sized a.refs T.ready.accepted in
      (omega (arith, S.cols_most, T.col_in), omega (arith, S.rows_most, T.row_in))

  -- there is room for it in planes that have kept their lengths
  pub y_place : {n : ℕ} → n ≡ y → Room n s.y (col * 16) (row * 16) 16 16
  y_place e = subst (λ (n : ℕ). Room n s.y (col * 16) (row * 16) 16 16) (sym e) (room_at y s.y 16 (cols a) (rows a) col row (omega arith) T.ready.y_room T.col_in T.row_in)

  pub u_place : {n : ℕ} → n ≡ u → Room n s.u (col * 8) (row * 8) 8 8
  u_place e = subst (λ (n : ℕ). Room n s.u (col * 8) (row * 8) 8 8) (sym e) (room_at u s.u 8 (cols a) (rows a) col row (omega arith) T.ready.u_room T.col_in T.row_in)

  pub v_place : {n : ℕ} → n ≡ v → Room n s.v (col * 8) (row * 8) 8 8
  v_place e = subst (λ (n : ℕ). Room n s.v (col * 8) (row * 8) 8 8) (sym e) (room_at v s.v 8 (cols a) (rows a) col row (omega arith) T.ready.v_room T.col_in T.row_in)

  pub order_accepted : refusal own col row ≡ 0
  order_accepted = reference_accepted a.refs T.ready.accepted (reference_code a.orders k) col row T.col_in T.row_in

  counted : Counted (prediction_at a col row).samples
  unfolding ordered
  counted = single_counted a.set a.low own (kind_code a.orders k) col row (vectors_at a.orders k) order_accepted

  -- what its order leaves, put in its place
  module _ {mb : List ℕ} (e : mb ≡ flat (prediction_at a col row).samples) where
    pub order_full : length mb ≡ 384
    order_full = ap length e ∙ flat-length (prediction_at a col row).samples counted

    -- a byte of it
    at : {i j : ℕ} {b : ℕ} → i ≡ j → get_or (flat (prediction_at a col row).samples) j 0 ≡ b → get_or mb i 0 ≡ b
    at {j = j} p q = ap (λ (n : ℕ). get_or mb n 0) p ∙ ap (λ (l : List ℕ). get_or l j 0) e ∙ q

    pub row_on : {out out₁ out₂ : Planes} → RowWritten a s row col out out₁
        → out₂.y ≡ written out₁.y s.y (col * 16) (row * 16) 16 16 (λ r c. get_or mb (0 + r * 16 + c) 0)
        → out₂.u ≡ written out₁.u s.u (col * 8) (row * 8) 8 8 (λ r c. get_or mb (256 + r * 8 + c) 0)
        → out₂.v ≡ written out₁.v s.v (col * 8) (row * 8) 8 8 (λ r c. get_or mb (320 + r * 8 + c) 0)
        → RowWritten a s row (col + 1) out out₂
    row_on {out} W y u v =
        let m = (prediction_at a col row).samples in
        record {
          y_is =
              row_more a luma out.y s.y row col (λ r c. get_or mb (0 + r * 16 + c) 0) W.y_is y
              (λ r c hr hc. at {j = r * 16 + c} (omega arith) (flat_y m counted (r * 16 + c) (omega arith)));
          u_is =
              row_more a chroma_u out.u s.u row col (λ r c. get_or mb (256 + r * 8 + c) 0) W.u_is u
              (λ r c hr hc. at {j = 256 + (r * 8 + c)} (omega arith) (flat_u m counted (r * 8 + c) (omega arith)));
          v_is =
              row_more a chroma_v out.v s.v row col (λ r c. get_or mb (320 + r * 8 + c) 0) W.v_is v
              (λ r c hr hc. at {j = 320 + (r * 8 + c)} (omega arith) (flat_v m counted (r * 8 + c)));
        }

-- ---- the call
module _ (a : Asked) (codes : ℕ) (out : Planes) (s : Strides) {n : ℕ} (e : n ≡ frame_number a codes out s) where
  pub fills-refused : (n ≡ 0 → ⊥) → Fills a codes out s n out
  fills-refused h =
      record {
        number_is = e;
        y_is = sym (refused (frame_plane a luma out.y s.y) out.y (λ z. h (e ∙ z)));
        u_is = sym (refused (frame_plane a chroma_u out.u s.u) out.u (λ z. h (e ∙ z)));
        v_is = sym (refused (frame_plane a chroma_v out.v s.v) out.v (λ z. h (e ∙ z)));
      }

  module _ (z : n ≡ 0) where
    none : frame_number a codes out s ≡ 0
    none = sym e ∙ z

    pub ready : Ready a s (length out.y) (length out.u) (length out.v)
    unfolding frame_number
    ready =
        let first = or_else-zero (references_refusal a.refs) _ none in
        let later = zeros codes _ (zeros (references_refusal a.refs) _ none) in
        let H = output-holds out s a.refs.sizes (or_else-zero (output_refusal out s a.refs.sizes) _ later) in
        record {
          accepted = first;
          y_room = H.0;
          u_room = H.1;
          v_room = H.2;
          orders_are = orders_count a.orders (rows a * cols a) (zeros (output_refusal out s a.refs.sizes) _ later);
        }

    pub good : any_bad a.orders (rows a * cols a) ≡ false
    unfolding frame_number
    good =
        orders_good a.orders (rows a * cols a)
        (zeros (output_refusal out s a.refs.sizes) _ (zeros codes _ (zeros (references_refusal a.refs) _ none)))

    pub fills-done : {out' : Planes} → RowsWritten a s (rows a) out out' → Fills a codes out s 0 out'
    unfolding rows_part frame_plane
    fills-done W =
        record {
          number_is = sym z ∙ e;
          y_is = W.y_is ∙ sym (done (frame_plane a luma out.y s.y) out.y none);
          u_is = W.u_is ∙ sym (done (frame_plane a chroma_u out.u s.u) out.u none);
          v_is = W.v_is ∙ sym (done (frame_plane a chroma_v out.v s.v) out.v none);
        }
