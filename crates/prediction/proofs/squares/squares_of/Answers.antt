-- `squares_of` asks for squares that an accepted macroblock has. Assumes nothing.
use Rattle.std.proofs.Common.{◌≡◌, ℕ, List, ◌≤◌, arith}
use Rattle.rfc6386.specs.declared.Sizes.{Sizes}
use Rattle.rfc6386.specs.Macroblock.{lent, refusal}
use Rattle.rfc6386.proofs.Laws.Refusals.{Accepts, accepts}
use Rattle.prediction.proofs.Macroblock.{luma_starts, u_starts, v_starts, sized}
use Rattle.prediction.proofs.squares.squares_of.Goals as goal

accepted : (y u v : List ℕ) (s : Sizes) (col row : ℕ) → refusal (lent y u v s) col row ≡ 0 → Accepts (lent y u v s) col row
accepted y u v s col row e = accepts (lent y u v s) col row e

small : {y u v : List ℕ} {s : Sizes} {col row : ℕ} → Accepts (lent y u v s) col row → (n : ℕ) → 1 ≤ n → n ≤ 16 → (col ≤ 1024) × (row ≤ 1024) × (1 ≤ n) × (n ≤ 16)
small A n l h = (omega arith, omega arith, l, h)

pub square_of-luma-requires : goal.square_of-luma-requires
square_of-luma-requires c =
    let a = c.args in
    let A = accepted a.y.now a.u.now a.v.now a.sizes a.mb_col a.mb_row c.requires in
    (omega arith, (luma_starts A, (sized A, small A 16 (omega arith) (omega arith))))

pub square_of-chroma_u-requires : goal.square_of-chroma_u-requires
square_of-chroma_u-requires c =
    let a = c.args in
    let A = accepted a.y.now a.u.now a.v.now a.sizes a.mb_col a.mb_row c.requires in
    (omega arith, (u_starts A, (sized A, small A 8 (omega arith) (omega arith))))

pub square_of-chroma_v-requires : goal.square_of-chroma_v-requires
square_of-chroma_v-requires c =
    let a = c.args in
    let A = accepted a.y.now a.u.now a.v.now a.sizes a.mb_col a.mb_row c.requires in
    (omega arith, (v_starts A, (sized A, small A 8 (omega arith) (omega arith))))
