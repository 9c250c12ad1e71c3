-- A turn reads one vector; another number of bytes gives zeros. Assumes nothing.
use Rattle.std.proofs.Common.{◌≡◌, sym, ◌∙◌, arith, w16, ℕ, ◌+◌, ◌<◌, List, length, get_or, set}
use Rattle.std.proofs.lemmas.List.Edits.{fill_by_more}
use lib.ListN.{length-set}
use Rattle.signed.specs.Held.{got}
use Rattle.rfc6386.specs.Vector.{zero_vector}
use Rattle.rfc6386.specs.declared.Mv.{Mv}
use Rattle.rfc6386.proofs.Laws.Raster.{is-tab}
use Rattle.vector_bytes.specs.Bytes.{vector_at}
use Rattle.vector_bytes.specs.Laws.{vectors_read, vectors_none}
use Rattle.vector_bytes.proofs.mvs_of_bytes.Goals as goal

-- one more vector, v
fill_more : (f : ℕ → Mv) (l : List Mv) (i : ℕ) (v : Mv) → i < length l → v ≡ f i → ((k : ℕ) → k < i → get_or l k zero_vector ≡ f k)
    → (k : ℕ) → k < i + 1 → get_or (set l i v) k zero_vector ≡ f k
fill_more f l i v h e below = rw e (fill_by_more f l i zero_vector h below)

pub returns-then-b-ne64 : goal.returns-then-b-ne64
returns-then-b-ne64 c = sym (vectors_none _ (λ e. omega arith))

pub loop-i-preserved : goal.loop-i-preserved
loop-i-preserved c =
    let l = c.loop-i in
    let row = c.read_i16-row in
    let col = c.read_i16-col in (
      omega arith,
      simp length-set (omega arith),
      fill_more (vector_at c.args.b.now) l.mvs l.i _ (omega arith) (cc ((got w16 row.result row.type_inv).is, (got w16 col.result col.type_inv).is))
          l.invariant.2,
    )

pub returns : goal.returns
returns c =
    let b = c.args.b.now in
    is-tab zero_vector 16 (vector_at b) c.loop-i.mvs c.loop-i.invariant.1 (λ k h. c.loop-i.invariant.2 k (omega arith)) ∙ sym (vectors_read b (omega arith))
