-- Sixteen vectors that are sixteen times the first are alike by index, and the other way. Assumes nothing.
use Rattle.std.proofs.Common.{◌≡◌, sym, ap, ◌∙◌, List, replicate, ◌&&◌, Decides, arith}
use Rattle.std.specs.Ordering.{int_eq}
use Rattle.std.proofs.lemmas.Bool.Decides.{Decides-and, Decides-int_eq}
use Rattle.std.proofs.lemmas.Slice.Eq.{slice_eq-Decides}
use Rattle.std.proofs.lemmas.List.{get_or-replicate, length-replicate}
use lib.Seq.{ext_get_or}
use Rattle.rfc6386.specs.declared.Mv.{Mv}
use Rattle.rfc6386.specs.Vector.{sent, zero_vector}
use Rattle.rfc6386.proofs.Laws.Vectors.{vector}
use Rattle.motion_vectors.proofs.merging.all_equal.Goals as goal

-- what `==` says of two vectors
equal : (a b : Mv) → Decides (int_eq a.row b.row && int_eq a.col b.col) (a ≡ b)
equal a b =
    let d = Decides-and _ _ (Decides-int_eq a.row b.row) (Decides-int_eq a.col b.col) in
    (λ e. vector (d.0 e).0 (d.0 e).1, λ e. d.1 (ap (λ (v : Mv). v.row) e, ap (λ (v : Mv). v.col) e))

pub returns : goal.returns
returns c =
    let vs = c.args.mvs in
    let first = sent vs 0 in
    let d = slice_eq-Decides equal vs (replicate 16 first) c.eq.result c.eq.ensures in (
      λ e b h. ap (λ (l : List Mv). sent l b) (d.0 e) ∙ get_or-replicate 16 b first zero_vector h,
      λ h.
          d.1 (ext_get_or zero_vector vs (replicate 16 first) (omega (arith, length-replicate 16 first))
          (λ i k. h i (omega arith) ∙ sym (get_or-replicate 16 i first zero_vector (omega arith)))),
    )
