-- `macroblocks::order_into` meets its contract: what is left of 384 bytes by an accepted prediction. Assumes nothing.
use Rattle.std.proofs.Common.{◌+◌, ◌*◌, Ok, refl, sym, ap, ◌∙◌}
use Rattle.rfc6386.specs.Vector.{lowering_of}
use Rattle.rfc6386.specs.Macroblock.{whole, split}
use Rattle.rfc6386.specs.Report.{whole_report, quarters_report}
use Rattle.outputs.specs.Laws.{left_as}
use Rattle.frame.specs.Frame.{reference, reference_code, kind_code, vectors_at, ordered}
use Rattle.frame.specs.Codes.{reference_of, kind_of}
use Rattle.frame.specs.Inner.{references_in}
use Rattle.frame.specs.Laws.{order-whole, order-split}
use Rattle.frame.proofs.Reading.{both_read, whole_kind, split_kind, chosen}
use Rattle.frame.proofs.macroblocks.order_into.Goals as goal

pub returns-in-Whole : goal.returns-in-Whole
unfolding whole_report ordered
returns-in-Whole c =
    let a = c.args in
    let f = a.task.frame in
    let o = a.task.orders.now in
    let k = a.row * f.sizes.mb_cols + a.col in
    let code = reference_code o k in
    let kind = kind_code o k in
    let ref = reference (references_in f.sizes a.task.pictures) code in
    let b = both_read (reference_of code) (kind_of kind) (sym c.in-Ok.ensures) in
    let own = chosen a.task.pictures f.sizes code b.0 c.named.ensures in
    let low = c.lowering_of-lowering.ensures in
    order-whole f.set (lowering_of f.full_pixel) ref kind a.col a.row (vectors_at o k) c.requires.row_value c.requires.mb_len
    (whole_kind kind (b.1 ∙ ap Ok c.in-Whole.is)) c.first_vector-mv.ensures
    (left_as (λ i. whole f.set (low i) (own i) a.col a.row c.first_vector-mv.result) refl c.whole_into-ended.ensures.leaves)

pub returns-in-Split : goal.returns-in-Split
unfolding quarters_report ordered
returns-in-Split c =
    let a = c.args in
    let f = a.task.frame in
    let o = a.task.orders.now in
    let k = a.row * f.sizes.mb_cols + a.col in
    let code = reference_code o k in
    let kind = kind_code o k in
    let ref = reference (references_in f.sizes a.task.pictures) code in
    let b = both_read (reference_of code) (kind_of kind) (sym c.in-Ok.ensures) in
    let own = chosen a.task.pictures f.sizes code b.0 c.named.ensures in
    order-split f.set (lowering_of f.full_pixel) ref kind a.col a.row (vectors_at o k) c.requires.row_value c.requires.mb_len
    (split_kind kind (b.1 ∙ ap Ok c.in-Split.is)) c.vectors-mvs.ensures
    (left_as (λ i. split f.set (lowering_of f.full_pixel) (own i) a.col a.row c.vectors-mvs.result) refl c.quarters_into-ended.ensures.leaves)
