-- What `ivf::mend::mend` leaves: the two refusals in their order, and the mended file.
use Rattle.std.proofs.Common.{true, false, refl, sym, ap, ◌∙◌, arith, length, ltb-false}
use Rattle.ivf.specs.Mending.{kept, no_room}
use Rattle.ivf.proofs.Definitions.{kept_lies, sized, mends}
use Rattle.ivf.specs.declared.frames.Frames.{Frames}
use Rattle.ivf.proofs.Laws.{writes_done}
use Rattle.ivf.proofs.mend.mend.Goals as goal

pub returns-then-not_ivf : goal.returns-then-not_ivf
returns-then-not_ivf c = mends c.args.file.now c.args.out.now true _ (sym c.not_ivf.ensures ∙ c.if-not_ivf.true) refl

pub no_room-requires : goal.no_room-requires
no_room-requires c = sized _ (sym c.not_ivf.ensures ∙ c.if-not_ivf.false)

pub returns-then-no_room : goal.returns-then-no_room
returns-then-no_room c =
    mends c.args.file.now c.args.out.now false true (sym c.not_ivf.ensures ∙ c.if-not_ivf.false) (sym c.no_room.ensures ∙ c.if-no_room.true)

pub write_mended-frames-requires-clause-sized : goal.write_mended-frames-requires-clause-sized
write_mended-frames-requires-clause-sized c = sized _ (sym c.not_ivf.ensures ∙ c.if-not_ivf.false)

pub write_mended-frames-requires-clause-file_in_bounds : goal.write_mended-frames-requires-clause-file_in_bounds
unfolding no_room
write_mended-frames-requires-clause-file_in_bounds c =
    ltb-false (length c.args.out.now) (kept c.args.file.now) (sym c.no_room.ensures ∙ c.if-no_room.false)

pub read4-requires : goal.read4-requires
read4-requires c = omega (arith, sized _ (sym c.not_ivf.ensures ∙ c.if-not_ivf.false))

pub overflow_sub-result : goal.overflow_sub-result
overflow_sub-result c =
    let f = c.args.file.now in
    let end = ap (λ (g : Frames). g.end) c.write_mended-frames.ensures.frames_are in
    omega (arith, end, kept_lies f (sized f (sym c.not_ivf.ensures ∙ c.if-not_ivf.false)).header)

pub returns : goal.returns
returns c =
    let w = c.write_mended-frames in
    writes_done _ _ _ c.from.result w.result (sym c.not_ivf.ensures ∙ c.if-not_ivf.false) (sym c.no_room.ensures ∙ c.if-no_room.false) w.ensures
    (c.from.ensures ∙ c.read4.ensures)
