-- What `y4m_frames::frames::write_frame` reports and leaves: the tests in their order, and the file's frame.
use Rattle.std.proofs.Common.{refl, sym, ap, ◌∙◌, arith, length}
use Rattle.y4m_frames.specs.Frames.{frame_length, padded_samples}
use Rattle.y4m_frames.proofs.Calls.{write_1, write_14, write_7, writes-stopped, writes_done}
use Rattle.y4m_frames.specs.declared.planes.Sizes.{Sizes}
use Rattle.y4m_frames.proofs.frames.write_frame.Goals as goal

pub returns-then-not-are_sizes : goal.returns-then-not-are_sizes
returns-then-not-are_sizes c =
    let a = c.args in
    writes-stopped a.frame.now a.out.now _ _ _ _
    (write_1 a.frame.now a.width a.height (length a.out.now) (sym c.are_sizes.ensures ∙ c.if-not-are_sizes.true))
    refl

pub returns-then-frame-padded_samples : goal.returns-then-frame-padded_samples
returns-then-frame-padded_samples c =
    let a = c.args in
    writes-stopped a.frame.now a.out.now _ _ _ _
    (write_14 a.frame.now a.width a.height (length a.out.now) (sym c.are_sizes.ensures ∙ c.if-not-are_sizes.false)
    (omega (arith, ap (λ (x : Sizes). padded_samples x) c.sizes_of-s.ensures.is)))
    refl

pub returns-then-out-n : goal.returns-then-out-n
returns-then-out-n c =
    let a = c.args in
    writes-stopped a.frame.now a.out.now _ _ _ _
    (write_7 a.frame.now a.width a.height (length a.out.now) (sym c.are_sizes.ensures ∙ c.if-not-are_sizes.false)
    (omega (arith, ap (λ (x : Sizes). padded_samples x) c.sizes_of-s.ensures.is))
    (omega (arith, ap (λ (x : Sizes). frame_length x) c.sizes_of-s.ensures.is)))
    refl

pub returns : goal.returns
returns c =
    let a = c.args in
    writes_done a.frame.now a.out.now _ a.width a.height _ c.sizes_of-s.result (sym c.are_sizes.ensures ∙ c.if-not-are_sizes.false) c.sizes_of-s.ensures.is
    (omega arith) c.frame_length-n.ensures (omega arith) c.crop_frame.ensures
