-- What `y4m_frames::frames::read_frame` reports and leaves: the tests in their order, and the padded frame.
use Rattle.std.proofs.Common.{refl, sym, ap, ◌∙◌, arith, length, eqb-true}
use Rattle.std.proofs.lemmas.Bool.{eqb-false}
use Rattle.y4m_frames.specs.Frames.{frame_length, padded_samples}
use Rattle.y4m_frames.proofs.Calls.{read_1, read_end, read_13, read_14, read_7, reads-stopped, reads_done}
use Rattle.y4m_frames.specs.declared.planes.Sizes.{Sizes}
use Rattle.y4m_frames.proofs.frames.read_frame.Goals as goal

pub returns-then-not-are_sizes : goal.returns-then-not-are_sizes
returns-then-not-are_sizes c =
    let a = c.args in
    reads-stopped a.file.now a.out.now _ _ _ _
    (read_1 a.file.now a.width a.height (length a.out.now) (sym c.are_sizes.ensures ∙ c.if-not-are_sizes.true))
    refl

pub returns-then-is_empty : goal.returns-then-is_empty
returns-then-is_empty c =
    let a = c.args in
    reads-stopped a.file.now a.out.now _ _ _ _
    (read_end a.file.now a.width a.height (length a.out.now) (sym c.are_sizes.ensures ∙ c.if-not-are_sizes.false) (eqb-true (length a.file.now) 0 (sym c.if-is_empty.ensures)))
    refl

pub returns-then-not-marked : goal.returns-then-not-marked
returns-then-not-marked c =
    let a = c.args in
    reads-stopped a.file.now a.out.now _ _ _ _
    (read_13 a.file.now a.width a.height (length a.out.now) (sym c.are_sizes.ensures ∙ c.if-not-are_sizes.false) (eqb-false (length a.file.now) 0 (sym c.if-is_empty.ensures))
    (sym c.marked.ensures ∙ c.if-not-marked.true))
    refl

pub returns-then-file-n : goal.returns-then-file-n
returns-then-file-n c =
    let a = c.args in
    reads-stopped a.file.now a.out.now _ _ _ _
    (read_14 a.file.now a.width a.height (length a.out.now) (sym c.are_sizes.ensures ∙ c.if-not-are_sizes.false) (eqb-false (length a.file.now) 0 (sym c.if-is_empty.ensures))
    (sym c.marked.ensures ∙ c.if-not-marked.false)
    (omega (arith, ap (λ (x : Sizes). frame_length x) c.sizes_of-s.ensures.is)))
    refl

pub returns-then-out-padded_samples : goal.returns-then-out-padded_samples
returns-then-out-padded_samples c =
    let a = c.args in
    reads-stopped a.file.now a.out.now _ _ _ _
    (read_7 a.file.now a.width a.height (length a.out.now) (sym c.are_sizes.ensures ∙ c.if-not-are_sizes.false) (eqb-false (length a.file.now) 0 (sym c.if-is_empty.ensures))
    (sym c.marked.ensures ∙ c.if-not-marked.false)
    (omega (arith, ap (λ (x : Sizes). frame_length x) c.sizes_of-s.ensures.is))
    (omega (arith, ap (λ (x : Sizes). padded_samples x) c.sizes_of-s.ensures.is)))
    refl

pub returns : goal.returns
returns c =
    let a = c.args in
    reads_done a.file.now a.out.now _ a.width a.height _ c.sizes_of-s.result (sym c.are_sizes.ensures ∙ c.if-not-are_sizes.false) (eqb-false (length a.file.now) 0 (sym c.if-is_empty.ensures))
    (sym c.marked.ensures ∙ c.if-not-marked.false) c.sizes_of-s.ensures.is c.frame_length-n.ensures (omega arith) (omega arith)
    c.pad_frame.ensures
