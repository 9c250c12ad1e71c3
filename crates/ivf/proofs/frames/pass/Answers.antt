-- A turn of `ivf::frames::pass`: past the test there is a complete frame, or none and it ends.
use Rattle.std.proofs.Common.{arith, sym, ◌∙◌}
use Rattle.ivf.proofs.Laws.{Completes, completes, lacks, passed_more}
use Rattle.ivf.proofs.frames.pass.Goals as goal

pub loop-frames-preserved : goal.loop-frames-preserved
loop-frames-preserved c =
    let l = c.loop-frames in
    let f = l.frames in
    let next : Completes c.args.file.now f.end c.in-Some.n = completes _ f.end _ (sym c.in-Some.is ∙ c.complete_length.ensures) in
    (passed_more _ f.end f.count _ l.invariant.0 next, omega arith)

pub overflow_add-frames-in-loop-frames : goal.overflow_add-frames-in-loop-frames
overflow_add-frames-in-loop-frames c = omega (arith, c.loop-frames.invariant.0)

pub returns-in_default : goal.returns-in_default
returns-in_default c =
    let l = c.loop-frames in
    record { passed = l.invariant.0; on = l.invariant.1; up_to = λ h. lacks _ _ (sym c.in_default.is ∙ c.complete_length.ensures) }
