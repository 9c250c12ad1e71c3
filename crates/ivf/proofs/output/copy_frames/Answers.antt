-- What `ivf::output::copy_frames` leaves: a turn copies what was passed, and at the end all is copied.
use Rattle.std.proofs.Common.{arith}
use Rattle.ivf.proofs.Laws.{passed_none, copying_more, copying_all}
use Rattle.ivf.proofs.output.copy_frames.Goals as goal

pub pass-frames-requires : goal.pass-frames-requires
pass-frames-requires c = passed_none _ (omega arith)

pub loop-done-preserved : goal.loop-done-preserved
loop-done-preserved c =
    let l = c.loop-done in
    copying_more _ _ l.out _ l.done l.frames _ l.invariant c.copy.ensures (omega arith) c.pass-frames-in-loop-done.ensures

pub returns : goal.returns
returns c = let l = c.loop-done in copying_all _ _ l.out l.done l.frames l.invariant (omega arith)
