-- The loop of `ivf::output::copy_frames`: each turn copies the frames that were passed, and passes on.
use Rattle.std.proofs.Common.{◌-◌, length}
use Rattle.ivf.proofs.Laws.{Copying}
use Rattle.ivf.proofs.output.copy_frames.Given as goal

abbrev pub invariant-loop-done : goal.invariant-loop-done
invariant-loop-done l = Copying l.file l.fn.out l.out l.done l.frames

abbrev pub decreases-loop-done : goal.decreases-loop-done
decreases-loop-done l = length l.file - l.done
