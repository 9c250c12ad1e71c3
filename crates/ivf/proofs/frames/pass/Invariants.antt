-- The loop of `ivf::frames::pass`: the frames up to their end are passed, and each turn passes one frame.
use Rattle.std.proofs.Common.{◌-◌, ◌≤◌, length}
use Rattle.ivf.specs.Inner.{Passed}
use Rattle.ivf.proofs.frames.pass.Given as goal

abbrev pub invariant-loop-frames : goal.invariant-loop-frames
invariant-loop-frames l = Passed l.file l.frames.end l.frames.count × (l.fn.passed.end ≤ l.frames.end)

abbrev pub decreases-loop-frames : goal.decreases-loop-frames
decreases-loop-frames l = length l.file - l.frames.end
