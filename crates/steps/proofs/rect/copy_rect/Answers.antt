-- The loop writes the rows, one a turn, by the laws of `Writing`. `Room` has `some`, one column or more: with none, a stride of 0 would fit any
-- row, and y + r could wrap.
use Rattle.steps.proofs.Laws.Copying.{writing_none, writing_more, writing_all}
use Rattle.steps.proofs.rect.copy_rect.Goals as goal

pub loop-r-init : goal.loop-r-init
loop-r-init c = writing_none

pub loop-r-preserved : goal.loop-r-preserved
loop-r-preserved c = writing_more c.loop-r.invariant c.requires.room.across c.loop-r-test.true c.copy_row.ensures

pub returns : goal.returns
returns c = writing_all c.loop-r.invariant c.loop-r-test.false
