-- What `y4m_frames::rows::copy` leaves: n elements laid over the output.
use Rattle.std.proofs.Common.{refl, arith}
use Rattle.y4m_frames.proofs.Puts.{laid_none, laid_more, laid_all}
use Rattle.y4m_frames.proofs.rows.copy.Goals as goal

pub loop-i-init : goal.loop-i-init
loop-i-init c = (omega arith, laid_none _ _ _)

pub loop-i-preserved : goal.loop-i-preserved
loop-i-preserved c = (omega arith, laid_more _ _ _ _ _ _ (omega arith) refl c.loop-i.invariant.1)

pub returns : goal.returns
returns c = laid_all _ _ _ _ _ _ (omega arith) c.loop-i.invariant.1
