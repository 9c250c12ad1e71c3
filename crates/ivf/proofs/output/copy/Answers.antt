-- A turn of `ivf::output::copy` copies a byte.
use Rattle.std.proofs.Common.{arith}
use Rattle.std.proofs.Math.ListN.{length-set}
use Rattle.ivf.proofs.Laws.{copy_more}
use Rattle.ivf.proofs.output.copy.Goals as goal

pub loop-i-preserved : goal.loop-i-preserved
loop-i-preserved c =
    let l = c.loop-i in
    let a = c.args in
    (omega arith, simp length-set (omega arith), copy_more a.out.now l.out a.file.now a.from l.i (omega arith) (omega arith) l.invariant.2)
