-- Each turn puts one sample in, by the laws of `Putting`.
use Rattle.std.proofs.Common.{refl}
use Rattle.residue.proofs.Areas.{putting_more, putting_all}
use Rattle.residue.proofs.adding.put_block.Goals as goal

pub loop-k-preserved : goal.loop-k-preserved
loop-k-preserved c = putting_more c.requires c.loop-k.invariant c.loop-k-test.true refl

pub returns : goal.returns
returns c = putting_all c.loop-k.invariant c.loop-k-test.false
