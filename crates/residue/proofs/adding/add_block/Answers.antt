-- What is taken out, added to and put back is the sum in place.
use Rattle.residue.specs.Transform.{at}
use Rattle.residue.proofs.Areas.{added}
use Rattle.residue.proofs.adding.add_block.Goals as goal

pub returns : goal.returns
returns c = added (λ k. at c.args.z k) c.args.d.now c.args.spot c.take_block-p.ensures c.add_residue.ensures c.put_block.ensures
