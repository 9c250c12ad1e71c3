-- The part, by the three numbers that the shift can leave.
use Rattle.std.proofs.Common.{ap, ◌∙◌, ℤ, pos, of_z, w16}
use Rattle.std.specs.Int.Bits.{bit_and}
use Rattle.std.specs.Int.Signed.{shr_z}
use lib.Bits.{and_le_r}
use Rattle.signed.specs.Held.{Held, par_in, nat_at, nat}
use Rattle.steps.proofs.Laws.Counting.{part_is}
use Rattle.steps.proofs.step.part_of.Goals as goal

pub returns : goal.returns
returns c =
    let arg = par_in c.ranges.v c.requires in
    let n = bit_and (of_z w16 (shr_z arg.val 256)) 513 in
    let bits : Held w16 (pos n) 513 0 = nat_at n 513 (and_le_r (of_z w16 (shr_z arg.val 256)) 513) tt in
    nat bits ∙ ap (λ (z : ℤ). bit_and (of_z w16 (shr_z z 256)) 513) arg.is ∙ part_is c.args.v c.requires
