-- `numbered::output_refusal` meets its contract. Assumes nothing.
use Rattle.std.proofs.Common.{ap, ◌∙◌}
use Rattle.numbers.specs.Outcome.{told}
use Rattle.frame.specs.Laws.{output_told}
use Rattle.frame.specs.Inner.{planes_in}
use Rattle.frame.proofs.Numbers.{seven}
use Rattle.frame.proofs.numbered.output_refusal.Goals as goal

pub returns : goal.returns
returns c =
    let a = c.args in
    ap told c.or.ensures ∙ seven c.refusal.result ∙ output_told (planes_in a.out) a.strides a.sizes c.requires (told c.refusal.result) c.refusal.ensures
