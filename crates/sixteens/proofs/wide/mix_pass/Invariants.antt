-- `wide::mix_pass`: the loop leaves two rows a turn, eight apart.
use Rattle.steps.specs.Window.{mix_at}
use Rattle.sixteens.proofs.Rows16.{Halved}
use Rattle.sixteens.proofs.wide.mix_pass.Given as goal

abbrev pub invariant-loop-r : goal.invariant-loop-r
invariant-loop-r l = Halved (mix_at l.t l.src l.window.at l.window.pitch l.gap) l.out l.r
