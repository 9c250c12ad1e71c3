-- `two_rows::lay_two`: the loop lays an element of each row a turn.
use Rattle.sixteens.specs.Calls.{LaidTwo}
use Rattle.sixteens.proofs.two_rows.lay_two.Given as goal

abbrev pub invariant-loop-c : goal.invariant-loop-c
invariant-loop-c g l = LaidTwo (goal.F-post g l.first) (goal.G-post g l.second) l.fn.out l.to l.off l.c l.out
