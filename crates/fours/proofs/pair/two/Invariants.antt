-- So many copies of each window are there, side by side.
use Rattle.fours.proofs.Pairs.{Paired}
use Rattle.fours.proofs.pair.two.Given as goal

abbrev pub invariant-loop-k : goal.invariant-loop-k
invariant-loop-k l = Paired 4 9 10 6 l.u.src.now l.u.window.at l.u.window.pitch l.v.src.now l.v.window.at l.v.window.pitch l.a l.k
