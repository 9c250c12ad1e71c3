-- So many copies of the window are there.
use Rattle.fours.proofs.Gathering.{alone_of, Gathered}
use Rattle.fours.proofs.tile.two.Given as goal

abbrev pub invariant-loop-k : goal.invariant-loop-k
invariant-loop-k l = Gathered (alone_of 4 9 10 6) l.view.src.now l.view.window.at l.view.window.pitch l.a l.k
