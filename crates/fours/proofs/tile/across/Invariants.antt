-- So many copies of the window's middle rows are there.
use Rattle.std.proofs.Common.{◌+◌, ◌*◌}
use Rattle.fours.proofs.Gathering.{alone_of, Gathered}
use Rattle.fours.proofs.tile.across.Given as goal

abbrev pub invariant-loop-k : goal.invariant-loop-k
invariant-loop-k l = Gathered (alone_of 4 4 4 6) l.view.src.now (l.view.window.at + 2 * l.view.window.pitch) l.view.window.pitch l.a l.k
