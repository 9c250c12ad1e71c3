-- So many copies of each window's middle rows are there, side by side.
use Rattle.std.proofs.Common.{◌+◌, ◌*◌}
use Rattle.fours.proofs.Pairs.{Paired}
use Rattle.fours.proofs.pair.across.Given as goal

abbrev pub invariant-loop-k : goal.invariant-loop-k
invariant-loop-k l = Paired 4 4 4 6 l.u.src.now (l.u.window.at + 2 * l.u.window.pitch) l.u.window.pitch l.v.src.now (l.v.window.at + 2 * l.v.window.pitch) l.v.window.pitch l.a l.k
