-- What `ivf::mend::no_room` says: with room for the file there is room for what is kept, and otherwise the frames are passed.
use Rattle.std.proofs.Common.{sym, ap, arith, ltb, le-ltb}
use Rattle.ivf.specs.Mending.{kept, no_room}
use Rattle.ivf.proofs.Definitions.{kept_lies}
use Rattle.ivf.specs.declared.frames.Frames.{Frames}
use Rattle.ivf.proofs.Laws.{passed_none, passed_file}
use Rattle.ivf.proofs.mend.no_room.Goals as goal

pub returns-then-file-room : goal.returns-then-file-room
unfolding no_room
returns-then-file-room c =
    let a = c.args in
    let k = kept_lies a.file.now (omega arith) in
    sym (le-ltb a.room (kept a.file.now) (omega arith))

pub pass-frames-requires : goal.pass-frames-requires
pass-frames-requires c = passed_none _ (omega arith)

pub returns : goal.returns
unfolding no_room
returns c = ap (λ (f : Frames). ltb c.args.room f.end) (passed_file _ c.pass-frames.result c.pass-frames.ensures)
