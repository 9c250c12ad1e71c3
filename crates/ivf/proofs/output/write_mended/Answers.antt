-- What `ivf::output::write_mended` leaves: the copy, then the count over it.
use Rattle.std.proofs.Common.{◌<◌, arith, ap}
use Rattle.ivf.proofs.Definitions.{kept_lies}
use Rattle.ivf.specs.declared.frames.Frames.{Frames}
use Rattle.ivf.proofs.Laws.{counted-copied}
use Rattle.ivf.proofs.output.write_mended.Goals as goal

pub stamp-requires : goal.stamp-requires
stamp-requires c = let lies = kept_lies c.args.file.now (omega arith) in omega arith

pub overflow_cast-frames : goal.overflow_cast-frames
overflow_cast-frames c =
    let lies = kept_lies c.args.file.now (omega arith) in
    let count = ap (λ (f : Frames). f.count) c.copy_frames-frames.ensures.frames_are in
    let h : c.copy_frames-frames.result.count < 4294967296 = omega (arith, lies.long, lies.inside, c.requires.sized.limit, count) in
    record { fits = h }

pub returns : goal.returns
returns c =
    let copies = c.copy_frames-frames in
    counted-copied _ _ _ _ copies.result c.requires.sized copies.ensures c.stamp.ensures
