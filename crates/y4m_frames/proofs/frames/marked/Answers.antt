-- What `y4m_frames::frames::marked` says: of the file's first six bytes, as of the mark's.
use Rattle.std.proofs.Common.{◌∙◌, take}
use Rattle.std.proofs.lemmas.Cmp.{nat_list_eq_equiv}
use Rattle.y4m_header.proofs.Laws.{equal_is}
use Rattle.y4m_frames.specs.Frames.{frame_mark}
use Rattle.y4m_frames.proofs.frames.marked.Goals as goal

pub returns : goal.returns
returns c =
    let front = take 6 c.args.file.now in
    c.starts_with.ensures.value ∙ nat_list_eq_equiv.symm frame_mark front ∙ equal_is front frame_mark
