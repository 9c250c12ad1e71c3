-- What `y4m_frames::frames::pad_frame` leaves: the three planes, one after another.
use Rattle.y4m_frames.proofs.Calls.{padded_laid}
use Rattle.y4m_frames.proofs.frames.pad_frame.Goals as goal

pub returns : goal.returns
returns c =
    let a = c.args in
    padded_laid a.file.now a.out.now _ _ _ a.s c.requires.room c.pad_plane.ensures c.pad_plane-2.ensures c.pad_plane-3.ensures
