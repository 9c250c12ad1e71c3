-- What `y4m_frames::frames::crop_frame` leaves: the mark and the three planes, one after another.
use Rattle.y4m_frames.proofs.Calls.{cropped_laid}
use Rattle.y4m_frames.proofs.frames.crop_frame.Goals as goal

pub returns : goal.returns
returns c =
    let a = c.args in
    cropped_laid a.frame.now a.out.now _ _ _ _ a.s c.requires.room c.copy.ensures c.crop_plane.ensures c.crop_plane-2.ensures c.crop_plane-3.ensures
