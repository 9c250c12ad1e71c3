-- What `ivf::output::stamp` leaves: the count's four bytes in their place.
use Rattle.std.proofs.Common.{◌∙◌, refl}
use Rattle.std.proofs.lemmas.Slice.{put_mid-paste}
use Rattle.ivf.specs.Format.{bytes4}
use Rattle.ivf.specs.Mending.{counted}
use Rattle.ivf.proofs.output.stamp.Goals as goal

pub returns : goal.returns
unfolding counted
returns c = put_mid-paste 24 4 c.args.out.now _ (bytes4 c.args.count) 4 (c.copy_from_slice.ensures.after ∙ c.to_le_bytes.ensures) refl refl
