-- What blocks take, in one number that the code adds up: how many samples they fetch (request K8), and above 32 bits the tally of those that are
-- clipped (K14).
use Rattle.std.specs.Prelude.{ℕ, ◌+◌, ◌*◌, length}
use Rattle.rfc6386.specs.Picture.{Plane, image}
use Rattle.rfc6386.specs.Fetched.{block_of}
use Rattle.rfc6386.specs.Clips.{block_clips}
use Rattle.rfc6386.specs.declared.Mv.{Mv}
use Rattle.rfc6386.specs.declared.FilterSet.{FilterSet}
use Rattle.rfc6386.specs.declared.Clips.{Clips}
use Rattle.steps.specs.Tally.{tally_of}

abbrev pub taken : ℕ → Clips → ℕ
taken fetched k = fetched + 4294967296 * tally_of k

-- one block
abbrev pub block_takes : ℕ → FilterSet → Plane → ℕ → ℕ → Mv → ℕ
block_takes n set p x y v = taken (length (block_of n p x y v)) (block_clips n set (image p) x y v)
