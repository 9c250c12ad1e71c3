-- The plane of what is lent.
use Rattle.rfc6386.specs.Picture.{Plane}
use Rattle.blocks.specs.Places.{plane_at}
use Rattle.blocks.specs.declared.lent.Lent.{Lent}

abbrev pub plane_in : Lent → Plane
plane_in l = plane_at l.plane.now l.at
