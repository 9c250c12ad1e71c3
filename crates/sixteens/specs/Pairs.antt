-- What is made of two windows, and what is clipped of it.
use Rattle.std.specs.Prelude.{List, ℕ, ◌+◌}
use Rattle.rfc6386.specs.declared.FilterSet.{FilterSet}
use Rattle.steps.specs.Tally.{strip_tally}
use Rattle.steps.specs.Window.{window_sample, window_clip, Strips}
use Rattle.steps.specs.declared.way.Way.{Way}
use Rattle.sixteens.specs.declared.pair.Pair.{Pair}

abbrev pub Made : FilterSet → Pair → Way → List ℕ → Type 0
Made set p way = Strips 128 p.rows (window_sample set p.left.now p.l.at p.l.pitch way.mx way.my) (window_sample set p.right.now p.r.at p.r.pitch way.mx way.my)

abbrev pub clipped_of : FilterSet → Pair → Way → ℕ
clipped_of set p way =
    strip_tally p.rows (window_clip set p.left.now p.l.at p.l.pitch way.mx way.my) + strip_tally p.rows (window_clip set p.right.now p.r.at p.r.pitch way.mx way.my)
