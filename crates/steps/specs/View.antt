-- The samples of a view.
use Rattle.std.specs.Prelude.{List, ℕ}
use Rattle.steps.specs.declared.view.View.{View}
use Rattle.steps.specs.Window.{window_list}

-- as a list
abbrev pub view_list : (n : ℕ) → View n → List ℕ
view_list n v = window_list n v.src.now v.window.at v.window.pitch
