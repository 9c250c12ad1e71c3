-- The part lies in the view, whose row `down` does, and so do the rows below it.
use Rattle.std.proofs.Common.{◌+◌, arith}
use Rattle.std.proofs.Math.Nat.{add-mul}
use Rattle.steps.proofs.rect.copy_part.Goals as goal

pub overflow_mul-window : goal.overflow_mul-window
overflow_mul-window g c = let a = c.args in omega (arith, a.view.held a.down (omega arith))

pub overflow_add-window : goal.overflow_add-window
overflow_add-window g c = let a = c.args in omega (arith, a.view.held a.down (omega arith))

pub overflow_add-window-2 : goal.overflow_add-window-2
overflow_add-window-2 g c = let a = c.args in omega (arith, a.view.held a.down (omega arith))

pub copy_rect-requires-clause-held : goal.copy_rect-requires-clause-held
copy_rect-requires-clause-held g c = let a = c.args in λ r h. omega (arith, a.view.held (a.down + r) (omega arith), add-mul a.down r a.view.window.pitch)
