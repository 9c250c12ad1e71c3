-- `predict::predict_frame` meets its contract. Assumes nothing.
use Rattle.std.proofs.Common.{refl}
use Rattle.std.proofs.lemmas.Result.{err_from_is_err_and}
use Rattle.numbers.specs.Outcome.{told}
use Rattle.numbers.proofs.Laws.{not_done}
use Rattle.frame.specs.Frame.{planes, asked_of}
use Rattle.frame.proofs.Filling.{fills-refused, fills-done, ready, good}
use Rattle.frame.proofs.predict.predict_frame.Goals as goal

pub returns-in_err-frame_refusal : goal.returns-in_err-frame_refusal
returns-in_err-frame_refusal c =
    let a = c.args in
    let asked = asked_of a.frame a.last_y.now a.last_u.now a.last_v.now a.golden_y.now a.golden_u.now a.golden_v.now a.altref_y.now a.altref_u.now a.altref_v.now a.orders.now in
    let p = err_from_is_err_and c.from_residual.result c.from_residual.ensures.1 in
    rw (p.1, p.2)
    (fills-refused asked (told a.codes) (planes a.out_y.now a.out_u.now a.out_v.now) a.frame.strides c.in_err-frame_refusal.ensures
    (not_done c.in_err-frame_refusal.field-0.0))

pub predict_rows-requires-clause-good : goal.predict_rows-requires-clause-good
predict_rows-requires-clause-good c =
    let a = c.args in
    let asked = asked_of a.frame a.last_y.now a.last_u.now a.last_v.now a.golden_y.now a.golden_u.now a.golden_v.now a.altref_y.now a.altref_u.now a.altref_v.now a.orders.now in
    good asked (told a.codes) (planes a.out_y.now a.out_u.now a.out_v.now) a.frame.strides c.in_ok-frame_refusal.ensures refl

pub predict_rows-requires-clause-ready : goal.predict_rows-requires-clause-ready
predict_rows-requires-clause-ready c =
    let a = c.args in
    let asked = asked_of a.frame a.last_y.now a.last_u.now a.last_v.now a.golden_y.now a.golden_u.now a.golden_v.now a.altref_y.now a.altref_u.now a.altref_v.now a.orders.now in
    ready asked (told a.codes) (planes a.out_y.now a.out_u.now a.out_v.now) a.frame.strides c.in_ok-frame_refusal.ensures refl

pub returns : goal.returns
returns c =
    let a = c.args in
    let asked = asked_of a.frame a.last_y.now a.last_u.now a.last_v.now a.golden_y.now a.golden_u.now a.golden_v.now a.altref_y.now a.altref_u.now a.altref_v.now a.orders.now in
    fills-done asked (told a.codes) (planes a.out_y.now a.out_u.now a.out_v.now) a.frame.strides c.in_ok-frame_refusal.ensures refl c.predict_rows.ensures
