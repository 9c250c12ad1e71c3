-- `finished::whole_finished` meets its contract: what `whole_into` leaves, finished. Assumes nothing.
use Rattle.std.proofs.Common.{refl, ap, ◌∙◌, length, arith}
use Rattle.std.proofs.lemmas.Result.{err_from_is_err_and}
use Rattle.numbers.specs.Outcome.{told}
use Rattle.numbers.proofs.Laws.{not_done}
use Rattle.rfc6386.specs.Refusal.{or_else}
use Rattle.rfc6386.specs.Macroblock.{lent}
use Rattle.residue.specs.Coefficients.{seeded, whole_refusal}
use Rattle.outputs.specs.Laws.{zeros, whole_counted}
use Rattle.threshowl.proofs.Laws.{told_and, whole_left}
use Rattle.threshowl.proofs.Finishing.{codes_are, finishes-refused, finishes-done, none_late, none_own, room_left}
use Rattle.threshowl.proofs.finished.whole_finished.Goals as goal

pub returns-in_err-whole_into : goal.returns-in_err-whole_into
returns-in_err-whole_into c =
    let a = c.args in
    let ref = lent a.y.now a.u.now a.v.now a.sizes in
    let codes = codes_are (told a.codes) (length a.out.now) c.with_late-codes.ensures (ap told c.and-late.ensures ∙ told_and a.fraction c.whole_refusal.result ∙ ap (or_else (told a.fraction)) c.whole_refusal.ensures) in
    let left = whole_left ref a.mb_col a.mb_row a.out.now refl refl codes refl refl c.in_err-whole_into.ensures in
    let p = err_from_is_err_and c.from_residual.result c.from_residual.ensures.1 in
    rw (p.1, p.2) (finishes-refused _ (told a.codes) (or_else (told a.fraction) (whole_refusal a.skip a.coefficients.now)) a.skip (seeded a.coefficients.now) _ left (not_done c.in_err-whole_into.field-0.0))

pub finish_whole-requires : goal.finish_whole-requires
finish_whole-requires c =
    let a = c.args in
    let ref = lent a.y.now a.u.now a.v.now a.sizes in
    let codes = codes_are (told a.codes) (length a.out.now) c.with_late-codes.ensures (ap told c.and-late.ensures ∙ told_and a.fraction c.whole_refusal.result ∙ ap (or_else (told a.fraction)) c.whole_refusal.ensures) in
    let left = whole_left ref a.mb_col a.mb_row a.out.now refl refl codes refl refl c.in_ok-whole_into.ensures in
    let room = room_left _ (told a.codes) (or_else (told a.fraction) (whole_refusal a.skip a.coefficients.now)) a.skip (seeded a.coefficients.now) _ left refl in
    (omega (arith, room), zeros (told a.fraction) _ (none_late _ (told a.codes) (or_else (told a.fraction) (whole_refusal a.skip a.coefficients.now)) a.skip (seeded a.coefficients.now) _ left refl))

pub returns : goal.returns
returns c =
    let a = c.args in
    let ref = lent a.y.now a.u.now a.v.now a.sizes in
    let codes = codes_are (told a.codes) (length a.out.now) c.with_late-codes.ensures (ap told c.and-late.ensures ∙ told_and a.fraction c.whole_refusal.result ∙ ap (or_else (told a.fraction)) c.whole_refusal.ensures) in
    let left = whole_left ref a.mb_col a.mb_row a.out.now refl refl codes refl refl c.in_ok-whole_into.ensures in
    finishes-done _ (told a.codes) (or_else (told a.fraction) (whole_refusal a.skip a.coefficients.now)) a.skip (seeded a.coefficients.now) _ left refl (whole_counted _ _ _ _ _ _ (none_own _ (told a.codes) (or_else (told a.fraction) (whole_refusal a.skip a.coefficients.now)) a.skip (seeded a.coefficients.now) _ left refl)) c.finish_whole.ensures
