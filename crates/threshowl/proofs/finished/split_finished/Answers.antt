-- `finished::split_finished` meets its contract: what `split_into` leaves, finished. Assumes nothing.
use Rattle.std.proofs.Common.{refl, length, arith}
use Rattle.std.proofs.lemmas.Result.{err_from_is_err_and}
use Rattle.numbers.specs.Outcome.{told}
use Rattle.numbers.proofs.Laws.{not_done}
use Rattle.rfc6386.specs.Macroblock.{lent}
use Rattle.residue.specs.Coefficients.{split_refusal}
use Rattle.outputs.specs.Laws.{split_counted}
use Rattle.threshowl.proofs.Laws.{split_left}
use Rattle.threshowl.proofs.Finishing.{codes_are, finishes-refused, finishes-done, none_late, none_own, room_left}
use Rattle.threshowl.proofs.finished.split_finished.Goals as goal

pub returns-in_err-split_into : goal.returns-in_err-split_into
returns-in_err-split_into c =
    let a = c.args in
    let ref = lent a.y.now a.u.now a.v.now a.sizes in
    let codes = codes_are (told a.codes) (length a.out.now) c.with_late-codes.ensures c.split_refusal.ensures in
    let left = split_left ref a.mb_col a.mb_row a.out.now refl refl codes refl refl c.in_err-split_into.ensures in
    let p = err_from_is_err_and c.from_residual.result c.from_residual.ensures.1 in
    rw (p.1, p.2) (finishes-refused _ (told a.codes) (split_refusal a.skip a.coefficients.now) a.skip a.coefficients.now _ left (not_done c.in_err-split_into.field-0.0))

pub finish_split-requires : goal.finish_split-requires
finish_split-requires c =
    let a = c.args in
    let ref = lent a.y.now a.u.now a.v.now a.sizes in
    let codes = codes_are (told a.codes) (length a.out.now) c.with_late-codes.ensures c.split_refusal.ensures in
    let left = split_left ref a.mb_col a.mb_row a.out.now refl refl codes refl refl c.in_ok-split_into.ensures in
    let room = room_left _ (told a.codes) (split_refusal a.skip a.coefficients.now) a.skip a.coefficients.now _ left refl in
    (omega (arith, room), none_late _ (told a.codes) (split_refusal a.skip a.coefficients.now) a.skip a.coefficients.now _ left refl)

pub returns : goal.returns
returns c =
    let a = c.args in
    let ref = lent a.y.now a.u.now a.v.now a.sizes in
    let codes = codes_are (told a.codes) (length a.out.now) c.with_late-codes.ensures c.split_refusal.ensures in
    let left = split_left ref a.mb_col a.mb_row a.out.now refl refl codes refl refl c.in_ok-split_into.ensures in
    finishes-done _ (told a.codes) (split_refusal a.skip a.coefficients.now) a.skip a.coefficients.now _ left refl (split_counted _ _ _ _ _ _ (none_own _ (told a.codes) (split_refusal a.skip a.coefficients.now) a.skip a.coefficients.now _ left refl)) c.finish_split.ensures
