-- `report::threshowl_predict_report` meets its contract: what one of the three calls tells, at what kind, vectors, table and codes are. Assumes nothing.
use Rattle.std.proofs.Common.{sym, ap, ap₂, ◌∙◌, ℕ, length, Result, Ok}
use Rattle.std.specs.Result.{result_and}
use Rattle.numbers.specs.declared.Refusal.{Refusal}
use Rattle.numbers.specs.Outcome.{told}
use Rattle.rfc6386.specs.Vector.{lowering_of}
use Rattle.rfc6386.specs.Refusal.{or_else, room_refusal}
use Rattle.rfc6386.specs.Report.{quarters_report}
use Rattle.rfc6386.specs.declared.Lowering.{Lowering}
use Rattle.vector_bytes.specs.Bytes.{vectors_of}
use Rattle.outputs.specs.Output.{Told, ended_told}
use Rattle.outputs.specs.Laws.{told_as}
use Rattle.threshowl.specs.Boundary.{set_of, flag_of, picture_of, called}
use Rattle.threshowl.specs.declared.report.Kind.{Kind}
use Rattle.threshowl.proofs.Reports.{reported, by_code, by_quarters, refused_code, told_at, said}
use Rattle.threshowl.proofs.report.threshowl_predict_report.Goals as goal
use Rattle.threshowl.proofs.report.threshowl_predict_report.Goals.{in-Whole, in-Split, in_default}

pub returns : goal.returns
returns c =
    let a = c.args in
    let set = c.set_of-set.result in
    let low = c.lowering_of-low.result in
    let ref = picture_of a.y.now a.u.now a.v.now a.y_stride a.u_stride a.v_stride a.mb_cols a.mb_rows in
    let vs = c.mvs_of_bytes-mvs.result in
    let told_by : Told (reported c.called.result set low ref a.mb_col a.mb_row vs) (told c.with_late-codes.result) a.out.now (ended_told c.match-called.ended) c.match-called.out =
    elim c.match-called.branch [
      | in-Whole w ↦ told_at (ap (λ (k : Kind). reported k set low ref a.mb_col a.mb_row vs) (sym w.in-Whole.is)) w.ended-is w.out-is w.whole_into-ended.ensures
      | in-Split w ↦ told_at (ap (λ (k : Kind). reported k set low ref a.mb_col a.mb_row vs) (sym w.in-Split.is)) w.ended-is w.out-is w.split_into-ended.ensures
      | in_default w ↦ told_at (sym (by_quarters set low ref a.mb_col a.mb_row vs c.called.result w.in_default.not-Whole w.in_default.not-Split
          ∙ ap (λ (l : Lowering). quarters_report set l ref a.mb_col a.mb_row vs) c.lowering_of-low.ensures))
          w.ended-is w.out-is w.quarters_into-ended.ensures
    ] in
    let kind = c.called.ensures ∙ ap₂ called c.try_from-kind.ensures c.mvs_of_bytes-mvs.ensures in
    let by =
    (λ i. reported (kind i) (c.set_of-set.ensures i) (c.lowering_of-low.ensures i) ref a.mb_col a.mb_row (c.mvs_of_bytes-mvs.ensures i))
    ∙ by_code (set_of a.filter) (lowering_of (flag_of a.full_pixel)) ref a.mb_col a.mb_row (vectors_of a.vectors.now) a.kind in
    let late = ap told c.and.ensures ∙ ap (λ (k : Result Kind Refusal). told (result_and k (Ok tt))) c.try_from-kind.ensures ∙ refused_code a.kind in
    let codes = c.with_late-codes.ensures ∙ ap₂ (λ (k l : ℕ). or_else k (or_else (room_refusal (length a.out.now)) l)) c.codes_refusal-given.ensures late in
    said c.tell.ensures (told_as by codes told_by)
