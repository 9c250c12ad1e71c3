-- What crosses the boundary: codes and flags, and what a call asks for by them.
use Rattle.std.specs.Prelude.{Bool, not, cond, List, ℕ, zero, suc, eqb, ltb, ℤ, Result, Ok, Err}
use Rattle.rfc6386.specs.Vector.{lowering_of, sent}
use Rattle.rfc6386.specs.declared.Lowering.{Lowering}
use Rattle.rfc6386.specs.Refusal.{or_else, code_refusal, count_refusal, room_refusal}
use Rattle.rfc6386.specs.Macroblock.{Reference, lent, whole, split}
use Rattle.rfc6386.specs.Report.{is_one, whole_report, split_report, merging_report, quarters_report}
use Rattle.vector_bytes.specs.Bytes.{vectors_of}
use Rattle.rfc6386.specs.declared.Mv.{Mv}
use Rattle.rfc6386.specs.Answer.{Prediction, Report}
use Rattle.rfc6386.specs.declared.FilterSet.{FilterSet}
use Rattle.rfc6386.specs.declared.FilterSet.TheVariants.{Sixtap, Bilinear}
use Rattle.frame.specs.declared.Frame.{Frame}
use Rattle.numbers.specs.declared.Refusal.{Refusal}
use Rattle.numbers.specs.declared.Refusal.TheVariants.{Orders}
use Rattle.threshowl.specs.declared.report.Kind.{Kind}
use Rattle.threshowl.specs.declared.report.Kind.TheVariants.{Whole, Split, Merging, Quarters}

-- ---- codes
-- a filter's code: six-tap has 0 and bilinear 1
abbrev pub set_of : ℕ → FilterSet
set_of zero = Sixtap
set_of (suc n) = Bilinear

-- flag 0 is off, every other on
abbrev pub flag_of : ℕ → Bool
flag_of n = not (eqb n 0)

-- ---- vectors
-- of a call that is lent its vectors as bytes: 5 comes before 6
abbrev pub codes_refusal : ℕ → ℕ → ℕ
codes_refusal code count = or_else (code_refusal code) (count_refusal 64 count)

-- ---- the prediction that a call asks for
-- the picture that is lent: three planes, the stride of each, and how many macroblocks it has
abbrev pub picture_of : List ℕ → List ℕ → List ℕ → ℕ → ℕ → ℕ → ℕ → ℕ → Reference
picture_of y u v ys us vs cols rows =
    lent y u v (record { y_stride = ys; u_stride = us; v_stride = vs; mb_cols = cols; mb_rows = rows })

-- by codes: whole, of a row and a column, and split, of sixteen vectors as bytes
abbrev pub whole_by : ℕ → ℕ → Reference → ℕ → ℕ → ℤ → ℤ → Prediction
whole_by filter full ref mb-col mb-row row col = whole (set_of filter) (lowering_of (flag_of full)) ref mb-col mb-row (record { row = row; col = col })

abbrev pub split_by : ℕ → ℕ → Reference → ℕ → ℕ → List ℕ → Prediction
split_by filter full ref mb-col mb-row vectors = split (set_of filter) (lowering_of (flag_of full)) ref mb-col mb-row (vectors_of vectors)

-- a report by its kind: 0 whole, by the first vector, 1 split, 2 merging, 3 by quarters; any other is refused with 9, after all else
abbrev pub kind_refusal : ℕ → ℕ
kind_refusal kind = cond (ltb 3 kind) 9 0

-- the kind of a code
abbrev pub kind_coded : ℕ → Result Kind Refusal
kind_coded zero = Ok Whole
kind_coded (suc zero) = Ok Split
kind_coded (suc (suc zero)) = Ok Merging
kind_coded (suc (suc (suc zero))) = Ok Quarters
kind_coded (suc (suc (suc (suc n)))) = Err Orders

-- the kind that a call goes by: merging is whole or split, and a kind that there is not goes by quarters until it is refused
abbrev pub called : Result Kind Refusal → List Mv → Kind
called (Ok Whole) vs = Whole
called (Ok Split) vs = Split
called (Ok Merging) vs = cond (is_one vs) Whole Split
called (Ok Quarters) vs = Quarters
called (Err e) vs = Quarters

abbrev pub report_codes : ℕ → ℕ → ℕ → ℕ → ℕ
report_codes filter count room kind = or_else (codes_refusal filter count) (or_else (room_refusal room) (kind_refusal kind))

abbrev pub report_of : ℕ → FilterSet → Lowering → Reference → ℕ → ℕ → List Mv → Report
report_of zero set low ref mb-col mb-row vs = whole_report set low ref mb-col mb-row (sent vs 0)
report_of (suc zero) set low ref mb-col mb-row vs = split_report set low ref mb-col mb-row vs
report_of (suc (suc zero)) set low ref mb-col mb-row vs = merging_report set low ref mb-col mb-row vs
report_of (suc (suc (suc n))) set low ref mb-col mb-row vs = quarters_report set low ref mb-col mb-row vs

abbrev pub report_by : ℕ → ℕ → ℕ → Reference → ℕ → ℕ → List ℕ → Report
report_by kind filter full ref mb-col mb-row vectors = report_of kind (set_of filter) (lowering_of (flag_of full)) ref mb-col mb-row (vectors_of vectors)

-- a frame: the sizes and strides of its references, codes, and the strides of what is written
abbrev pub frame_of : ℕ → ℕ → ℕ → ℕ → ℕ → ℕ → ℕ → ℕ → ℕ → ℕ → Frame
frame_of ys us vs cols rows filter full out-ys out-us out-vs =
    record {
      sizes = record { y_stride = ys; u_stride = us; v_stride = vs; mb_cols = cols; mb_rows = rows };
      strides = record { y = out-ys; u = out-us; v = out-vs };
      set = set_of filter;
      full_pixel = flag_of full;
    }
