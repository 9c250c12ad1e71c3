-- `fetch::whole_pixel` passes on the refusal of the plane, or gives the samples and what they fetched.
use Rattle.std.proofs.Common.{ap, ◌∙◌, length}
use Rattle.rfc6386.specs.Picture.{image, pixels}
use Rattle.rfc6386.specs.Fetched.{pixels_of}
use Rattle.rfc6386.specs.Answer.{FetchAnswer, fetch_told}
use Rattle.filters.proofs.Told.{passed_on, answer-refused, answer-done}
use Rattle.blocks.proofs.Fetches.{tested_is}
use Rattle.blocks.proofs.fetch.whole_pixel.Goals as goal

pub returns-in_err-lent : goal.returns-in_err-lent
returns-in_err-lent g c =
    ap fetch_told (passed_on c.from_residual.result c.in_err-lent.field-0.0 c.from_residual.ensures.1)
    ∙ answer-refused {A = FetchAnswer} (λ n l k. record { number = n; samples = l; fetched = k }) g.row.AREA _ _ 0 c.in_err-lent.field-0.0 c.in_err-lent.ensures.refusal

pub returns : goal.returns
returns g c =
    answer-done {A = FetchAnswer} (λ n l k. record { number = n; samples = l; fetched = k }) g.row.AREA _ _ 0 c.in_ok-lent.ensures.refusal
    (c.pixels_of-samples.ensures.value ∙ tested_is (λ p x y. pixels g.row.SIDE (image p) x y c.args.mv) c.in_ok-lent.lent c.in_ok-lent.ensures.lent)
    (c.pixels_of-samples.ensures.fetched_after ∙ tested_is (λ p x y. length (pixels_of g.row.SIDE p x y c.args.mv)) c.in_ok-lent.lent c.in_ok-lent.ensures.lent)
