-- `from_levels::threshowl_reconstruct_split_from_levels` meets its contract: its coefficients do for the products. Assumes nothing.
use Rattle.std.proofs.Common.{take}
use Rattle.quantisers.specs.Levels.{split_products}
use Rattle.quantisers.specs.Inner.{SplitOffered}
use Rattle.quantisers.specs.declared.QuantIndices.{QuantIndices}
use Rattle.threshowl.specs.Boundary.{flag_of}
use Rattle.threshowl.proofs.Finishing.{finishes_offered, of_quantiser}
use Rattle.threshowl.proofs.from_levels.threshowl_reconstruct_split_from_levels.Goals as goal

pub returns : goal.returns
returns c =
    let a = c.args in
    let r = c.ranges in
    let made = c.split_coefficients-n in
    let offered =
    of_quantiser (λ (q : QuantIndices). SplitOffered (flag_of a.skip) (split_products q a.levels.now) (take made.result made.new.out))
    r.y_ac_qi r.y_dc_delta r.y2_dc_delta r.y2_ac_delta r.uv_dc_delta r.uv_ac_delta made.ensures.1 in
    finishes_offered 0 offered c.threshowl_reconstruct_split.ensures
