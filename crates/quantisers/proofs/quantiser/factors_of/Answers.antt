-- The tables of the code are those of the definition, and the tables' rule bounds their steps.
use Rattle.std.proofs.Common.{◌≡◌, ap, ap₂, ◌∙◌, arith, List, ℕ, ◌*◌, ◌^◌, ◌<◌, ℤ, pos, w32, to_z, of_z}
use Rattle.std.specs.Int.Signed.{mag}
use Rattle.signed.specs.Held.{got}
use Rattle.quantisers.specs.Factors.{dc_steps, ac_steps, step_at, y2_ac_of, uv_dc_of, factors_of}
use Rattle.quantisers.proofs.Tables.{dc_table, ac_table}
use Rattle.quantisers.proofs.Ranges.{step_from}
use Rattle.quantisers.proofs.quantiser.factors_of.Goals as goal

-- a step, its base and delta read from their bits
read : (steps : List ℕ) {s : ℕ} (base delta : ℤ) → mag base < 2 ^ 31 → mag delta < 2 ^ 31 → s ≡ step_at steps (to_z w32 (of_z w32 base)) (to_z w32 (of_z w32 delta))
    → s ≡ step_at steps base delta
read steps base delta f g e = e ∙ ap₂ (step_at steps) (got w32 base f).is (got w32 delta g).is

pub overflow_mul-y2_dc : goal.overflow_mul-y2_dc
unfolding dc_steps
overflow_mul-y2_dc c =
    let q = c.args.q in
    let e : c.step-y2_dc.result ≡ step_at dc_steps q.y_ac_qi q.y2_dc_delta = read dc_steps q.y_ac_qi q.y2_dc_delta (omega arith) (omega arith) c.step-y2_dc.ensures in
    omega (arith, e, (step_from dc_table q.y_ac_qi q.y2_dc_delta).most)

pub y2_ac_of-y2_ac-requires : goal.y2_ac_of-y2_ac-requires
unfolding ac_steps
y2_ac_of-y2_ac-requires c =
    let q = c.args.q in
    let e : c.step.result ≡ step_at ac_steps q.y_ac_qi q.y2_ac_delta = read ac_steps q.y_ac_qi q.y2_ac_delta (omega arith) (omega arith) c.step.ensures in
    omega (arith, e, (step_from ac_table q.y_ac_qi q.y2_ac_delta).most)

pub returns : goal.returns
unfolding factors_of dc_steps ac_steps
returns c =
    let q = c.args.q in
    let base : mag q.y_ac_qi < 2 ^ 31 = omega arith in
    let y_dc = read dc_steps q.y_ac_qi q.y_dc_delta base (omega arith) c.step-y_dc.ensures in
    let y_ac = read ac_steps q.y_ac_qi (pos 0) base (omega arith) c.step-y_ac.ensures in
    let y2_dc = read dc_steps q.y_ac_qi q.y2_dc_delta base (omega arith) c.step-y2_dc.ensures in
    let y2_ac = c.y2_ac_of-y2_ac.ensures ∙ ap y2_ac_of (read ac_steps q.y_ac_qi q.y2_ac_delta base (omega arith) c.step.ensures) in
    let uv_dc = c.uv_dc_of-uv_dc.ensures ∙ ap uv_dc_of (read dc_steps q.y_ac_qi q.uv_dc_delta base (omega arith) c.step-2.ensures) in
    let uv_ac = read ac_steps q.y_ac_qi q.uv_ac_delta base (omega arith) c.step-uv_ac.ensures in
    λ i. record { y_dc = y_dc i; y_ac = y_ac i; y2_dc = y2_dc i * 2; y2_ac = y2_ac i; uv_dc = uv_dc i; uv_ac = uv_ac i }
