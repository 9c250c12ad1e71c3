-- `square::halo_of` fetches the halo of the block, into all of its samples. Assumes nothing.
use Rattle.std.proofs.Common.{ℕ, ◌+◌, ◌∙◌, arith}
use Rattle.std.proofs.lemmas.List.{length-replicate}
use Rattle.steps.proofs.Laws.Windows.{put_whole}
use Rattle.blocks.proofs.Squares.{square_as, square_size}
use Rattle.blocks.proofs.Windows.{fetched_alike}
use Rattle.blocks.proofs.Fetches.{halo_placed, accepted, lent_x, lent_y, source_of}
use Rattle.blocks.proofs.square.halo_of.Goals as goal

pub origin-x0-requires : goal.origin-x0-requires
origin-x0-requires g c = lent_x c.args.lent

pub origin-y0-requires : goal.origin-y0-requires
origin-y0-requires g c = lent_y c.args.lent

pub fetch-requires-clause-source : goal.fetch-requires-clause-source
fetch-requires-clause-source g c =
    let x0 = halo_placed _ c.args.mv.col c.origin-x0.result (lent_x c.args.lent) (omega arith) c.origin-x0.type_inv c.origin-x0.ensures in
    let y0 = halo_placed _ c.args.mv.row c.origin-y0.result (lent_y c.args.lent) (omega arith) c.origin-y0.type_inv c.origin-y0.ensures in
    source_of (accepted c.args.lent) x0 y0 (omega arith, omega arith, omega arith, omega arith)

pub returns-clause-value : goal.returns-clause-value
returns-clause-value g c =
    let x0 = halo_placed _ c.args.mv.col c.origin-x0.result (lent_x c.args.lent) (omega arith) c.origin-x0.type_inv c.origin-x0.ensures in
    let y0 = halo_placed _ c.args.mv.row c.origin-y0.result (lent_y c.args.lent) (omega arith) c.origin-y0.type_inv c.origin-y0.ensures in
    square_as x0 y0 _ _ (c.fetch.ensures.out_after ∙ put_whole (g.row.SIDE + 5) _ _ (omega (arith, length-replicate {A = ℕ}, c.requires.area)) (square_size (g.row.SIDE + 5) _ _ _))

pub returns-clause-fetched_after : goal.returns-clause-fetched_after
returns-clause-fetched_after g c = c.fetch.ensures.value ∙ fetched_alike _ _ _ _ _ _ _ _ _
