-- `samples::write_samples` meets its contract. Three copies, one after the other. Assumes nothing.
use Rattle.std.proofs.Common.{◌≡◌, length, rules, arith}
use Rattle.std.proofs.lemmas.List.{length-take-le}
use Rattle.outputs.proofs.Laws.{put_three}
use Rattle.outputs.proofs.samples.write_samples.Goals as goal

pub slice_bounds-copy_from_slice-end-2 : goal.slice_bounds-copy_from_slice-end-2
slice_bounds-copy_from_slice-end-2 c = omega (arith, length-take-le 256 c.args.out.now (omega arith))

pub copy_from_slice-requires : goal.copy_from_slice-requires
copy_from_slice-requires c =
    let y : length c.args.samples.y ≡ 256 = search rules in
    omega (arith, length-take-le 256 c.args.out.now (omega arith))

pub returns : goal.returns
returns c =
    let s = c.args.samples in
    put_three s.y s.u s.v c.args.out.now (search rules) (search rules) (search rules) c.requires c.copy_from_slice.ensures.after
    c.copy_from_slice-2.ensures.after c.copy_from_slice-3.ensures.after
