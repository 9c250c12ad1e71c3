-- Each number with its sum, its shift and its cast.
use Rattle.std.proofs.Common.{refl, le_refl, ℕ, ◌≤◌, ℤ, pos, nat_abs, w16, w32}
use Rattle.signed.specs.Held.{Held, Within, size-within, put, fits_in, add, shr, cast}
use Rattle.residue.specs.Transform.{eighth}
use Rattle.residue.proofs.Passes.{kept, row_of}
use Rattle.residue.proofs.transform.eighths.Goals as goal

abbrev input : {z : ℤ} → nat_abs z ≤ 262128 → Held w32 z 262128 262128
input h = kept refl (size-within h) tt

abbrev done : {n : ℕ} {z : ℤ} → Held w32 (pos n) 4 0 → Held w32 z 262128 262128 → Held w16 (eighth n z) 32766 32766
done {n} {z} k h = let part : Held w32 (eighth n z) 32766 32766 = shr (add h k tt) 7 tt in cast part tt

pub returns : goal.returns
returns c =
    let n = nat_abs c.args.half in
    let b : Within (pos n) 4 0 = record { up_le = c.requires.half_bound.1; dn_le = le_refl 0 } in
    let k : Held w32 (pos n) 4 0 = put c.args.half c.requires.half_bound.0 b (fits_in b tt) in
    let s = c.requires.small in
    row_of (done k (input s.first)).is (done k (input s.second)).is (done k (input s.third)).is (done k (input s.fourth)).is
