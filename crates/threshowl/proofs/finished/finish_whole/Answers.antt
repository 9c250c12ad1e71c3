-- `finished::finish_whole` meets its contract: coefficients that are not refused are those that `seeded` asks for, and seeded those that `finish_samples`
-- asks for. Assumes nothing.
use Rattle.std.proofs.Common.{◌≡◌, sym, ap, ◌∙◌, subst, Bool, false, List, length, ℤ}
use Rattle.residue.specs.Coefficients.{whole_refusal}
use Rattle.residue.specs.Inner.{Open}
use Rattle.residue.proofs.Refused.{Whole, whole_accepted, open-seeded, length-seeded}
use Rattle.threshowl.proofs.finished.finish_whole.Goals as goal

accepted : (c : List ℤ) {skip : Bool} → skip ≡ false → whole_refusal skip c ≡ 0 → (length c ≡ 400) × Whole c
accepted c e h = whole_accepted c (ap (λ (s : Bool). whole_refusal s c) (sym e) ∙ h)

pub seeded-x-requires-clause-c_len : goal.seeded-x-requires-clause-c_len
seeded-x-requires-clause-c_len c = (accepted c.args.c.now c.if-skip.false c.requires.1).0

pub seeded-x-requires-clause-low : goal.seeded-x-requires-clause-low
seeded-x-requires-clause-low c = (accepted c.args.c.now c.if-skip.false c.requires.1).1.y2

pub finish_samples-requires-clause-c_len : goal.finish_samples-requires-clause-c_len
finish_samples-requires-clause-c_len c =
    let a = accepted c.args.c.now c.if-skip.false c.requires.1 in
    let e = c.seeded-x.ensures in
    (ap length e ∙ length-seeded c.args.c.now, subst (λ (l : List ℤ). Open l 0 384) (sym e) (open-seeded a.1))
