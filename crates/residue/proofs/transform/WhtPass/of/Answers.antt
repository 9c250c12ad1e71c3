-- Each step of the code with its range.
use Rattle.std.proofs.Common.{refl, ℤ, ◌+ℤ◌, ◌-ℤ◌, ◌≤◌, nat_abs, w32}
use Rattle.signed.specs.Held.{Held, size-within, add, sub, add_need, sub_need}
use Rattle.residue.specs.Inner.{Small}
use Rattle.residue.proofs.Passes.{kept, four}
use Rattle.residue.specs.declared.transform.Four.{Four}
use Rattle.residue.proofs.transform.WhtPass.of.Goals as goal

abbrev input : (z : ℤ) → nat_abs z ≤ 65532 → Held w32 z 65532 65532
input z h = kept refl (size-within h) tt

module _ (q : Four) (s : Small 65532 q.0 q.1 q.2 q.3) where
  abbrev outer : Held w32 (q.0 +ℤ q.3) 131064 131064
  outer = add (input q.0 s.first) (input q.3 s.fourth) tt

  abbrev inner : Held w32 (q.1 +ℤ q.2) 131064 131064
  inner = add (input q.1 s.second) (input q.2 s.third) tt

  abbrev inner_rest : Held w32 (q.1 -ℤ q.2) 131064 131064
  inner_rest = sub (input q.1 s.second) (input q.2 s.third) tt

  abbrev outer_rest : Held w32 (q.0 -ℤ q.3) 131064 131064
  outer_rest = sub (input q.0 s.first) (input q.3 s.fourth) tt

pub overflow_add-result-2 : goal.overflow_add-result-2
overflow_add-result-2 c = add_need (inner_rest c.args.q c.requires) (outer_rest c.args.q c.requires) tt

pub overflow_sub-result-2 : goal.overflow_sub-result-2
overflow_sub-result-2 c = sub_need (outer_rest c.args.q c.requires) (inner_rest c.args.q c.requires) tt

pub returns : goal.returns
returns c =
    let q = c.args.q in
    let s = c.requires in
    four (add (outer q s) (inner q s) tt).is (add (inner_rest q s) (outer_rest q s) tt).is (sub (outer q s) (inner q s) tt).is (sub (outer_rest q s) (inner_rest q s) tt).is
