-- Each step of the code with its range.
use Rattle.std.proofs.Common.{refl, ℤ, ◌+ℤ◌, ◌-ℤ◌, ◌≤◌, nat_abs, w32}
use Rattle.signed.specs.Held.{Held, size-within, add, sub, mul, shr, add_need, sub_need}
use Rattle.residue.specs.Transform.{by_sin, by_cos}
use Rattle.residue.specs.Inner.{Small}
use Rattle.residue.proofs.Passes.{kept, four}
use Rattle.residue.specs.declared.transform.Four.{Four}
use Rattle.residue.proofs.transform.DctPass.of.Goals as goal

module _ (z : ℤ) (h : nat_abs z ≤ 60000) where
  abbrev input : Held w32 z 60000 60000
  input = kept refl (size-within h) tt

  abbrev sin : Held w32 (by_sin z) 32471 32472
  sin = shr (mul input 35468 tt) 65535 tt

  abbrev cos : Held w32 (by_cos z) 78393 78394
  cos = add input (shr (mul input 20091 tt) 65535 tt) tt

module _ (q : Four) (s : Small 60000 q.0 q.1 q.2 q.3) where
  abbrev sum : Held w32 (q.0 +ℤ q.2) 120000 120000
  sum = add (input q.0 s.first) (input q.2 s.third) tt

  abbrev rest : Held w32 (q.0 -ℤ q.2) 120000 120000
  rest = sub (input q.0 s.first) (input q.2 s.third) tt

  abbrev even : Held w32 (by_cos q.1 +ℤ by_sin q.3) 110864 110866
  even = add (cos q.1 s.second) (sin q.3 s.fourth) tt

  abbrev odd : Held w32 (by_sin q.1 -ℤ by_cos q.3) 110865 110865
  odd = sub (sin q.1 s.second) (cos q.3 s.fourth) tt

pub overflow_add-even-2 : goal.overflow_add-even-2
overflow_add-even-2 c = let q = c.args.q in add_need (cos q.1 c.requires.second) (sin q.3 c.requires.fourth) tt

pub overflow_sub-odd : goal.overflow_sub-odd
overflow_sub-odd c = let q = c.args.q in sub_need (sin q.1 c.requires.second) (cos q.3 c.requires.fourth) tt

pub overflow_add-result : goal.overflow_add-result
overflow_add-result c = add_need (sum c.args.q c.requires) (even c.args.q c.requires) tt

pub overflow_add-result-2 : goal.overflow_add-result-2
overflow_add-result-2 c = add_need (rest c.args.q c.requires) (odd c.args.q c.requires) tt

pub overflow_sub-result : goal.overflow_sub-result
overflow_sub-result c = sub_need (rest c.args.q c.requires) (odd c.args.q c.requires) tt

pub overflow_sub-result-2 : goal.overflow_sub-result-2
overflow_sub-result-2 c = sub_need (sum c.args.q c.requires) (even c.args.q c.requires) tt

pub returns : goal.returns
returns c =
    let q = c.args.q in
    let s = c.requires in
    four (add (sum q s) (even q s) tt).is (add (rest q s) (odd q s) tt).is (sub (rest q s) (odd q s) tt).is (sub (sum q s) (even q s) tt).is
