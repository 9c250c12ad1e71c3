-- Calls on one plane: where a square starts, what is known of it, and what the call answers. Assumes nothing.
use mathlib.Core.Path.{◌≡◌, ap, ap₂, ◌∙◌}
use mathlib.Core.List.{List}
use Prim.Native.Nat.{ℕ, ◌^◌, ◌<◌, ◌≤◌}
use native.Mathlib.Omega.{arith}
use lib.IntN.{ℤ, pos, ◌+ℤ◌}
use lib.Signed.{mag}
use mir.Syntax.{w16, w64}
use mir.Val.{hbits, to_z, of_z}
use Rattle.signed.specs.Held.{Within, Held, got, named, better, lit, sub, add-within, shr-within}
use Rattle.rfc6386.specs.Vector.{whole_part}
use Rattle.rfc6386.specs.Picture.{Plane}
use Rattle.rfc6386.proofs.Laws.Refusals.{PlaneAccepts, plane_accepts}
use Rattle.blocks.specs.Lents.{plane_in}
use Rattle.blocks.specs.Places.{Source, plane_at, halo_start}
use Rattle.blocks.specs.declared.lent.Lent.{Lent}
use Rattle.blocks.specs.declared.place.Place.{Place}
use Rattle.blocks.proofs.Squares.{source_as}

-- where a block may start in a plane
module _ {p : Plane} {x y : ℕ} where
  pub under_x : PlaneAccepts p x y → x < 16384
  under_x A = omega (arith, A.x_inside, A.width_most)

  pub under_y : PlaneAccepts p x y → y < 16384
  under_y A = omega (arith, A.y_inside, A.height_most)

-- what the tests of a call accept
module _ (l : Lent) where
  abbrev pub accepted : PlaneAccepts (plane_in l) l.at.x l.at.y
  accepted = plane_accepts (plane_in l) l.at.x l.at.y l.accepted

  pub lent_x : l.at.x < 16384
  lent_x = under_x accepted

  pub lent_y : l.at.y < 16384
  lent_y = under_y accepted

-- what is said of a plane and a place that were tested, said of what is lent
pub tested_is : {A : Type 0} (f : Plane → ℕ → ℕ → A) (l : Lent) {bytes : List ℕ} {at : Place} → (l.plane.now ≡ bytes) × (l.at ≡ at)
    → f (plane_in l) l.at.x l.at.y ≡ f (plane_at bytes at) at.x at.y
tested_is f l e = ap₂ (λ (b : List ℕ) (p : Place). f (plane_at b p) p.x p.y) e.0 e.1

-- z, what `origin` gave of a place and a vector's component
abbrev pub placed : (at : ℕ) (m z : ℤ) → at < 16384 → mag m < 2 ^ hbits w16 → mag z < 2 ^ hbits w64 → z ≡ pos at +ℤ whole_part (to_z w16 (of_z w16 m))
    → Held w64 (pos at +ℤ whole_part m) 20478 4096
placed at m z h f ok e =
    let here : Within (pos at) 16383 0 = omega arith in
    let m' = got w16 m f in
    better (named (got w64 z ok) (e ∙ ap (λ (k : ℤ). pos at +ℤ whole_part k) m'.is)) (add-within here (shr-within 7 m'.within))

-- two before it, where a halo starts
abbrev pub halo_placed : (at : ℕ) (m z : ℤ) → at < 16384 → mag m < 2 ^ hbits w16 → mag z < 2 ^ hbits w64 → z ≡ pos at +ℤ whole_part (to_z w16 (of_z w16 m))
    → Held w64 (halo_start at m) 20478 4098
halo_placed at m z h f ok e = sub (placed at m z h f ok e) (lit 2 tt) tt

module _ {p : Plane} {x y : ℕ} where
  -- the plane, and a column and a row that were computed
  pub source_of : PlaneAccepts p x y → {a b : ℤ} {u d u' d' : ℕ} (ha : Held w64 a u d) (hb : Held w64 b u' d')
      → (u ≤ 1048576) × (d ≤ 1048576) × (u' ≤ 1048576) × (d' ≤ 1048576) → Source p ha.val hb.val
  source_of A ha hb l =
      let wa = ha.within in
      let wb = hb.within in
      source_as ha hb
      (record {
        width_least = A.width_least;
        width_most = A.width_most;
        height_least = A.height_least;
        height_most = A.height_most;
        fits = A.fits;
        near_x = omega arith;
        near_y = omega arith;
      })
