-- `split::split_chroma` puts the first b blocks of both planes in their places. Assumes nothing.
use Rattle.std.proofs.Common.{◌≡◌, refl, sym, ap₂, ◌∙◌, ℕ, ◌+◌, ◌*◌, ◌/◌, ◌%◌, arith}
use Rattle.rfc6386.specs.Vector.{sent}
use Rattle.rfc6386.specs.Picture.{image, block}
use Rattle.rfc6386.specs.declared.Mv.{Mv}
use Rattle.rfc6386.specs.declared.FilterSet.{FilterSet}
use Rattle.blocks.specs.Lents.{plane_in}
use Rattle.blocks.specs.Taken.{block_takes}
use Rattle.blocks.specs.declared.lent.Lent.{Lent}
use Rattle.blocks.specs.declared.place.Place.{Place}
use Rattle.prediction.proofs.Macroblock.{shifted}
use Rattle.prediction.proofs.Tiles.{two, tiled-none, tiled-more, tiled_all, tile_takes, taken_none, taken_more, tile_few, taken_few, taken-all}
use Rattle.prediction.proofs.split.split_chroma.Goals as goal

-- the place of block b
abbrev place : Place → ℕ → Place
place at b = record { stride = at.stride; w = at.w; h = at.h; x = at.x + b % 2 * 4; y = at.y + b / 2 * 4 }

-- what block b took in both planes
took : (set : FilterSet) (u v p q : Lent) (m : ℕ → Mv) (b : ℕ) {k : ℕ}
    → k ≡ block_takes 4 set (plane_in p) p.at.x p.at.y (m b) + block_takes 4 set (plane_in q) q.at.x q.at.y (m b)
    → p.plane.now ≡ u.plane.now → p.at ≡ place u.at b → q.plane.now ≡ v.plane.now → q.at ≡ place v.at b
    → k ≡ tile_takes 2 set (plane_in u) u.at.x u.at.y m b + tile_takes 2 set (plane_in v) v.at.x v.at.y m b
took set u v p q m b e up ua vp va = e ∙ ap₂ ◌+◌ (shifted (block_takes 4 set) u p _ _ up ua refl) (shifted (block_takes 4 set) v q _ _ vp va refl)

more : (k n a b p q a' b' : ℕ) → k ≡ a + b → n ≡ p + q → a + p ≡ a' → b + q ≡ b' → k + n ≡ a' + b'
more k n a b p q a' b' e h l r = omega arith

pub loop-b-init : goal.loop-b-init
loop-b-init c =
    record {
      u_tiled = tiled-none 2 two _ _ _ _ _ refl;
      v_tiled = tiled-none 2 two _ _ _ _ _ refl;
      counted = sym (ap₂ ◌+◌ (taken_none 2 _ _ _ _ _) (taken_none 2 _ _ _ _ _));
    }

pub overflow_add-total : goal.overflow_add-total
overflow_add-total c =
    let a = c.args in
    let b = c.loop-b.b in
    let u = a.chroma.u.lent in
    let v = a.chroma.v.lent in
    let p = c.block-u.ensures in
    let q = c.block-v.ensures in
    omega (
      arith,
      taken_few 2 a.set (plane_in u) u.at.x u.at.y (sent a.mvs) b,
      taken_few 2 a.set (plane_in v) v.at.x v.at.y (sent a.mvs) b,
      took a.set u v c.block-u.result c.block-v.result (sent a.mvs) b c.pair_into-total.ensures.value p.plane p.place q.plane q.place,
      tile_few 2 a.set (plane_in u) u.at.x u.at.y (sent a.mvs) b,
      tile_few 2 a.set (plane_in v) v.at.x v.at.y (sent a.mvs) b,
    )

pub loop-b-preserved : goal.loop-b-preserved
loop-b-preserved c =
    let a = c.args in
    let b = c.loop-b.b in
    let h = c.loop-b-test.true in
    let e = c.pair_into-total.ensures in
    let u = a.chroma.u.lent in
    let v = a.chroma.v.lent in
    let p = c.block-u.ensures in
    let q = c.block-v.ensures in
    record {
      u_tiled = tiled-more 2 two _ _ _ _ _ c.loop-b.invariant.u_tiled h (shifted (λ p x y m. block 4 a.set (image p) x y m) u c.block-u.result _ _ p.plane p.place refl) e.u_out_after;
      v_tiled = tiled-more 2 two _ _ _ _ _ c.loop-b.invariant.v_tiled h (shifted (λ p x y m. block 4 a.set (image p) x y m) v c.block-v.result _ _ q.plane q.place refl) e.v_out_after;
      counted = more _ _ _ _ _ _ _ _ c.loop-b.invariant.counted (took a.set u v c.block-u.result c.block-v.result (sent a.mvs) b e.value p.plane p.place q.plane q.place)
          (taken_more 2 a.set (plane_in u) u.at.x u.at.y (sent a.mvs) b refl refl)
          (taken_more 2 a.set (plane_in v) v.at.x v.at.y (sent a.mvs) b refl refl);
    }

pub returns-clause-value : goal.returns-clause-value
returns-clause-value c =
    let u = tiled_all 2 two _ _ _ _ _ c.loop-b.invariant.u_tiled c.loop-b-test.false in
    let v = tiled_all 2 two _ _ _ _ _ c.loop-b.invariant.v_tiled c.loop-b-test.false in
    λ i. record { u = u i; v = v i }

pub returns-clause-all_after : goal.returns-clause-all_after
returns-clause-all_after c =
    let a = c.args in
    let u = a.chroma.u.lent in
    let v = a.chroma.v.lent in
    let four : c.loop-b.b ≡ 2 * 2 = omega (arith, c.loop-b.invariant.u_tiled.most, c.loop-b-test.false) in
    c.loop-b.invariant.counted
    ∙ ap₂ ◌+◌ (taken-all 2 a.set (plane_in u) u.at.x u.at.y (sent a.mvs) refl four) (taken-all 2 a.set (plane_in v) v.at.x v.at.y (sent a.mvs) refl four)
