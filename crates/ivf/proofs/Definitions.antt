-- Laws of the definition, which the theorems and the functions' proofs share. Assumes nothing.
use Rattle.std.specs.Prelude.{◌≡◌, Bool, true, false, cond, not, ◌&&◌, ◌||◌, length, get_or, drop, ltb, eqb}
use Rattle.std.proofs.Math.Path.{refl}
use Rattle.std.proofs.Common.{sym, ap, ap₂, ◌∙◌, true≢false, arith, le-leb, leb-true, ltb-false, le-ltb}
use mathlib.Core.List.{List, [], ◌∷◌, ◌++◌}
use Prim.Native.Nat.{ℕ, zero, suc, ◌+◌, ◌*◌, ◌<◌, ◌≤◌}
use Rattle.std.proofs.lemmas.Bool.{lt-leb}
use Rattle.ivf.specs.Format.{number4, frame_length, complete, frames, frames_from}
use Rattle.ivf.specs.Mending.{total, frame_count, kept, mended, not_ivf, no_room, refused, reported, report, written, Mends}
use Rattle.ivf.specs.Inner.{Sized}

-- ---- the frames
pub past_end : (file : List ℕ) (at : ℕ) → length file ≤ at → complete file at ≡ false
past_end file at h = lt-leb (at + frame_length file at) (length file) (omega arith)

frames_more : (most : ℕ) (file : List ℕ) (at : ℕ) → complete file at ≡ true
    → frames (suc most) file at ≡ frame_length file at ∷ frames most file (at + frame_length file at)
unfolding frames
frames_more most file at t = ap (λ (b : Bool). cond b (frame_length file at ∷ frames most file (at + frame_length file at)) []) t

frames_none : (most : ℕ) (file : List ℕ) (at : ℕ) → complete file at ≡ false → frames most file at ≡ []
unfolding frames
frames_none zero file at t = refl
frames_none (suc most) file at t = ap (λ (b : Bool). cond b (frame_length file at ∷ frames most file (at + frame_length file at)) []) t

-- two bounds that reach the file's end give the same frames
pub bounds_agree : (m n : ℕ) (file : List ℕ) (at : ℕ) → length file ≤ at + m → length file ≤ at + n → frames m file at ≡ frames n file at
unfolding frames
bounds_agree zero n file at h k = sym (frames_none n file at (past_end file at (omega arith)))
bounds_agree (suc m) zero file at h k = frames_none (suc m) file at (past_end file at (omega arith))
bounds_agree (suc m) (suc n) file at h k =
    ap (λ (l : List ℕ). cond (complete file at) (frame_length file at ∷ l) [])
    (bounds_agree m n file (at + frame_length file at) (omega arith) (omega arith))

-- THEOREM. A complete frame is followed by the frames from its end on: the bound in `frames` never cuts them short.
pub frames_follow : (file : List ℕ) (at : ℕ) → complete file at ≡ true
    → frames_from file at ≡ frame_length file at ∷ frames_from file (at + frame_length file at)
frames_follow file at t = bounds_agree (length file) (suc (length file)) file at (omega arith) (omega arith) ∙ frames_more (length file) file at t

-- THEOREM. A frame that is not complete is none, and ends them.
pub frames_end : (file : List ℕ) (at : ℕ) → complete file at ≡ false → frames_from file at ≡ []
frames_end file at t = frames_none (length file) file at t

-- frames that start at byte `at` end inside the file, and each has 12 bytes or more
pub record Lie (file : List ℕ) (at : ℕ) (l : List ℕ) : Type 0 where
  pub inside : at + total l ≤ length file
  pub long : 12 * length l ≤ total l

frames_lie : (most : ℕ) (file : List ℕ) (at : ℕ) → at ≤ length file → Lie file at (frames most file at)
unfolding frames total
frames_lie zero file at h = record { inside = omega arith; long = omega arith }
frames_lie (suc most) file at h = go (complete file at) refl (frames_lie most file (at + frame_length file at))
  where
    go : (b : Bool) → complete file at ≡ b
        → (at + frame_length file at ≤ length file → Lie file (at + frame_length file at) (frames most file (at + frame_length file at)))
        → Lie file at (cond b (frame_length file at ∷ frames most file (at + frame_length file at)) [])
    go true t rest =
        let r = rest (leb-true _ _ t) in
        record { inside = omega (arith, r.inside); long = omega (arith, r.long) }
    go false t rest = record { inside = omega arith; long = omega arith }

pub record Kept (file : List ℕ) : Type 0 where
  pub header : 32 ≤ kept file
  pub inside : kept file ≤ length file
  pub long : 32 + 12 * frame_count file ≤ kept file

pub kept_lies : (file : List ℕ) → 32 ≤ length file → Kept file
unfolding kept frame_count
kept_lies file h =
    let l = frames_lie (length file) file 32 h in
    record { header = omega arith; inside = l.inside; long = omega (arith, l.long) }

-- ---- the frames of a file, and of another that agrees with it from the header's end to its own
module _ (file other : List ℕ) (same : (i : ℕ) → 32 ≤ i → i < length other → get_or other i 0 ≡ get_or file i 0) where
  number_same : (at : ℕ) → 32 ≤ at → at + 4 ≤ length other → number4 other at ≡ number4 file at
  number_same at h k =
      omega (arith, same at h (omega arith), same (at + 1) (omega arith) (omega arith), same (at + 2) (omega arith) (omega arith), same (at + 3) (omega arith) (omega arith))

  -- where the other ends with the frames, it has just these
  pub frames_same : (most at : ℕ) → 32 ≤ at → length other ≡ at + total (frames most file at) → frames most other at ≡ frames most file at
  unfolding frames total
  frames_same zero at h e = refl
  frames_same (suc most) at h e = go (complete file at) refl e (frames_same most (at + frame_length file at))
    where
      rest : List ℕ
      rest = frames most file (at + frame_length file at)

      go : (b : Bool) → complete file at ≡ b → length other ≡ at + total (cond b (frame_length file at ∷ rest) [])
          → (32 ≤ at + frame_length file at → length other ≡ at + frame_length file at + total rest → frames most other (at + frame_length file at) ≡ rest)
          → frames (suc most) other at ≡ cond b (frame_length file at ∷ rest) []
      go true t e again =
          let n : number4 other at ≡ number4 file at = number_same at h (omega arith) in
          frames_more most other at (le-leb (at + frame_length other at) (length other) (omega arith))
          ∙ ap (λ (k : ℕ). (12 + k) ∷ frames most other (at + (12 + k))) n
          ∙ ap (λ (l : List ℕ). frame_length file at ∷ l) (again (omega arith) (omega arith))
      go false t e again = frames_none (suc most) other at (past_end other at (omega arith))

-- ---- number 15
or-false : (a b : Bool) → a || b ≡ false → (a ≡ false) × (b ≡ false)
or-false false b e = (refl, e)
or-false true b e = absurd (true≢false e)

pub sized : (file : List ℕ) → not_ivf file ≡ false → Sized file
unfolding not_ivf
sized file e =
    let p = or-false (ltb (length file) 32) _ e in
    let q = or-false (ltb 2147483647 (length file)) _ p.1 in
    record { header = ltb-false _ _ p.0; limit = ltb-false _ _ q.0 }

-- two files that agree in the first 8 bytes
pub ivf_same : (file other : List ℕ) → ((i : ℕ) → i < 8 → get_or other i 0 ≡ get_or file i 0) → 32 ≤ length other → length other ≤ length file
    → not_ivf file ≡ false → not_ivf other ≡ false
unfolding not_ivf
ivf_same file other same h k e =
    let p = or-false (ltb (length file) 32) _ e in
    let q = or-false (ltb 2147483647 (length file)) _ p.1 in
    let most = ltb-false 2147483647 (length file) q.0 in
    let a = same 0 (omega arith) in
    let b = same 1 (omega arith) in
    let c = same 2 (omega arith) in
    let d = same 3 (omega arith) in
    let u = same 6 (omega arith) in
    let v = same 7 (omega arith) in
    ap₂ ◌||◌ (le-ltb (length other) 32 h)
    (ap₂ ◌||◌ (le-ltb 2147483647 (length other) (omega arith))
    ((λ i. not (eqb (a i) 68 && (eqb (b i) 75 && (eqb (c i) 73 && eqb (d i) 70))) || not (eqb (u i + 256 * v i) 32)) ∙ q.1))

-- ---- what a call leaves, by its two tests
pub mends : (file out : List ℕ) (a b : Bool) → not_ivf file ≡ a → no_room file (length out) ≡ b
    → Mends file out (cond a (refused 15) (cond b (refused 7) (reported file))) (cond (a || b) out (mended file ++ drop (kept file) out))
unfolding report written
mends file out a b p q =
    record {
      report_is = sym (ap₂ (λ (u v : Bool). cond u (refused 15) (cond v (refused 7) (reported file))) p q);
      bytes_are = sym (ap₂ (λ (u v : Bool). cond (u || v) out (mended file ++ drop (kept file) out)) p q);
    }
