-- Theorems of mending. Each that speaks of `Mends` holds of `mend` and of the call for C, whose contract it is. Assumes nothing.
use Rattle.std.specs.Prelude.{◌≡◌, Bool, true, cond, get_or, take}
use Rattle.std.proofs.Math.Path.{refl, sym, ap, ap₂}
use Rattle.std.proofs.Common.{◌∙◌, subst, length-take-le, take_at, drop_at, take_all, le-leb, ltb-false, le-ltb}
use Rattle.std.proofs.Math.Bool.{false}
use mathlib.Core.List.{List, [], ◌∷◌, ◌++◌}
use Prim.Native.Nat.{ℕ, zero, suc, ◌+◌, ◌-◌, ◌<◌, ◌≤◌}
use native.Mathlib.Omega.{arith}
use Rattle.std.proofs.Math.ListN.{length, drop}
use Rattle.std.proofs.Math.Seq.{take-length, get_or-take}
use Rattle.ivf.specs.Format.{number4, bytes4, frame_length, complete, frames, frames_from, file_frames, count_bytes, count_in}
use Rattle.ivf.specs.Mending.{total, frame_count, kept, counted, mended, not_ivf, no_room, MendedAnswer, refused, reported, Mends}
use Rattle.ivf.proofs.Definitions.{Kept, frames_follow, bounds_agree, kept_lies, frames_same, sized, ivf_same, mends}
use Rattle.ivf.proofs.Counts.{length-counted, counted_else, counted_number, counted_twice, counted_same, count_bytes_lem}

-- ---- the frames
-- THEOREM. An empty frame is complete where its size and its time are there.
pub empty-complete : (file : List ℕ) (at : ℕ) → number4 file at ≡ 0 → at + 12 ≤ length file → complete file at ≡ true
empty-complete file at e h = le-leb (at + frame_length file at) (length file) (omega arith)

-- complete frames of these lengths follow one another from byte `at` on
unfoldable pub Run : List ℕ → ℕ → List ℕ → Type 0
Run file at [] = Unit {0}
Run file at (n ∷ l) = (n ≡ frame_length file at) × ((complete file at ≡ true) × Run file (at + n) l)

run_by : (most : ℕ) (file : List ℕ) (at : ℕ) → Run file at (frames most file at)
unfolding Run frames
run_by zero file at = tt
run_by (suc most) file at = go (complete file at) refl (run_by most file (at + frame_length file at))
  where
    go : (b : Bool) → complete file at ≡ b → Run file (at + frame_length file at) (frames most file (at + frame_length file at))
        → Run file at (cond b (frame_length file at ∷ frames most file (at + frame_length file at)) [])
    go true t rest = (refl, (t, rest))
    go false t rest = tt

-- THEOREM. A file's frames are such a run.
pub frames_run : (file : List ℕ) → Run file 32 (file_frames file)
frames_run file = run_by (length file) file 32

-- l is the front of m: as many lengths of m as it has, and so no more of them and no more bytes
pub record Front (l m : List ℕ) : Type 0 where
  pub same : take (length l) m ≡ l
  pub count : length l ≤ length m
  pub bytes : total l ≤ total m

front_more : (n : ℕ) (l m : List ℕ) → Front l m → Front (n ∷ l) (n ∷ m)
unfolding total
front_more n l m f = record { same = ap (λ (r : List ℕ). n ∷ r) f.same; count = omega (arith, f.count); bytes = omega (arith, f.bytes) }

run_front : (file : List ℕ) (l : List ℕ) (at : ℕ) → Run file at l → Front l (frames_from file at)
unfolding Run total
run_front file [] at r = record { same = refl; count = omega arith; bytes = omega arith }
run_front file (n ∷ l) at (e, (t, rest)) =
    subst (Front (n ∷ l)) (ap (λ (k : ℕ). k ∷ frames_from file (at + k)) e ∙ sym (frames_follow file at t))
    (front_more n l (frames_from file (at + n)) (run_front file l (at + n) rest))

-- THEOREM. They are the longest: every other run from the header's end is the front of them,
pub frames_longest : (file : List ℕ) (l : List ℕ) → Run file 32 l → Front l (file_frames file)
frames_longest file l r = run_front file l 32 r

-- so what is kept has no fewer frames and no fewer bytes.
pub kept_longest : (file : List ℕ) (l : List ℕ) → Run file 32 l → (length l ≤ frame_count file) × (32 + total l ≤ kept file)
unfolding frame_count kept
kept_longest file l r =
    let f = frames_longest file l r in
    (f.count, omega (arith, f.bytes))

-- ---- the mended file
module _ (file : List ℕ) (ivf : not_ivf file ≡ false) where
  abbrev lies : Kept file
  lies = kept_lies file (sized file ivf).header

  -- THEOREM. Bytes kept and bytes dropped are all the file's bytes.
  pub kept_and_dropped : kept file + (reported file).dropped ≡ length file
  kept_and_dropped = omega (arith, lies.inside)

  -- THEOREM. The number of frames fits four bytes, since the file stays within the limit.
  pub count_fits : frame_count file < 4294967296
  count_fits = omega (arith, lies.long, lies.inside, (sized file ivf).limit)

  length_cut : length (take (kept file) file) ≡ kept file
  length_cut = length-take-le (kept file) file lies.inside

  room : 28 ≤ length (take (kept file) file)
  room = omega (arith, length_cut, lies.header)

  -- THEOREM. The mended file has just the bytes that are kept.
  pub length-mended : length (mended file) ≡ kept file
  unfolding mended
  length-mended = length-counted (frame_count file) (take (kept file) file) room ∙ length_cut

  -- THEOREM. All but those of the count are unchanged.
  pub mended_keeps : (i : ℕ) → i < kept file → (24 ≤ i → i < 28 → ⊥) → get_or (mended file) i 0 ≡ get_or file i 0
  unfolding mended
  mended_keeps i h out = counted_else (frame_count file) (take (kept file) file) room i out ∙ get_or-take (kept file) file i 0 h

  -- THEOREM. The count in its header is the number of frames.
  pub mended_counts : count_in (mended file) ≡ frame_count file
  unfolding mended
  mended_counts = counted_number (frame_count file) (take (kept file) file) room count_fits

  -- THEOREM. It has the frames of the file,
  pub frames_again : file_frames (mended file) ≡ file_frames file
  unfolding kept
  frames_again =
      bounds_agree (length (mended file)) (length file) (mended file) 32 (omega arith) (omega (arith, length-mended, lies.inside))
      ∙ frames_same file (mended file) (λ i h k. mended_keeps i (omega (arith, length-mended)) (λ u v. omega arith)) (length file) 32 (omega arith) length-mended

  -- as many,
  pub count_again : frame_count (mended file) ≡ frame_count file
  unfolding frame_count
  count_again = ap length frames_again

  -- all of it is kept,
  pub kept_again : kept (mended file) ≡ kept file
  unfolding kept
  kept_again = ap (λ (l : List ℕ). 32 + total l) frames_again

  -- it is not refused with 15,
  pub ivf_again : not_ivf (mended file) ≡ false
  ivf_again =
      ivf_same file (mended file) (λ i h. mended_keeps i (omega (arith, lies.header)) (λ u v. omega arith)) (omega (arith, length-mended, lies.header))
      (omega (arith, length-mended, lies.inside)) ivf

  -- and mending it changes nothing.
  pub mended_again : mended (mended file) ≡ mended file
  unfolding mended
  mended_again =
      let c = frame_count file in
      let m = mended file in
      ap₂ (λ (n k : ℕ). counted n (take k m)) count_again (kept_again ∙ sym length-mended)
      ∙ ap (counted c) (take-length m)
      ∙ counted_twice c (take (kept file) file) room c

-- THEOREM. In a file of bytes a count that reads as the number of frames has the bytes of that number.
pub right-count : (file : List ℕ) → 28 ≤ length file → ((i : ℕ) → get_or file i 0 < 256) → count_in file ≡ frame_count file
    → count_bytes file ≡ bytes4 (frame_count file)
right-count file h small e = count_bytes_lem file h small ∙ ap bytes4 e

-- THEOREM. A file that is whole and has its count right is its own mended file.
pub whole-mended : (file : List ℕ) → kept file ≡ length file → count_bytes file ≡ bytes4 (frame_count file) → mended file ≡ file
unfolding mended
whole-mended file all right =
    ap (counted (frame_count file)) (take_all (kept file) file (omega arith)) ∙ counted_same (frame_count file) file right

-- ---- a call's outcome
-- THEOREM. Two outcomes that meet the contract have the same report and the same final bytes.
pub one_outcome : {file out : List ℕ} {r r' : MendedAnswer} {out' out'' : List ℕ} → Mends file out r out' → Mends file out r' out'' → (r ≡ r') × (out' ≡ out'')
one_outcome a b = (a.report_is ∙ sym b.report_is, a.bytes_are ∙ sym b.bytes_are)

-- a report of n frames with nothing dropped, and the count right before
abbrev pub untouched : ℕ → MendedAnswer
untouched n = record { number = 0; old_count = n; new_count = n; dropped = 0 }

-- what a call that does not refuse leaves
pub record Done (file out : List ℕ) (r : MendedAnswer) (out' : List ℕ) : Type 0 where
  pub ivf : not_ivf file ≡ false
  pub fits : kept file ≤ length out
  pub report_is : r ≡ reported file
  pub bytes_are : out' ≡ mended file ++ drop (kept file) out

module _ {file out : List ℕ} {r : MendedAnswer} {out' : List ℕ} (w : Mends file out r out') where
  -- THEOREM. A call that refuses reports three zeros and writes nothing.
  pub refusal_leaves : (r.number ≡ 0 → ⊥) → (r ≡ refused r.number) × (out' ≡ out)
  refusal_leaves some = go (not_ivf file) refl (no_room file (length out)) refl
    where
      told : (n : ℕ) → r ≡ refused n → r ≡ refused r.number
      told n e = e ∙ ap refused (sym (ap (λ (m : MendedAnswer). m.number) e))

      go : (a : Bool) → not_ivf file ≡ a → (b : Bool) → no_room file (length out) ≡ b → (r ≡ refused r.number) × (out' ≡ out)
      go true p b q = let e = one_outcome w (mends file out true b p q) in (told 15 e.0, e.1)
      go false p true q = let e = one_outcome w (mends file out false true p q) in (told 7 e.0, e.1)
      go false p false q = absurd (some (ap (λ (m : MendedAnswer). m.number) (one_outcome w (mends file out false false p q)).0))

  pub done : r.number ≡ 0 → Done file out r out'
  unfolding no_room
  done z = go (not_ivf file) refl (no_room file (length out)) refl
    where
      not-refused : (n : ℕ) → r ≡ refused (suc n) → ⊥
      not-refused n e = let k : r.number ≡ suc n = ap (λ (m : MendedAnswer). m.number) e in omega arith

      go : (a : Bool) → not_ivf file ≡ a → (b : Bool) → no_room file (length out) ≡ b → Done file out r out'
      go true p b q = absurd (not-refused 14 (one_outcome w (mends file out true b p q)).0)
      go false p true q = absurd (not-refused 6 (one_outcome w (mends file out false true p q)).0)
      go false p false q =
          let e = one_outcome w (mends file out false false p q) in
          record { ivf = p; fits = ltb-false (length out) (kept file) q; report_is = e.0; bytes_are = e.1 }

-- of a call that is done
module _ {file out : List ℕ} {r : MendedAnswer} {out' : List ℕ} (d : Done file out r out') where
  -- THEOREM. It has kept the file less what it reports as dropped.
  pub kept-told : kept file + r.dropped ≡ length file
  kept-told = ap (λ (m : MendedAnswer). kept file + m.dropped) d.report_is ∙ kept_and_dropped file d.ivf

  -- THEOREM. The mended file stands at the front of the output,
  pub front-mended : take (kept file) out' ≡ mended file
  front-mended = ap (take (kept file)) d.bytes_are ∙ take_at (mended file) (drop (kept file) out) (kept file) (length-mended file d.ivf)

  -- and past it the output keeps its bytes.
  pub rest-kept : drop (kept file) out' ≡ drop (kept file) out
  rest-kept = ap (drop (kept file)) d.bytes_are ∙ drop_at (mended file) (drop (kept file) out) (kept file) (length-mended file d.ivf)

  -- THEOREM. The new count is the number of frames in the output.
  pub count-told : r.new_count ≡ frame_count (take (kept file) out')
  count-told = ap (λ (m : MendedAnswer). m.new_count) d.report_is ∙ sym (count_again file d.ivf) ∙ sym (ap frame_count front-mended)

  -- THEOREM. What it wrote, a second call with room for it takes, changes nothing of and drops nothing of: the count is old and new.
  pub mend_again : {to : List ℕ} {r' : MendedAnswer} {to' : List ℕ} → kept file ≤ length to → Mends (take (kept file) out') to r' to'
      → (r' ≡ untouched r.new_count) × (to' ≡ take (kept file) out' ++ drop (kept file) to)
  unfolding no_room
  mend_again {to} {r'} {to'} h again =
      let m = mended file in
      let keeps = kept_again file d.ivf in
      let e = one_outcome (subst (λ (l : List ℕ). Mends l to r' to') front-mended again)
      (mends m to false false (ivf_again file d.ivf) (le-ltb (length to) (kept m) (omega arith))) in
      let new : frame_count m ≡ r.new_count = ap frame_count (sym front-mended) ∙ sym count-told in
      let old : count_in m ≡ r.new_count = mended_counts file d.ivf ∙ sym (count_again file d.ivf) ∙ new in
      let none : length m - kept m ≡ 0 = omega (arith, length-mended file d.ivf) in (
        e.0 ∙ (λ i. record { number = 0; old_count = old i; new_count = new i; dropped = none i }),
        e.1 ∙ ap₂ (λ (l : List ℕ) (k : ℕ). l ++ drop k to) (mended_again file d.ivf ∙ sym front-mended) keeps,
      )

  -- THEOREM. A file that is whole and has its count right comes back as it is.
  pub mend_whole : kept file ≡ length file → count_bytes file ≡ bytes4 (frame_count file)
      → (r ≡ untouched (frame_count file)) × (out' ≡ file ++ drop (length file) out)
  mend_whole all right =
      let same = whole-mended file all right in
      let old : count_in file ≡ frame_count file = ap count_in (sym same) ∙ mended_counts file d.ivf in
      let none : length file - kept file ≡ 0 = omega arith in (
        d.report_is ∙ (λ i. record { number = 0; old_count = old i; new_count = frame_count file; dropped = none i }),
        d.bytes_are ∙ ap₂ (λ (l : List ℕ) (k : ℕ). l ++ drop k out) same all,
      )
