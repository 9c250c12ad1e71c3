-- Laws that the proofs of this crate share. Assumes nothing.
use mathlib.Core.Path.{◌≡◌, refl, sym, ap, ap₂, ◌∙◌}
use mathlib.Core.Bool.{Bool, true, false, cond}
use mathlib.Core.List.{List, ◌∷◌, ◌++◌, append_assoc}
use Prim.Native.Nat.{ℕ, ◌+◌, ◌-◌, ◌<◌, ◌≤◌}
use native.Mathlib.Omega.{arith}
use native.Mathlib.Numerals.{add-one}
use lib.ListN.{length, get_or, take, drop, set, length-drop}
use lib.Seq.{paste, paste-suc, take-append-le, drop-append-le, length-take-le, take_at, drop-append-add, drop-drop, take-add, get_or-drop}
use lib.Dec.{ltb}
use Rattle.std.proofs.Common.{Some, None}
use borrow.Author.Tests.{leb-true, ltb-true, ltb-false}
use Rattle.ivf.specs.Format.{frame_length, complete, frames_from, bytes4, count_in}
use Rattle.ivf.specs.Mending.{total, frame_count, kept, counted, mended, not_ivf, no_room, Mends}
use Rattle.ivf.specs.Inner.{complete_length, Sized, Passed, Passes, all_frames, copied, Copies, Writes}
use Rattle.ivf.proofs.Definitions.{past_end, frames_follow, frames_end, kept_lies, mends}
use Rattle.ivf.specs.declared.frames.Frames.{Frames}

-- ---- one frame
pub record Completes (file : List ℕ) (at n : ℕ) : Type 0 where
  pub is : n ≡ frame_length file at
  pub inside : at + n ≤ length file
  pub whole : complete file at ≡ true

pub completes : (file : List ℕ) (at n : ℕ) → Some n ≡ complete_length file at → Completes file at n
completes file at n e = go (complete file at) refl e
  where
    go : (b : Bool) → complete file at ≡ b → Some n ≡ cond b (Some (frame_length file at)) None → Completes file at n
    go true t q = let is : n ≡ frame_length file at = cc in record { is = is; inside = omega (arith, leb-true (at + frame_length file at) (length file) t); whole = t }
    go false t q = cc

-- no frame is complete
pub lacks : (file : List ℕ) (at : ℕ) → None ≡ complete_length file at → complete file at ≡ false
lacks file at e = go (complete file at) refl e
  where
    go : (b : Bool) → complete file at ≡ b → None ≡ cond b (Some (frame_length file at)) None → complete file at ≡ false
    go true t q = cc
    go false t q = t

-- ---- the frames that are passed
pub passed_none : (file : List ℕ) → 32 ≤ length file → Passed file 32 0
unfolding kept frame_count
passed_none file h = record { long = omega arith; inside = h; bytes = refl; number = omega arith }

pub passed_more : (file : List ℕ) (at count n : ℕ) → Passed file at count → Completes file at n → Passed file (at + n) (count + 1)
unfolding total
passed_more file at count n p c =
    let e : frames_from file at ≡ n ∷ frames_from file (at + n) =
    frames_follow file at c.whole ∙ ap (λ (k : ℕ). k ∷ frames_from file (at + k)) (sym c.is) in
    record {
      long = omega (arith, p.long, c.is);
      inside = c.inside;
      bytes = p.bytes ∙ ap (λ (l : List ℕ). at + total l) e ∙ omega arith;
      number = p.number ∙ ap (λ (l : List ℕ). count + length l) e ∙ omega arith;
    }

-- none is left: the end and the count are those of all frames
pub passed_all : (file : List ℕ) (f : Frames) → Passed file f.end f.count → complete file f.end ≡ false → f ≡ all_frames file
unfolding total
passed_all file f p t =
    let q = frames_end file f.end t in
    let a : f.end ≡ kept file = sym (p.bytes ∙ ap (λ (l : List ℕ). f.end + total l) q ∙ omega arith) in
    let b : f.count ≡ frame_count file = sym (p.number ∙ ap (λ (l : List ℕ). f.count + length l) q ∙ omega arith) in
    λ i. record { end = a i; count = b i }

-- no frame begins at the file's end
pub passed_file : (file : List ℕ) (f : Frames) → Passes file 32 (length file) f → f ≡ all_frames file
passed_file file f p = passed_all file f p.passed (go (ltb f.end (length file)) refl)
  where
    go : (b : Bool) → ltb f.end (length file) ≡ b → complete file f.end ≡ false
    go true t = p.up_to (ltb-true f.end (length file) t)
    go false t = past_end file f.end (ltb-false f.end (length file) t)

-- ---- the output
-- a turn of `copy`
pub copy_more : (out₀ out file : List ℕ) (from i : ℕ) → from + i < length out₀ → from + i < length file → out ≡ paste out₀ from (drop from file) i
    → set out (from + i) (get_or file (from + i) 0) ≡ paste out₀ from (drop from file) (i + 1)
copy_more out₀ out file from i h k e =
    ap₂ (λ (l : List ℕ) (b : ℕ). set l (from + i) b) e (sym (get_or-drop from file i 0))
    ∙ paste-suc out₀ from (drop from file) i 0 h (omega (arith, length-drop from file))
    ∙ ap (paste out₀ from (drop from file)) (sym (add-one i))

-- what was copied to byte `from`, and n bytes after it
pub copied_on : (file out₀ out : List ℕ) (from n : ℕ) → from ≤ length file → out ≡ copied file out₀ from
    → paste out from (drop from file) n ≡ copied file out₀ (from + n)
copied_on file out₀ out from n h e =
    let front = take from file in
    let long : length front ≡ from = length-take-le from file h in
    let rest : drop (from + n) (front ++ drop from out₀) ≡ drop (from + n) out₀ =
    ap (λ (k : ℕ). drop (k + n) (front ++ drop from out₀)) (sym long) ∙ drop-append-add front (drop from out₀) n ∙ drop-drop n from out₀ in
    ap (λ (l : List ℕ). paste l from (drop from file) n) e
    ∙ ap₂ (λ (a b : List ℕ). a ++ take n (drop from file) ++ b) (take_at front (drop from out₀) from long) rest
    ∙ ap (λ (l : List ℕ). l ++ drop (from + n) out₀) (sym (take-add from n file))

-- `copy_frames` has copied `done` bytes, and passed the frames that begin in the next 512
pub record Copying (file out₀ out : List ℕ) (done : ℕ) (f : Frames) : Type 0 where
  pub passed : Passed file f.end f.count
  pub on : done ≤ f.end
  pub up_to : f.end < done + 512 → complete file f.end ≡ false
  pub long : length out ≡ length out₀
  pub bytes : out ≡ copied file out₀ done

-- a turn: what was passed is copied, and f is passed next
pub copying_more : (file out₀ out out' : List ℕ) (done : ℕ) (e f : Frames) → Copying file out₀ out done e
    → out' ≡ paste out done (drop done file) (e.end - done) → length out' ≡ length out → Passes file e.end (e.end + 512) f
    → Copying file out₀ out' e.end f
copying_more file out₀ out out' done e f c w k p =
    let end : done + (e.end - done) ≡ e.end = omega (arith, c.on) in
    record {
      passed = p.passed;
      on = p.on;
      up_to = p.up_to;
      long = k ∙ c.long;
      bytes = w ∙ copied_on file out₀ out done (e.end - done) (omega (arith, c.on, c.passed.inside)) c.bytes ∙ ap (copied file out₀) end;
    }

-- nothing is left: all is copied
pub copying_all : (file out₀ out : List ℕ) (done : ℕ) (f : Frames) → Copying file out₀ out done f → f.end ≤ done → Copies file out₀ f out
copying_all file out₀ out done f c h =
    let all = passed_all file f c.passed (c.up_to (omega arith)) in
    let end : done ≡ kept file = omega (arith, c.on, ap (λ (g : Frames). g.end) all) in
    record { frames_are = all; bytes_are = c.bytes ∙ ap (copied file out₀) end }

-- the count goes into what is copied
pub counted-copied : (file out mid out' : List ℕ) (f : Frames) → Sized file → Copies file out f mid → out' ≡ counted f.count mid → Writes file out f out'
unfolding counted mended
counted-copied file out mid out' f s c w =
    let lies = kept_lies file s.header in
    let front = take (kept file) file in
    let rest = drop (kept file) out in
    let long : length front ≡ kept file = length-take-le (kept file) file lies.inside in
    let count = bytes4 (frame_count file) in
    record {
      frames_are = c.frames_are;
      bytes_are =
          w ∙ ap₂ (λ (g : Frames) (l : List ℕ). counted g.count l) c.frames_are c.bytes_are
          ∙ ap₂ (λ (a b : List ℕ). a ++ count ++ b) (take-append-le 24 front rest (omega (arith, lies.header))) (drop-append-le 28 front rest (omega (arith, lies.header)))
          ∙ sym (append_assoc (take 24 front ++ count) (drop 28 front) rest);
    }

-- ---- what a call leaves
pub writes_done : (file out out' : List ℕ) (old : ℕ) (f : Frames) → not_ivf file ≡ false → no_room file (length out) ≡ false → Writes file out f out' → old ≡ count_in file
    → Mends file out (record { number = 0; old_count = old; new_count = f.count; dropped = length file - f.end }) out'
writes_done file out out' old f a b w o =
    let m = mends file out false false a b in
    let e = w.frames_are in
    record {
      report_is = (λ i. record { number = 0; old_count = o i; new_count = (e i).count; dropped = length file - (e i).end }) ∙ m.report_is;
      bytes_are = w.bytes_are ∙ m.bytes_are;
    }
