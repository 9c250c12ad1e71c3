-- Laws of sizes, of frames laid plane by plane, and of what calls report. Assumes nothing.
use Rattle.std.specs.Prelude.{◌≡◌, refl, Bool, true, false, cond, ◌&&◌, List, ◌++◌, ℕ, ◌+◌, ◌*◌, ◌<◌, ◌≤◌, leb, length, get_or, take, drop}
use Rattle.std.proofs.Common.{sym, ap, ◌∙◌, append_assoc, arith, mul-le-mul, length-append}
use borrow.Author.Tests.{leb-true, eq-eqb, ne_eqb, lt-ltb, le-ltb}
use Rattle.rfc6386.specs.Raster.{tab}
use Rattle.rfc6386.proofs.Laws.Raster.{length-raster}
use Rattle.rfc6386.proofs.Laws.Tests.{and-true}
use Rattle.y4m_header.specs.Words.{same}
use Rattle.y4m_frames.specs.Frames.{FrameAnswer, frame_mark, half, blocks, sizes, plain, whole, file_samples, padded_samples, frame_length, padded, cropped, padded_plane, cropped_plane, padded_frame, file_frame, is_size, stopped, read_frame, write_frame, output_after, Reads, Writes}
use Rattle.y4m_frames.specs.Inner.{put, PlaneSound, Sound}
use Rattle.y4m_frames.proofs.Puts.{put-put}
use Rattle.y4m_frames.specs.declared.planes.Plane.{Plane}
use Rattle.y4m_frames.specs.declared.planes.Sizes.{Sizes}

-- ---- sizes
pub record Sized (n : ℕ) : Type 0 where
  pub least : 1 ≤ n
  pub most : n ≤ 16384

pub is_sized : (n : ℕ) → is_size n ≡ true → Sized n
is_sized n e = let p = and-true (leb 1 n) (leb n 16384) e in record { least = leb-true 1 n p.0; most = leb-true n 16384 p.1 }

pub are_sized : (w h : ℕ) → (is_size w && is_size h) ≡ true → Sized w × Sized h
are_sized w h e = let p = and-true (is_size w) (is_size h) e in (is_sized w p.0, is_sized h p.1)

product : (a b : ℕ) → a ≤ 16384 → b ≤ 16384 → a * b ≤ 268435456
product a b h k = let m = mul-le-mul {n₂ = 16384} {m₂ = 16384} h k in omega arith

plane_sound : (w h pw ph : ℕ) → 1 ≤ w → 1 ≤ h → w ≤ pw → h ≤ ph → pw ≤ 16384 → ph ≤ 16384 → PlaneSound (record { width = w; height = h; wide = pw; high = ph })
plane_sound w h pw ph a b c d e f =
    record { some = a; rows = b; across = c; down = d; few = product h w (omega arith) (omega arith); most = product ph pw f e }

pub sizes_sound : (w h : ℕ) → (is_size w && is_size h) ≡ true → Sound (sizes w h)
sizes_sound w h e =
    let p = are_sized w h e in
    let a = p.0.least in
    let b = p.0.most in
    let c = p.1.least in
    let d = p.1.most in
    record {
      luma = plane_sound w h (16 * blocks w) (16 * blocks h) (omega arith) (omega arith) (omega arith) (omega arith) (omega arith) (omega arith);
      chroma = plane_sound (half w) (half h) (8 * blocks w) (8 * blocks h) (omega arith) (omega arith) (omega arith) (omega arith) (omega arith) (omega arith);
    }

-- ---- a frame, plane by plane
pub length-padded : (l : List ℕ) (at : ℕ) (p : Plane) → length (padded_plane l at p) ≡ whole p
unfolding padded
length-padded l at p = length-raster p.high p.wide _

pub length-cropped : (l : List ℕ) (at : ℕ) (p : Plane) → length (cropped_plane l at p) ≡ plain p
unfolding cropped
length-cropped l at p = length-raster p.height p.width _

pub length-padded_frame : (file : List ℕ) (s : Sizes) → length (padded_frame file s) ≡ padded_samples s
unfolding padded_frame
length-padded_frame file s =
    let y = padded_plane file 6 s.luma in
    let u = padded_plane file (6 + plain s.luma) s.chroma in
    let v = padded_plane file (6 + plain s.luma + plain s.chroma) s.chroma in
    length-append y (u ++ v) ∙ omega (arith, length-append u v, length-padded file 6 s.luma, length-padded file (6 + plain s.luma) s.chroma, length-padded file (6 + plain s.luma + plain s.chroma) s.chroma)

pub length-file_frame : (frame : List ℕ) (s : Sizes) → length (file_frame frame s) ≡ frame_length s
unfolding file_frame
length-file_frame frame s =
    let y = cropped_plane frame 0 s.luma in
    let u = cropped_plane frame (whole s.luma) s.chroma in
    let v = cropped_plane frame (whole s.luma + whole s.chroma) s.chroma in
    length-append frame_mark (y ++ (u ++ v)) ∙ omega (arith, length-append y (u ++ v), length-append u v, length-cropped frame 0 s.luma, length-cropped frame (whole s.luma) s.chroma, length-cropped frame (whole s.luma + whole s.chroma) s.chroma)

-- a list laid behind one that is laid from the start
pub behind : (d o o' : List ℕ) (n : ℕ) (a b : List ℕ) → length a ≡ n → n + length b ≤ length d → o ≡ put d 0 a → o' ≡ put o n b → o' ≡ put d 0 (a ++ b)
behind d o o' n a b e h p q =
    let k : n ≡ 0 + length a = omega arith in
    q ∙ ap (λ (x : List ℕ). put x n b) p ∙ ap (λ (m : ℕ). put (put d 0 a) m b) k ∙ put-put d 0 a b (omega arith)

pub front : (d l : List ℕ) → put d 0 l ≡ l ++ drop (length l) d
unfolding put
front d l = let e : 0 + length l ≡ length l = omega arith in ap (λ (n : ℕ). l ++ drop n d) e

pub padded_laid : (file d o₁ o₂ o₃ : List ℕ) (s : Sizes) → padded_samples s ≤ length d → o₁ ≡ put d 0 (padded_plane file 6 s.luma)
    → o₂ ≡ put o₁ (whole s.luma) (padded_plane file (6 + plain s.luma) s.chroma)
    → o₃ ≡ put o₂ (whole s.luma + whole s.chroma) (padded_plane file (6 + plain s.luma + plain s.chroma) s.chroma)
    → o₃ ≡ put d 0 (padded_frame file s)
unfolding padded_frame
padded_laid file d o₁ o₂ o₃ s room p q r =
    let y = padded_plane file 6 s.luma in
    let u = padded_plane file (6 + plain s.luma) s.chroma in
    let v = padded_plane file (6 + plain s.luma + plain s.chroma) s.chroma in
    let ny = length-padded file 6 s.luma in
    let nu = length-padded file (6 + plain s.luma) s.chroma in
    let nv = length-padded file (6 + plain s.luma + plain s.chroma) s.chroma in
    let two = behind d o₁ o₂ (whole s.luma) y u ny (omega arith) p q in
    behind d o₂ o₃ (whole s.luma + whole s.chroma) (y ++ u) v (length-append y u ∙ omega arith) (omega arith) two r ∙ ap (put d 0) (append_assoc y u v)

pub cropped_laid : (frame d o₀ o₁ o₂ o₃ : List ℕ) (s : Sizes) → frame_length s ≤ length d → o₀ ≡ put d 0 (tab 6 (λ i. get_or frame_mark (0 + i) 0))
    → o₁ ≡ put o₀ 6 (cropped_plane frame 0 s.luma)
    → o₂ ≡ put o₁ (6 + plain s.luma) (cropped_plane frame (whole s.luma) s.chroma)
    → o₃ ≡ put o₂ (6 + plain s.luma + plain s.chroma) (cropped_plane frame (whole s.luma + whole s.chroma) s.chroma)
    → o₃ ≡ put d 0 (file_frame frame s)
unfolding file_frame tab
cropped_laid frame d o₀ o₁ o₂ o₃ s room m p q r =
    let y = cropped_plane frame 0 s.luma in
    let u = cropped_plane frame (whole s.luma) s.chroma in
    let v = cropped_plane frame (whole s.luma + whole s.chroma) s.chroma in
    let ny = length-cropped frame 0 s.luma in
    let nu = length-cropped frame (whole s.luma) s.chroma in
    let nv = length-cropped frame (whole s.luma + whole s.chroma) s.chroma in
    let one = behind d o₀ o₁ 6 frame_mark y refl (omega arith) m p in
    let two = behind d o₁ o₂ (6 + plain s.luma) (frame_mark ++ y) u (length-append frame_mark y ∙ omega arith) (omega arith) one q in
    let long : length ((frame_mark ++ y) ++ u) ≡ 6 + plain s.luma + plain s.chroma = length-append (frame_mark ++ y) u ∙ omega (arith, length-append frame_mark y) in
    behind d o₂ o₃ (6 + plain s.luma + plain s.chroma) ((frame_mark ++ y) ++ u) v long (omega arith) two r
    ∙ ap (put d 0) (append_assoc (frame_mark ++ y) u v ∙ append_assoc frame_mark y (u ++ v))

-- ---- what reading reports
module _ (file : List ℕ) (w h room : ℕ) where
  pub read_1 : (is_size w && is_size h) ≡ false → read_frame file w h room ≡ stopped 1
  unfolding read_frame
  read_1 a = simp a

  pub read_end : (is_size w && is_size h) ≡ true → length file ≡ 0 → read_frame file w h room ≡ stopped 0
  unfolding read_frame
  read_end a b = simp (a, eq-eqb (length file) 0 b)

  pub read_13 : (is_size w && is_size h) ≡ true → (length file ≡ 0 → ⊥) → same (take 6 file) frame_mark ≡ false → read_frame file w h room ≡ stopped 13
  unfolding read_frame
  read_13 a b c = simp (a, ne_eqb (length file) 0 b, c)

  pub read_14 : (is_size w && is_size h) ≡ true → (length file ≡ 0 → ⊥) → same (take 6 file) frame_mark ≡ true → length file < frame_length (sizes w h)
      → read_frame file w h room ≡ stopped 14
  unfolding read_frame
  read_14 a b c d = simp (a, ne_eqb (length file) 0 b, c, lt-ltb (length file) (frame_length (sizes w h)) d)

  pub read_7 : (is_size w && is_size h) ≡ true → (length file ≡ 0 → ⊥) → same (take 6 file) frame_mark ≡ true → frame_length (sizes w h) ≤ length file
      → room < padded_samples (sizes w h) → read_frame file w h room ≡ stopped 7
  unfolding read_frame
  read_7 a b c d e =
      simp (a, ne_eqb (length file) 0 b, c, le-ltb (length file) (frame_length (sizes w h)) d, lt-ltb room (padded_samples (sizes w h)) e)

  pub read_done : (is_size w && is_size h) ≡ true → (length file ≡ 0 → ⊥) → same (take 6 file) frame_mark ≡ true → frame_length (sizes w h) ≤ length file
      → padded_samples (sizes w h) ≤ room → read_frame file w h room ≡ record { number = 0; bytes = frame_length (sizes w h) }
  unfolding read_frame
  read_done a b c d e =
      simp (a, ne_eqb (length file) 0 b, c, le-ltb (length file) (frame_length (sizes w h)) d, le-ltb room (padded_samples (sizes w h)) e)

-- ---- what writing reports
module _ (frame : List ℕ) (w h room : ℕ) where
  pub write_1 : (is_size w && is_size h) ≡ false → write_frame frame w h room ≡ stopped 1
  unfolding write_frame
  write_1 a = simp a

  pub write_14 : (is_size w && is_size h) ≡ true → length frame < padded_samples (sizes w h) → write_frame frame w h room ≡ stopped 14
  unfolding write_frame
  write_14 a b = simp (a, lt-ltb (length frame) (padded_samples (sizes w h)) b)

  pub write_7 : (is_size w && is_size h) ≡ true → padded_samples (sizes w h) ≤ length frame → room < frame_length (sizes w h) → write_frame frame w h room ≡ stopped 7
  unfolding write_frame
  write_7 a b c = simp (a, le-ltb (length frame) (padded_samples (sizes w h)) b, lt-ltb room (frame_length (sizes w h)) c)

  pub write_done : (is_size w && is_size h) ≡ true → padded_samples (sizes w h) ≤ length frame → frame_length (sizes w h) ≤ room
      → write_frame frame w h room ≡ record { number = 0; bytes = frame_length (sizes w h) }
  unfolding write_frame
  write_done a b c = simp (a, le-ltb (length frame) (padded_samples (sizes w h)) b, le-ltb room (frame_length (sizes w h)) c)

-- ---- the outcome
pub kept_output : (l out : List ℕ) (n : ℕ) → output_after (stopped n) l out ≡ out
unfolding output_after
kept_output l out n = refl

pub new_output : (l out : List ℕ) (n k : ℕ) → output_after (record { number = n; bytes = 6 + k }) l out ≡ l ++ drop (length l) out
unfolding output_after
new_output l out n k = ap (λ (t : Bool). cond t out (l ++ drop (length l) out)) (ne_eqb (6 + k) 0 (λ e. omega arith))

pub reads-stopped : (file out : List ℕ) (w h n : ℕ) (r : FrameAnswer) → read_frame file w h (length out) ≡ stopped n → r ≡ stopped n → Reads file w h out r out
reads-stopped file out w h n r e f =
    record {
      report_is = f ∙ sym e;
      bytes_are = sym (ap (λ (x : FrameAnswer). output_after x (padded_frame file (sizes w h)) out) e ∙ kept_output (padded_frame file (sizes w h)) out n);
    }

pub writes-stopped : (frame out : List ℕ) (w h n : ℕ) (r : FrameAnswer) → write_frame frame w h (length out) ≡ stopped n → r ≡ stopped n → Writes frame w h out r out
writes-stopped frame out w h n r e f =
    record {
      report_is = f ∙ sym e;
      bytes_are = sym (ap (λ (x : FrameAnswer). output_after x (file_frame frame (sizes w h)) out) e ∙ kept_output (file_frame frame (sizes w h)) out n);
    }

pub reads_done : (file out out' : List ℕ) (w h n : ℕ) (s : Sizes) → (is_size w && is_size h) ≡ true → (length file ≡ 0 → ⊥) → same (take 6 file) frame_mark ≡ true
    → s ≡ sizes w h → n ≡ frame_length s → n ≤ length file → padded_samples s ≤ length out → out' ≡ put out 0 (padded_frame file s)
    → Reads file w h out (record { number = 0; bytes = n }) out'
reads_done file out out' w h n s a b c e f d g p =
    let k : n ≡ frame_length (sizes w h) = f ∙ ap (λ (x : Sizes). frame_length x) e in
    let m : padded_samples s ≡ padded_samples (sizes w h) = ap (λ (x : Sizes). padded_samples x) e in
    let t = read_done file w h (length out) a b c (omega arith) (omega arith) in
    record {
      report_is = ap (λ (x : ℕ). record { number = 0; bytes = x }) k ∙ sym t;
      bytes_are =
          p ∙ ap (λ (x : Sizes). put out 0 (padded_frame file x)) e ∙ front out (padded_frame file (sizes w h))
          ∙ sym (ap (λ (x : FrameAnswer). output_after x (padded_frame file (sizes w h)) out) t ∙ new_output (padded_frame file (sizes w h)) out 0 (file_samples (sizes w h)));
    }

pub writes_done : (frame out out' : List ℕ) (w h n : ℕ) (s : Sizes) → (is_size w && is_size h) ≡ true → s ≡ sizes w h → padded_samples s ≤ length frame
    → n ≡ frame_length s → n ≤ length out → out' ≡ put out 0 (file_frame frame s) → Writes frame w h out (record { number = 0; bytes = n }) out'
writes_done frame out out' w h n s a e g f d p =
    let k : n ≡ frame_length (sizes w h) = f ∙ ap (λ (x : Sizes). frame_length x) e in
    let m : padded_samples s ≡ padded_samples (sizes w h) = ap (λ (x : Sizes). padded_samples x) e in
    let t = write_done frame w h (length out) a (omega arith) (omega arith) in
    record {
      report_is = ap (λ (x : ℕ). record { number = 0; bytes = x }) k ∙ sym t;
      bytes_are =
          p ∙ ap (λ (x : Sizes). put out 0 (file_frame frame x)) e ∙ front out (file_frame frame (sizes w h))
          ∙ sym (ap (λ (x : FrameAnswer). output_after x (file_frame frame (sizes w h)) out) t ∙ new_output (file_frame frame (sizes w h)) out 0 (file_samples (sizes w h)));
    }
