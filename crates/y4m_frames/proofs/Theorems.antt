-- Theorems of the calls, from their contracts `Reads` and `Writes` alone: those of `read_frame` and `write_frame`, and of the calls for C.
-- Assumes nothing.
use Rattle.std.specs.Prelude.{◌≡◌, refl, Bool, true, false, cond, not, ◌&&◌, List, [], ◌++◌, ℕ, ◌≤◌, ltb, eqb, length, take, drop}
use Rattle.std.proofs.Common.{sym, ap, ◌∙◌, arith, mul-le-mul, length-append, length-take, ltb-false, eq-eqb}
use Rattle.std.proofs.lemmas.Bool.{eqb-false}
use Rattle.y4m_header.specs.Words.{same}
use Rattle.y4m_header.proofs.Definitions.{same_lengths}
use Rattle.y4m_frames.specs.Frames.{FrameAnswer, frame_mark, sizes, file_samples, padded_samples, frame_length, padded_frame, file_frame, is_size, stopped, read_frame, write_frame, output_after, Reads, Writes}
use Rattle.y4m_frames.proofs.Calls.{are_sized, sizes_sound, length-padded_frame, length-file_frame, read_end, read_13, read_14, read_done, write_done, kept_output, new_output}
use Rattle.y4m_frames.proofs.RoundTrip.{frame_back, edged_frame, frame_again, padded-edged}
use Rattle.y4m_frames.specs.declared.planes.Sizes.{Sizes}

-- ---- a call's outcome
-- THEOREM. Two outcomes of one call have the same report and the same final bytes.
pub one_reading : {file : List ℕ} {w h : ℕ} {out : List ℕ} {r r' : FrameAnswer} {out' out'' : List ℕ} → Reads file w h out r out' → Reads file w h out r' out'' → (r ≡ r') × (out' ≡ out'')
one_reading a b = (a.report_is ∙ sym b.report_is, a.bytes_are ∙ sym b.bytes_are)

pub one_writing : {frame : List ℕ} {w h : ℕ} {out : List ℕ} {r r' : FrameAnswer} {out' out'' : List ℕ} → Writes frame w h out r out' → Writes frame w h out r' out'' → (r ≡ r') × (out' ≡ out'')
one_writing a b = (a.report_is ∙ sym b.report_is, a.bytes_are ∙ sym b.bytes_are)

-- ---- refusals, and the end
none_kept : (x : FrameAnswer) (l out : List ℕ) → x.bytes ≡ 0 → output_after x l out ≡ out
unfolding output_after
none_kept x l out e = ap (λ (t : Bool). cond t out (l ++ drop (length l) out)) (eq-eqb x.bytes 0 e)

no_bytes_read : (file : List ℕ) (w h room : ℕ) → ((read_frame file w h room).number ≡ 0 → ⊥) → (read_frame file w h room).bytes ≡ 0
unfolding read_frame
no_bytes_read file w h room e =
    go (is_size w && is_size h) (eqb (length file) 0) (same (take 6 file) frame_mark) (ltb (length file) (frame_length (sizes w h)))
    (ltb room (padded_samples (sizes w h))) e
  where
    outcome : Bool → Bool → Bool → Bool → Bool → FrameAnswer
    outcome a b c d f =
        cond (not a) (stopped 1) (cond b (stopped 0) (cond (not c) (stopped 13) (cond d (stopped 14) (cond f (stopped 7) (record { number = 0; bytes = frame_length (sizes w h) })))))

    go : (a b c d f : Bool) → ((outcome a b c d f).number ≡ 0 → ⊥) → (outcome a b c d f).bytes ≡ 0
    go false b c d f e = refl
    go true true c d f e = refl
    go true false false d f e = refl
    go true false true true f e = refl
    go true false true false true e = refl
    go true false true false false e = absurd (e refl)

no_bytes_written : (frame : List ℕ) (w h room : ℕ) → ((write_frame frame w h room).number ≡ 0 → ⊥) → (write_frame frame w h room).bytes ≡ 0
unfolding write_frame
no_bytes_written frame w h room e = go (is_size w && is_size h) (ltb (length frame) (padded_samples (sizes w h))) (ltb room (frame_length (sizes w h))) e
  where
    outcome : Bool → Bool → Bool → FrameAnswer
    outcome a d f = cond (not a) (stopped 1) (cond d (stopped 14) (cond f (stopped 7) (record { number = 0; bytes = frame_length (sizes w h) })))

    go : (a d f : Bool) → ((outcome a d f).number ≡ 0 → ⊥) → (outcome a d f).bytes ≡ 0
    go false d f e = refl
    go true true f e = refl
    go true false true e = refl
    go true false false e = absurd (e refl)

-- THEOREM. A refused call reports no bytes, and its output is as it was.
pub refused_read : {file : List ℕ} {w h : ℕ} {out : List ℕ} {r : FrameAnswer} {out' : List ℕ} → Reads file w h out r out' → (r.number ≡ 0 → ⊥) → (r.bytes ≡ 0) × (out' ≡ out)
refused_read {file} {w} {h} {out} a e =
    let report = a.report_is in
    let z = no_bytes_read file w h (length out) (λ n. e (ap (λ (x : FrameAnswer). x.number) report ∙ n)) in
    (ap (λ (x : FrameAnswer). x.bytes) report ∙ z, a.bytes_are ∙ none_kept (read_frame file w h (length out)) (padded_frame file (sizes w h)) out z)

pub refused_write : {frame : List ℕ} {w h : ℕ} {out : List ℕ} {r : FrameAnswer} {out' : List ℕ} → Writes frame w h out r out' → (r.number ≡ 0 → ⊥) → (r.bytes ≡ 0) × (out' ≡ out)
refused_write {frame} {w} {h} {out} a e =
    let report = a.report_is in
    let z = no_bytes_written frame w h (length out) (λ n. e (ap (λ (x : FrameAnswer). x.number) report ∙ n)) in
    (ap (λ (x : FrameAnswer). x.bytes) report ∙ z, a.bytes_are ∙ none_kept (write_frame frame w h (length out)) (file_frame frame (sizes w h)) out z)

-- THEOREM. At the end of a file a call is done and takes nothing, and an output of any length is as it was.
pub end_read : {w h : ℕ} {out : List ℕ} {r : FrameAnswer} {out' : List ℕ} → Reads [] w h out r out' → (is_size w && is_size h) ≡ true → (r ≡ stopped 0) × (out' ≡ out)
end_read {w} {h} {out} a e =
    let end = read_end [] w h (length out) e refl in
    (a.report_is ∙ end, a.bytes_are ∙ ap (λ (x : FrameAnswer). output_after x (padded_frame [] (sizes w h)) out) end ∙ kept_output (padded_frame [] (sizes w h)) out 0)

-- THEOREM. One to five bytes are 13, the mark alone is 14, whatever the output.
pub few_bytes : (file : List ℕ) (w h room : ℕ) → (is_size w && is_size h) ≡ true → 1 ≤ length file → length file ≤ 5 → read_frame file w h room ≡ stopped 13
few_bytes file w h room e some few =
    read_13 file w h room e (λ (z : length file ≡ 0). omega arith) (same_lengths (take 6 file) frame_mark (λ (z : length (take 6 file) ≡ 6). omega (arith, length-take 6 file)))

pub mark_alone : (w h room : ℕ) → (is_size w && is_size h) ≡ true → read_frame frame_mark w h room ≡ stopped 14
unfolding same
mark_alone w h room e =
    let p = are_sized w h e in
    let some = mul-le-mul p.1.least p.0.least in
    read_14 frame_mark w h room e (λ (z : 6 ≡ 0). omega arith) refl (omega arith)

-- ---- calls that take or write bytes
-- what such a call was lent
pub record Taken (file : List ℕ) (w h room : ℕ) : Type 0 where
  pub sized : (is_size w && is_size h) ≡ true
  pub some : length file ≡ 0 → ⊥
  pub marked : same (take 6 file) frame_mark ≡ true
  pub held : frame_length (sizes w h) ≤ length file
  pub fits : padded_samples (sizes w h) ≤ room

pub taken : (file : List ℕ) (w h room : ℕ) → ((read_frame file w h room).bytes ≡ 0 → ⊥) → Taken file w h room
unfolding read_frame
taken file w h room e =
    go (is_size w && is_size h) refl (eqb (length file) 0) refl (same (take 6 file) frame_mark) refl (ltb (length file) (frame_length (sizes w h))) refl
    (ltb room (padded_samples (sizes w h))) refl e
  where
    go : (a : Bool) → (is_size w && is_size h) ≡ a → (b : Bool) → eqb (length file) 0 ≡ b → (c : Bool) → same (take 6 file) frame_mark ≡ c
        → (d : Bool) → ltb (length file) (frame_length (sizes w h)) ≡ d → (f : Bool) → ltb room (padded_samples (sizes w h)) ≡ f
        → ((cond (not a) (stopped 1) (cond b (stopped 0) (cond (not c) (stopped 13) (cond d (stopped 14) (cond f (stopped 7) (record { number = 0; bytes = frame_length (sizes w h) })))))).bytes ≡ 0 → ⊥)
        → Taken file w h room
    go false p b q c r d s f t e = absurd (e refl)
    go true p true q c r d s f t e = absurd (e refl)
    go true p false q false r d s f t e = absurd (e refl)
    go true p false q true r true s f t e = absurd (e refl)
    go true p false q true r false s true t e = absurd (e refl)
    go true p false q true r false s false t e =
        record { sized = p; some = eqb-false (length file) 0 q; marked = r; held = ltb-false (length file) (frame_length (sizes w h)) s; fits = ltb-false room (padded_samples (sizes w h)) t }

pub record Written (frame : List ℕ) (w h room : ℕ) : Type 0 where
  pub sized : (is_size w && is_size h) ≡ true
  pub held : padded_samples (sizes w h) ≤ length frame
  pub fits : frame_length (sizes w h) ≤ room

pub written : (frame : List ℕ) (w h room : ℕ) → ((write_frame frame w h room).bytes ≡ 0 → ⊥) → Written frame w h room
unfolding write_frame
written frame w h room e =
    go (is_size w && is_size h) refl (ltb (length frame) (padded_samples (sizes w h))) refl (ltb room (frame_length (sizes w h))) refl e
  where
    go : (a : Bool) → (is_size w && is_size h) ≡ a → (d : Bool) → ltb (length frame) (padded_samples (sizes w h)) ≡ d → (f : Bool) → ltb room (frame_length (sizes w h)) ≡ f
        → ((cond (not a) (stopped 1) (cond d (stopped 14) (cond f (stopped 7) (record { number = 0; bytes = frame_length (sizes w h) })))).bytes ≡ 0 → ⊥)
        → Written frame w h room
    go false p d s f t e = absurd (e refl)
    go true p true s f t e = absurd (e refl)
    go true p false s true t e = absurd (e refl)
    go true p false s false t e =
        record { sized = p; held = ltb-false (length frame) (padded_samples (sizes w h)) s; fits = ltb-false room (frame_length (sizes w h)) t }

-- THEOREM. A call that takes bytes takes the frame's, lays the padded frame at its output's start, and the rest of the output is as it was.
pub frame_read : {file : List ℕ} {w h : ℕ} {out : List ℕ} {r : FrameAnswer} {out' : List ℕ} → Reads file w h out r out' → (r.bytes ≡ 0 → ⊥)
    → (r ≡ record { number = 0; bytes = frame_length (sizes w h) }) × (out' ≡ padded_frame file (sizes w h) ++ drop (padded_samples (sizes w h)) out)
frame_read {file} {w} {h} {out} {r} {out'} a some =
    let s = sizes w h in
    let l = padded_frame file s in
    let t = taken file w h (length out) (λ z. some (ap (λ (x : FrameAnswer). x.bytes) a.report_is ∙ z)) in
    let done = read_done file w h (length out) t.sized t.some t.marked t.held t.fits in (
      a.report_is ∙ done,
      a.bytes_are
          ∙ ap (λ (x : FrameAnswer). output_after x l out) done
          ∙ new_output l out 0 (file_samples s)
          ∙ ap (λ (k : ℕ). l ++ drop k out) (length-padded_frame file s),
    )

-- THEOREM. A call that writes bytes lays the mark and the cropped samples at its output's start, and the rest of the output is as it was.
pub frame_written : {frame : List ℕ} {w h : ℕ} {out : List ℕ} {r : FrameAnswer} {out' : List ℕ} → Writes frame w h out r out' → (r.bytes ≡ 0 → ⊥)
    → (r ≡ record { number = 0; bytes = frame_length (sizes w h) }) × (out' ≡ file_frame frame (sizes w h) ++ drop (frame_length (sizes w h)) out)
frame_written {frame} {w} {h} {out} {r} {out'} a some =
    let s = sizes w h in
    let l = file_frame frame s in
    let t = written frame w h (length out) (λ z. some (ap (λ (x : FrameAnswer). x.bytes) a.report_is ∙ z)) in
    let done = write_done frame w h (length out) t.sized t.held t.fits in (
      a.report_is ∙ done,
      a.bytes_are
          ∙ ap (λ (x : FrameAnswer). output_after x l out) done
          ∙ new_output l out 0 (file_samples s)
          ∙ ap (λ (k : ℕ). l ++ drop k out) (length-file_frame frame s),
    )

-- ---- round trips
-- THEOREM. A frame that one call has read, written by another into an output with room for it: as many bytes are written as were taken, they are
-- the bytes that were taken, mark and samples, and the rest of the output is as it was.
pub read_and_written : {file : List ℕ} {w h : ℕ} {out : List ℕ} {r : FrameAnswer} {out' to : List ℕ} {r' : FrameAnswer} {to' : List ℕ} → Reads file w h out r out' → (r.bytes ≡ 0 → ⊥)
    → r.bytes ≤ length to → Writes out' w h to r' to' → (r' ≡ r) × (to' ≡ take r.bytes file ++ drop r.bytes to)
read_and_written {file} {w} {h} {out} {r} {out'} {to} {r'} {to'} a some room b =
    let s = sizes w h in
    let l = padded_frame file s in
    let t = taken file w h (length out) (λ z. some (ap (λ (x : FrameAnswer). x.bytes) a.report_is ∙ z)) in
    let read = frame_read a some in
    let rest = drop (padded_samples s) out in
    let n : r.bytes ≡ frame_length s = ap (λ (x : FrameAnswer). x.bytes) read.0 in
    let long : padded_samples s ≤ length out' = omega (arith, ap length read.1, length-append l rest, length-padded_frame file s) in
    let done = write_done out' w h (length to) t.sized long (omega arith) in
    let wrote = frame_written b (λ (z : r'.bytes ≡ 0). omega (arith, ap (λ (x : FrameAnswer). x.bytes) (b.report_is ∙ done))) in
    let f : file_frame out' s ≡ take (frame_length s) file =
    ap (λ (x : List ℕ). file_frame x s) read.1 ∙ frame_back file rest s (sizes_sound w h t.sized) t.marked t.held in (
      wrote.0 ∙ sym read.0,
      wrote.1 ∙ ap (λ (x : List ℕ). x ++ drop (frame_length s) to) f ∙ ap (λ (k : ℕ). take k file ++ drop k to) (sym n),
    )

mark_first : (frame rest : List ℕ) (s : Sizes) → same (take 6 (file_frame frame s ++ rest)) frame_mark ≡ true
unfolding same file_frame
mark_first frame rest s = refl

-- THEOREM. A frame that one call has written, read by another into an output with room for it: as many bytes are taken as were written, and the
-- output has the frame with its edges repeated, and the rest of it is as it was.
pub written_and_read : {frame : List ℕ} {w h : ℕ} {out : List ℕ} {r : FrameAnswer} {out' to : List ℕ} {r' : FrameAnswer} {to' : List ℕ} → Writes frame w h out r out' → (r.bytes ≡ 0 → ⊥)
    → padded_samples (sizes w h) ≤ length to → Reads out' w h to r' to' → (r' ≡ r) × (to' ≡ edged_frame frame (sizes w h) ++ drop (padded_samples (sizes w h)) to)
written_and_read {frame} {w} {h} {out} {r} {out'} {to} {r'} {to'} a some room b =
    let s = sizes w h in
    let l = file_frame frame s in
    let t = written frame w h (length out) (λ z. some (ap (λ (x : FrameAnswer). x.bytes) a.report_is ∙ z)) in
    let wrote = frame_written a some in
    let rest = drop (frame_length s) out in
    let long : frame_length s ≤ length out' = omega (arith, ap length wrote.1, length-append l rest, length-file_frame frame s) in
    let marked : same (take 6 out') frame_mark ≡ true = ap (λ (x : List ℕ). same (take 6 x) frame_mark) wrote.1 ∙ mark_first frame rest s in
    let done = read_done out' w h (length to) t.sized (λ (z : length out' ≡ 0). omega arith) marked long room in
    let read = frame_read b (λ (z : r'.bytes ≡ 0). omega (arith, ap (λ (x : FrameAnswer). x.bytes) (b.report_is ∙ done))) in
    let f : padded_frame out' s ≡ edged_frame frame s =
    ap (λ (x : List ℕ). padded_frame x s) wrote.1 ∙ frame_again frame rest s (sizes_sound w h t.sized) in (
      read.0 ∙ sym wrote.0,
      read.1 ∙ ap (λ (x : List ℕ). x ++ drop (padded_samples s) to) f,
    )

-- THEOREM. A frame that is read, written and read again has the same samples the second time, those of the padding too.
pub read_again : {file : List ℕ} {w h : ℕ} {out : List ℕ} {r : FrameAnswer} {out' to : List ℕ} {r' : FrameAnswer} {to' on : List ℕ} {r'' : FrameAnswer} {on' : List ℕ} → Reads file w h out r out'
    → (r.bytes ≡ 0 → ⊥) → r.bytes ≤ length to → Writes out' w h to r' to' → padded_samples (sizes w h) ≤ length on → Reads to' w h on r'' on'
    → (r'' ≡ r) × (on' ≡ padded_frame file (sizes w h) ++ drop (padded_samples (sizes w h)) on)
read_again {file} {w} {h} {out} {r} {out'} {to} {r'} {to'} {on} a some room b more c =
    let s = sizes w h in
    let t = taken file w h (length out) (λ z. some (ap (λ (x : FrameAnswer). x.bytes) a.report_is ∙ z)) in
    let back = read_and_written a some room b in
    let again = written_and_read b (λ z. some (sym (ap (λ (x : FrameAnswer). x.bytes) back.0) ∙ z)) more c in
    let f : edged_frame out' s ≡ padded_frame file s =
    ap (λ (x : List ℕ). edged_frame x s) (frame_read a some).1
    ∙ padded-edged file (drop (padded_samples s) out) s (sizes_sound w h t.sized) t.marked t.held in
    (again.0 ∙ back.0, again.1 ∙ ap (λ (x : List ℕ). x ++ drop (padded_samples s) on) f)
