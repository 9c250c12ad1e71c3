-- A vector as its bytes, sixteen times, and that they are read back to it. Assumes nothing.
use Rattle.std.specs.Prelude.{◌≡◌, List, [], ◌∷◌, ℕ, ◌+◌, ◌-◌, ◌*◌, ◌/◌, ◌%◌, ◌<◌, get_or, ℤ, pos, negsuc}
use Rattle.std.proofs.Common.{sym, ap, ap₂, ◌∙◌, arith, SFits}
use Rattle.std.proofs.lemmas.List.{length-replicate, get_or-replicate}
use Rattle.std.specs.Int.{w16}
use Rattle.signed.specs.Int.{int, range, diff}
use Rattle.rfc6386.specs.Number.{floor_mod, wrap16}
use Rattle.rfc6386.specs.Raster.{tab}
use Rattle.rfc6386.specs.Telling.{sixteen}
use Rattle.rfc6386.proofs.Laws.Vectors.{vector, wrap_in, wrap_high}
use Rattle.rfc6386.proofs.Laws.Raster.{length-tab, get_or-tab, is-tab}
use Rattle.vector_bytes.specs.Bytes.{int16, vector_at, vectors_of}
use Rattle.vector_bytes.specs.Laws.{vectors_read}
use Rattle.rfc6386.specs.declared.Mv.{Mv}

-- a component as the sixteen bits that hold it: its low byte, and its high one
abbrev pub low_byte : ℤ → ℕ
low_byte z = floor_mod z 65536 % 256

abbrev pub high_byte : ℤ → ℕ
high_byte z = floor_mod z 65536 / 256

abbrev pub spelled : Mv → List ℕ
spelled v = low_byte v.row ∷ high_byte v.row ∷ low_byte v.col ∷ high_byte v.col ∷ []

abbrev pub sixteen_spelled : Mv → List ℕ
sixteen_spelled v = tab 64 (λ i. get_or (spelled v) (i % 4) 0)

component : (z : ℤ) → SFits w16 z → int16 (low_byte z) (high_byte z) ≡ z
component (pos a) f =
    let e : low_byte (pos a) + 256 * high_byte (pos a) ≡ a = omega (int, range f) in
    ap (λ (n : ℕ). wrap16 (pos n)) e ∙ wrap_in (pos a) (omega (int, range f)) (omega arith)
component (negsuc a) f =
    let n = 65535 - a in
    let e : low_byte (negsuc a) + 256 * high_byte (negsuc a) ≡ n = omega (int, range f) in
    ap (λ (n : ℕ). wrap16 (pos n)) e ∙ wrap_high (pos n) (omega (int, range f)) (omega arith) ∙ omega (int, range f, diff (pos n) (pos 65536))

module _ (v : Mv) (fr : SFits w16 v.row) (fc : SFits w16 v.col) where
  at : (i j : ℕ) → i < 16 → j < 4 → get_or (sixteen_spelled v) (4 * i + j) 0 ≡ get_or (spelled v) j 0
  at i j h k =
      let e : (4 * i + j) % 4 ≡ j = omega arith in
      get_or-tab 64 (λ i. get_or (spelled v) (i % 4) 0) (4 * i + j) 0 (omega arith) ∙ ap (λ (n : ℕ). get_or (spelled v) n 0) e

  first : (i : ℕ) → i < 16 → get_or (sixteen_spelled v) (4 * i) 0 ≡ low_byte v.row
  first i h = let e : 4 * i ≡ 4 * i + 0 = omega arith in ap (λ (n : ℕ). get_or (sixteen_spelled v) n 0) e ∙ at i 0 h (omega arith)

  vector_is : (i : ℕ) → i < 16 → vector_at (sixteen_spelled v) i ≡ v
  vector_is i h =
      vector (ap₂ int16 (first i h) (at i 1 h (omega arith)) ∙ component v.row fr)
      (ap₂ int16 (at i 2 h (omega arith)) (at i 3 h (omega arith)) ∙ component v.col fc)

  -- THEOREM. Read back, those bytes are the vector sixteen times.
  pub spelled_is : vectors_of (sixteen_spelled v) ≡ sixteen v
  spelled_is =
      vectors_read (sixteen_spelled v) (length-tab 64 (λ i. get_or (spelled v) (i % 4) 0))
      ∙ sym (is-tab v 16 (vector_at (sixteen_spelled v)) (sixteen v) (length-replicate 16 v) (λ i h. get_or-replicate 16 i v v h ∙ sym (vector_is i h)))
