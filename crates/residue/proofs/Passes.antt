-- What several proofs cite: four numbers at once, and the sixteen that four rows are. Assumes nothing.
use mathlib.Core.Path.{◌≡◌, refl, sym, ap, ◌∙◌, subst}
use mathlib.Core.List.{List, [], ◌∷◌}
use native.Mathlib.Nat.{le_refl, le_trans}
use Prim.Native.Nat.{ℕ, ◌/◌, ◌%◌, ◌≤◌}
use lib.IntN.{ℤ, pos, nat_abs}
use lib.Dec.{T}
use lib.ListN.{replicate}
use mir.Syntax.{Width, w16, w32}
use mir.Val.{to_z, of_z}
use mir.Facts.{to_z-of_z}
use Rattle.signed.specs.Held.{Held, Within, put, inside, fits_in, size-within, add-within, shr-within}
use Rattle.residue.specs.declared.transform.Four.{Four}
use Rattle.residue.specs.declared.transform.Row.{Row}
use Rattle.rfc6386.specs.Raster.{tab}
use Rattle.residue.specs.Transform.{Kernel, down, along, eighth, transform}
use Rattle.residue.specs.Inner.{points, Small, in_column, eighths, Fits}

-- ---- a number v of a struct, read through its bits
abbrev pub back : Width → ℤ → ℤ
back w z = to_z w (of_z w z)

abbrev pub kept : {w : Width} {v z : ℤ} {n : ℕ} → v ≡ z → Within z n n → T (inside w n n) → Held w z n n
kept {v = v} e h t = put v e h (fits_in h t)

-- ---- four numbers at once
pub four : {a b c d a' b' c' d' : ℤ} → a ≡ a' → b ≡ b' → c ≡ c' → d ≡ d' →
    ◌≡◌ {A = Four} (record { 0 = a; 1 = b; 2 = c; 3 = d }) (record { 0 = a'; 1 = b'; 2 = c'; 3 = d' })
four p q r s = λ i. record { 0 = p i; 1 = q i; 2 = r i; 3 = s i }

abbrev pub Points : ℕ → Four → Type 0
Points n q = Small n q.0 q.1 q.2 q.3

pub points-small : {n : ℕ} {q r : Four} → q ≡ r → Points n r → Points n q
points-small {n} e h = subst (Points n) (sym e) h

pub row_of : {a b c d a' b' c' d' : ℤ} → a ≡ a' → b ≡ b' → c ≡ c' → d ≡ d' →
    ◌≡◌ {A = Row} (record { 0 = a; 1 = b; 2 = c; 3 = d }) (record { 0 = a'; 1 = b'; 2 = c'; 3 = d' })
row_of p q r s = λ i. record { 0 = p i; 1 = q i; 2 = r i; 3 = s i }

-- ---- sixteen numbers
pub sixteen : (g : ℕ → ℤ) {a0 a1 a2 a3 a4 a5 a6 a7 a8 a9 a10 a11 a12 a13 a14 a15 : ℤ} →
    a0 ≡ g 0 → a1 ≡ g 1 → a2 ≡ g 2 → a3 ≡ g 3 → a4 ≡ g 4 → a5 ≡ g 5 → a6 ≡ g 6 → a7 ≡ g 7 →
    a8 ≡ g 8 → a9 ≡ g 9 → a10 ≡ g 10 → a11 ≡ g 11 → a12 ≡ g 12 → a13 ≡ g 13 → a14 ≡ g 14 → a15 ≡ g 15 →
    a0 ∷ a1 ∷ a2 ∷ a3 ∷ a4 ∷ a5 ∷ a6 ∷ a7 ∷ a8 ∷ a9 ∷ a10 ∷ a11 ∷ a12 ∷ a13 ∷ a14 ∷ a15 ∷ [] ≡ tab 16 g
unfolding tab
sixteen g e0 e1 e2 e3 e4 e5 e6 e7 e8 e9 e10 e11 e12 e13 e14 e15 =
    λ i. e0 i ∷ e1 i ∷ e2 i ∷ e3 i ∷ e4 i ∷ e5 i ∷ e6 i ∷ e7 i ∷ e8 i ∷ e9 i ∷ e10 i ∷ e11 i ∷ e12 i ∷ e13 i ∷ e14 i ∷ e15 i ∷ []

-- sixteen times one
pub spread : {v z : ℤ} → v ≡ z → replicate 16 v ≡ tab 16 (λ k. z)
spread {z = z} e = sixteen (λ k. z) e e e e e e e e e e e e e e e e

-- r, read through its bits, is row i of the transform
pub record Rowed (f : Kernel) (n : ℕ) (x : List ℤ) (i : ℕ) (r : Row) : Type 0 where
  pub q0 : back w16 r.0 ≡ eighth n (along f x i 0)
  pub q1 : back w16 r.1 ≡ eighth n (along f x i 1)
  pub q2 : back w16 r.2 ≡ eighth n (along f x i 2)
  pub q3 : back w16 r.3 ≡ eighth n (along f x i 3)

pub block_of : {f : Kernel} {n : ℕ} {x : List ℤ} {r s t u : Row} → Rowed f n x 0 r → Rowed f n x 1 s → Rowed f n x 2 t → Rowed f n x 3 u →
    back w16 r.0 ∷ back w16 r.1 ∷ back w16 r.2 ∷ back w16 r.3 ∷ back w16 s.0 ∷ back w16 s.1 ∷ back w16 s.2 ∷ back w16 s.3
    ∷ back w16 t.0 ∷ back w16 t.1 ∷ back w16 t.2 ∷ back w16 t.3 ∷ back w16 u.0 ∷ back w16 u.1 ∷ back w16 u.2 ∷ back w16 u.3 ∷ []
    ≡ transform f n x
unfolding transform
block_of {f} {n} {x} a b c d =
    sixteen (λ k. eighth n (along f x (k / 4) (k % 4)))
    a.q0 a.q1 a.q2 a.q3 b.q0 b.q1 b.q2 b.q3 c.q0 c.q1 c.q2 c.q3 d.q0 d.q1 d.q2 d.q3

-- ---- the two passes
abbrev pub made : Kernel → Four → Four
made f q = points f q.0 q.1 q.2 q.3

-- column j of what the first gives, row i of that, and what the second makes of it
abbrev pub downs : Kernel → List ℤ → ℕ → Four
downs f x j = record { 0 = down f x 0 j; 1 = down f x 1 j; 2 = down f x 2 j; 3 = down f x 3 j }

abbrev pub entered : Kernel → List ℤ → ℕ → Four
entered f x i = record { 0 = down f x i 0; 1 = down f x i 1; 2 = down f x i 2; 3 = down f x i 3 }

abbrev pub alongs : Kernel → List ℤ → ℕ → Four
alongs f x i = record { 0 = along f x i 0; 1 = along f x i 1; 2 = along f x i 2; 3 = along f x i 3 }

pub made_of : (f : Kernel) {a q r : Four} → q ≡ r → a ≡ made f q → a ≡ made f r
made_of f h e = e ∙ ap (made f) h

held : {v z : ℤ} → v ≡ z → nat_abs z ≤ 65532 → back w32 v ≡ z
held {z = z} e p = ap (back w32) e ∙ to_z-of_z (fits_in {w = w32} {z = z} {u = 65532} {d = 65532} (size-within p) tt)

cut_held : {n : ℕ} {v : ℤ} (z : ℤ) → n ≤ 4 → nat_abs z ≤ 262128 → v ≡ eighth n z → back w16 v ≡ eighth n z
cut_held {n} z h p e =
    let b : Within (pos n) 4 0 = record { up_le = h; dn_le = le_refl 0 } in
    let w : Within z 262128 262128 = size-within p in
    let c : Within (eighth n z) 32766 32766 = shr-within 7 (add-within w b) in
    ap (back w16) e ∙ to_z-of_z (fits_in {w = w16} {z = eighth n z} {u = 32766} {d = 32766} c tt)

-- the four columns
pub record Columns (f : Kernel) (x : List ℤ) (a b c d : Four) : Type 0 where
  pub a_is : a ≡ downs f x 0
  pub b_is : b ≡ downs f x 1
  pub c_is : c ≡ downs f x 2
  pub d_is : d ≡ downs f x 3

pub columns : {f : Kernel} {x : List ℤ} {q r s t a b c d : Four} → q ≡ in_column x 0 → a ≡ made f q → r ≡ in_column x 1 → b ≡ made f r → s ≡ in_column x 2 → c ≡ made f s → t ≡ in_column x 3
    → d ≡ made f t → Columns f x a b c d
columns {f} q_is a_is r_is b_is s_is c_is t_is d_is =
    record { a_is = made_of f q_is a_is; b_is = made_of f r_is b_is; c_is = made_of f s_is c_is; d_is = made_of f t_is d_is }

module _ {f : Kernel} {m : ℕ} {x : List ℤ} (F : Fits f m x) where
  module _ {a b c d : Four} (C : Columns f x a b c d) where
    entries : (i : ℕ) (p : Four → ℤ) → ((j : ℕ) → p (downs f x j) ≡ down f x i j)
        → ◌≡◌ {A = Four} (record { 0 = back w32 (p a); 1 = back w32 (p b); 2 = back w32 (p c); 3 = back w32 (p d) }) (entered f x i)
    entries i p e =
        let s = F.rows i in
        four
        (held (ap p C.a_is ∙ e 0) (le_trans s.first F.most))
        (held (ap p C.b_is ∙ e 1) (le_trans s.second F.most))
        (held (ap p C.c_is ∙ e 2) (le_trans s.third F.most))
        (held (ap p C.d_is ∙ e 3) (le_trans s.fourth F.most))

    pub row0 : ◌≡◌ {A = Four} (record { 0 = back w32 a.0; 1 = back w32 b.0; 2 = back w32 c.0; 3 = back w32 d.0 }) (entered f x 0)
    row0 = entries 0 (λ q. q.0) (λ j. refl)

    pub row1 : ◌≡◌ {A = Four} (record { 0 = back w32 a.1; 1 = back w32 b.1; 2 = back w32 c.1; 3 = back w32 d.1 }) (entered f x 1)
    row1 = entries 1 (λ q. q.1) (λ j. refl)

    pub row2 : ◌≡◌ {A = Four} (record { 0 = back w32 a.2; 1 = back w32 b.2; 2 = back w32 c.2; 3 = back w32 d.2 }) (entered f x 2)
    row2 = entries 2 (λ q. q.2) (λ j. refl)

    pub row3 : ◌≡◌ {A = Four} (record { 0 = back w32 a.3; 1 = back w32 b.3; 2 = back w32 c.3; 3 = back w32 d.3 }) (entered f x 3)
    row3 = entries 3 (λ q. q.3) (λ j. refl)

  pub rowed : {n i : ℕ} {q : Four} {r : Row} → n ≤ 4 → q ≡ alongs f x i → r ≡ eighths n q → Rowed f n x i r
  rowed {n} {i} {q} {r} h e k =
      let s = F.results i in
      let g : r ≡ eighths n (alongs f x i) = k ∙ ap (eighths n) e in
      record {
        q0 = cut_held (along f x i 0) h s.first (ap (λ (y : Row). y.0) g);
        q1 = cut_held (along f x i 1) h s.second (ap (λ (y : Row). y.1) g);
        q2 = cut_held (along f x i 2) h s.third (ap (λ (y : Row). y.2) g);
        q3 = cut_held (along f x i 3) h s.fourth (ap (λ (y : Row). y.3) g);
      }
