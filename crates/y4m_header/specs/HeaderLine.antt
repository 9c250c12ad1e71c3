-- What a header line means. Bytes are ASCII: 10 is the newline, 32 the space, 67 C, 72 H, 87 W.
use Rattle.std.specs.Prelude.{Bool, true, false, cond, not, ◌&&◌, List, [], ◌∷◌, ℕ, ◌+◌, length, take, leb, ltb, eqb, Result}
use Rattle.numbers.specs.declared.Refusal.{Refusal}
use Rattle.numbers.specs.Outcome.{outcome}
use Rattle.y4m_header.specs.Words.{before, words, same, digits, worth}
use Rattle.y4m_header.specs.declared.Header.{Header}

-- YUV4MPEG2
abbrev pub mark : List ℕ
mark = 89 ∷ 85 ∷ 86 ∷ 52 ∷ 77 ∷ 80 ∷ 69 ∷ 71 ∷ 50 ∷ []

-- 420jpeg
abbrev pub jpeg420 : List ℕ
jpeg420 = 52 ∷ 50 ∷ 48 ∷ 106 ∷ 112 ∷ 101 ∷ 103 ∷ []

-- the number in at most five digits, if it is one from 1 to 16384; or 0, which is no size
unfoldable pub size : List ℕ → ℕ
size l = cond (leb (length l) 5 && (digits l && leb (worth 0 l) 16384)) (worth 0 l) 0

-- ---- what is told so far: a size of 0 is not told yet; no longer good once a rule is broken
pub record Told : Type 0 where
  pub good : Bool
  pub width : ℕ
  pub height : ℕ
  pub colour : Bool

abbrev pub nothing : Told
nothing = record { good = true; width = 0; height = 0; colour = false }

abbrev pub broken : Told
broken = record { good = false; width = 0; height = 0; colour = false }

unfoldable pub tell_width : ℕ → Told → Told
tell_width n t = cond (eqb t.width 0 && not (eqb n 0)) (record { good = t.good; width = n; height = t.height; colour = t.colour }) broken

unfoldable pub tell_height : ℕ → Told → Told
tell_height n t = cond (eqb t.height 0 && not (eqb n 0)) (record { good = t.good; width = t.width; height = n; colour = t.colour }) broken

unfoldable pub tell_colour : Bool → Told → Told
tell_colour known t = cond (not t.colour && known) (record { good = t.good; width = t.width; height = t.height; colour = true }) broken

-- one parameter: its first letter names it
unfoldable pub tell : Told → List ℕ → Told
tell t [] = broken
tell t (name ∷ l) =
    cond (eqb name 87) (tell_width (size l) t)
    (cond (eqb name 72) (tell_height (size l) t)
    (cond (eqb name 67) (tell_colour (same l jpeg420) t)
    t))

unfoldable pub tell_all : Told → List (List ℕ) → Told
tell_all t [] = t
tell_all t (w ∷ ws) = tell_all (tell t w) ws

-- the words of the whole line
unfoldable pub told : List (List ℕ) → Told
told [] = broken
told (first ∷ parameters) = cond (same first mark) (tell_all nothing parameters) broken

-- ---- the header of a file
-- its line, without the newline, which stands within the first 256 bytes
abbrev pub line : List ℕ → List ℕ
line file = before 10 (take 256 file)

abbrev pub ended : List ℕ → Bool
ended file = ltb (length (line file)) (length (take 256 file))

abbrev pub complete : Told → Bool
complete t = t.good && (not (eqb t.width 0) && not (eqb t.height 0))

-- what a call answers: 0, the sizes and how many bytes were taken, or 12 and three zeros
pub record HeaderAnswer : Type 0 where
  pub number : ℕ
  pub width : ℕ
  pub height : ℕ
  pub taken : ℕ

abbrev pub refused : HeaderAnswer
refused = record { number = 12; width = 0; height = 0; taken = 0 }

unfoldable pub heading : Told → ℕ → HeaderAnswer
heading t n = cond (complete t) (record { number = 0; width = t.width; height = t.height; taken = n }) refused

unfoldable pub header_of : List ℕ → HeaderAnswer
header_of file = cond (ended file) (heading (told (words (line file))) (length (line file) + 1)) refused

-- a function's result, told so: a header with 0, a refusal by its number
abbrev pub header_told : Result Header Refusal → HeaderAnswer
header_told r =
    outcome
    (λ h. record { number = 0; width = h.width; height = h.height; taken = h.taken })
    (λ n. record { number = n; width = 0; height = 0; taken = 0 })
    r
