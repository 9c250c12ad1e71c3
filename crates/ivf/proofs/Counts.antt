-- A file with a count in its header: its length, its bytes, and the count read back. Assumes nothing.
use Rattle.std.specs.Prelude.{◌≡◌, ℕ, ◌+◌, ◌*◌, ◌/◌, ◌%◌, ◌<◌, ◌≤◌, length, get_or, take, set}
use Rattle.std.proofs.Common.{sym, ◌∙◌, arith, length-append, take-append-drop, length-take-le, get_or-set_other, get_or-drop, drop-cons, take-add}
use Rattle.std.proofs.Math.Path.{ap, ap₂}
use mathlib.Core.List.{List, [], ◌∷◌, ◌++◌, append_assoc}
use Rattle.std.proofs.Math.ListN.{drop}
use Rattle.std.proofs.lemmas.List.Edits.{sets}
use Rattle.std.proofs.Math.Seq.{sets-eq, length-sets, take_at, drop_at}
use Rattle.ivf.specs.Format.{bytes4, count_bytes, count_in}
use Rattle.ivf.specs.Mending.{counted}

-- ---- four bytes and their number
digits : (n a b c d q r s : ℕ) → a + 256 * q ≡ n → b + 256 * r ≡ q → c + 256 * s ≡ r → d ≡ s → a + 256 * b + 65536 * c + 16777216 * d ≡ n
digits n a b c d q r s e f g h = omega arith

-- a number below 2^32 is read back from its four bytes
bytes_number : (n : ℕ) → n < 4294967296 → n % 256 + 256 * (n / 256 % 256) + 65536 * (n / 65536 % 256) + 16777216 * (n / 16777216 % 256) ≡ n
bytes_number n h = digits n _ _ _ _ (n / 256) (n / 65536) (n / 16777216) (omega arith) (omega arith) (omega arith) (omega arith)

four : (a b c d p q r s : ℕ) → p ≡ a → q ≡ b → r ≡ c → s ≡ d → a ∷ b ∷ c ∷ d ∷ [] ≡ p ∷ q ∷ r ∷ s ∷ []
four a b c d p q r s e f g h = sym (λ i. e i ∷ f i ∷ g i ∷ h i ∷ [])

-- four bytes are those of their number
number_bytes : (a b c d : ℕ) → a < 256 → b < 256 → c < 256 → d < 256 → a ∷ b ∷ c ∷ d ∷ [] ≡ bytes4 (a + 256 * b + 65536 * c + 16777216 * d)
number_bytes a b c d p q r s = four a b c d _ _ _ _ (omega arith) (omega arith) (omega arith) (omega arith)

-- ---- a file with a count
module _ (n : ℕ) (file : List ℕ) (h : 28 ≤ length file) where
  -- it is what four stores leave
  pub counted-sets : sets file 24 (bytes4 n) ≡ counted n file
  unfolding counted
  counted-sets = sets-eq (bytes4 n) file 24 h

  pub length-counted : length (counted n file) ≡ length file
  length-counted = sym (ap length counted-sets) ∙ length-sets file 24 (bytes4 n)

  -- bytes outside 24 to 27 are the file's
  pub counted_else : (i : ℕ) → (24 ≤ i → i < 28 → ⊥) → get_or (counted n file) i 0 ≡ get_or file i 0
  counted_else i out =
      let one = set file 24 (n % 256) in
      let two = set one 25 (n / 256 % 256) in
      let three = set two 26 (n / 65536 % 256) in
      sym (ap (λ (l : List ℕ). get_or l i 0) counted-sets)
      ∙ get_or-set_other three 27 i (n / 16777216 % 256) 0 (λ e. out (omega arith) (omega arith))
      ∙ get_or-set_other two 26 i (n / 65536 % 256) 0 (λ e. out (omega arith) (omega arith))
      ∙ get_or-set_other one 25 i (n / 256 % 256) 0 (λ e. out (omega arith) (omega arith))
      ∙ get_or-set_other file 24 i (n % 256) 0 (λ e. out (omega arith) (omega arith))

  long : length (take 24 file) ≡ 24
  long = length-take-le 24 file (omega arith)

  before : take 24 (counted n file) ≡ take 24 file
  unfolding counted
  before = ap (take 24) (append_assoc (take 24 file) (bytes4 n) (drop 28 file)) ∙ take_at (take 24 file) (bytes4 n ++ drop 28 file) 24 long

  within : drop 24 (counted n file) ≡ bytes4 n ++ drop 28 file
  unfolding counted
  within = ap (drop 24) (append_assoc (take 24 file) (bytes4 n) (drop 28 file)) ∙ drop_at (take 24 file) (bytes4 n ++ drop 28 file) 24 long

  after : drop 28 (counted n file) ≡ drop 28 file
  unfolding counted
  after = drop_at (take 24 file ++ bytes4 n) (drop 28 file) 28 (length-append (take 24 file) (bytes4 n) ∙ ap (λ (k : ℕ). k + 4) long)

  -- the count is read back
  pub counted_number : n < 4294967296 → count_in (counted n file) ≡ n
  counted_number k =
      let c = counted n file in
      let at : (i : ℕ) → get_or c (24 + i) 0 ≡ get_or (bytes4 n ++ drop 28 file) i 0 =
      λ i. sym (get_or-drop 24 c i 0) ∙ ap (λ (l : List ℕ). get_or l i 0) within in
      (λ i. at 0 i + 256 * at 1 i + 65536 * at 2 i + 16777216 * at 3 i) ∙ bytes_number n k

  -- a second count takes the place of the first
  pub counted_twice : (m : ℕ) → counted m (counted n file) ≡ counted m file
  unfolding counted
  counted_twice m = ap₂ (λ (a b : List ℕ). a ++ bytes4 m ++ b) before after

-- ---- a file's own count
-- a file that has the count already
pub counted_same : (n : ℕ) (file : List ℕ) → count_bytes file ≡ bytes4 n → counted n file ≡ file
unfolding counted
counted_same n file e =
    ap (λ (l : List ℕ). take 24 file ++ l ++ drop 28 file) (sym e)
    ∙ ap (λ (l : List ℕ). l ++ drop 28 file) (sym (take-add 24 4 file))
    ∙ take-append-drop 28 file

-- the four bytes are those of the number that they hold
pub count_bytes_lem : (file : List ℕ) → 28 ≤ length file → ((i : ℕ) → get_or file i 0 < 256) → count_bytes file ≡ bytes4 (count_in file)
count_bytes_lem file h small =
    ap (take 4)
    (drop-cons file 24 0 (omega arith)
    ∙ ap (λ (l : List ℕ). get_or file 24 0 ∷ l) (drop-cons file 25 0 (omega arith)
    ∙ ap (λ (l : List ℕ). get_or file 25 0 ∷ l) (drop-cons file 26 0 (omega arith)
    ∙ ap (λ (l : List ℕ). get_or file 26 0 ∷ l) (drop-cons file 27 0 (omega arith)))))
    ∙ number_bytes (get_or file 24 0) (get_or file 25 0) (get_or file 26 0) (get_or file 27 0) (small 24) (small 25) (small 26) (small 27)
