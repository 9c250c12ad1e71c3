-- What a call on samples answers, done or refused, as the definitions have it by number. Assumes nothing.
use Rattle.std.proofs.Common.{◌≡◌, sym, ap, ◌∙◌, ℕ, List, replicate, Result, Ok, Err}
use Rattle.std.specs.Result.{IsErrAnd}
use Rattle.numbers.specs.declared.Refusal.{Refusal}
use Rattle.numbers.specs.Outcome.{number_of}
use Rattle.numbers.proofs.Laws.{not_done}
use Rattle.rfc6386.specs.Refusal.{if_done}
use Rattle.rfc6386.specs.Block.{shown}
use Rattle.rfc6386.proofs.Laws.Refusals.{done, refused}

-- a refusal that `?` passes on is the one that there was
pub passed_on : {T : Type 0} (r : Result T Refusal) (e : Refusal) → IsErrAnd r (λ y. y ≡ e) → r ≡ Err e
passed_on (Ok x) e h = absurd h
passed_on (Err y) e h = ap Err h

-- so many samples and a count, of those fetched or clipped, or zeros and none
module _ {A B : Type 0} (answer : ℕ → List ℕ → B → A) (count : ℕ) {m : ℕ} (s : List ℕ) (counted none : B) where
  pub answer-refused : (e : Refusal) → number_of e ≡ m → answer (number_of e) (replicate count 0) none ≡ answer m (shown count m s) (if_done m counted none)
  answer-refused e h =
      let no : m ≡ 0 → ⊥ = λ k. not_done e (h ∙ k) in
      let z = refused s (replicate count 0) no in
      let f = refused counted none no in
      λ i. answer (h i) (sym z i) (sym f i)

  pub answer-done : 0 ≡ m → {l : List ℕ} {k : B} → l ≡ s → k ≡ counted → answer 0 l k ≡ answer m (shown count m s) (if_done m counted none)
  answer-done h p q =
      let z = done s (replicate count 0) (sym h) in
      let f = done counted none (sym h) in
      λ i. answer (h i) ((p ∙ sym z) i) ((q ∙ sym f) i)
