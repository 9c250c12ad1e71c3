-- A prediction finished: what it answers where it refuses, and what where it does not. Assumes nothing.
use mathlib.Core.Path.{◌≡◌, refl, sym, ap, ◌∙◌}
use mathlib.Core.Bool.{Bool, true, false, cond}
use mathlib.Core.List.{List}
use Prim.Native.Nat.{ℕ}
use lib.IntN.{ℤ}
use Rattle.std.specs.Prelude.{Result, Ok, Err}
use Rattle.std.specs.Result.{MatchResult, IsOkAnd}
use Rattle.numbers.specs.declared.Refusal.{Refusal}
use Rattle.numbers.specs.Outcome.{number_of}
use Rattle.numbers.proofs.Laws.{not_done}
use Rattle.rfc6386.specs.Refusal.{or_else}
use Rattle.rfc6386.specs.Macroblock.{answered}
use Rattle.rfc6386.proofs.Laws.Refusals.{or_else_first, refused_is, done_is}
use Rattle.residue.specs.Coefficients.{finished}
use Rattle.residue.specs.Reconstruction.{finished_unless}
use Rattle.rfc6386.specs.declared.ReconstructedMb.{ReconstructedMb}
use Rattle.rfc6386.specs.declared.Predicted.{Predicted}
use Rattle.rfc6386.specs.Answer.{Report, prediction_told, report_told}

-- refused before it is finished, and as it is finished
pub refused_first : (e : Refusal) (m : ℕ) (s : ReconstructedMb) → prediction_told (Err e) ≡ answered (or_else (number_of e) m) s
refused_first e m s = refused_is s (sym (or_else_first (number_of e) m (not_done e))) (not_done e)

pub refused_next : (e : Refusal) {m : ℕ} (s : ReconstructedMb) → number_of e ≡ m → prediction_told (Err e) ≡ answered m s
refused_next e s h = refused_is s h (not_done e)

-- with the skip flag it is itself, without it has the residue
module _ (c : List ℤ) (s : ReconstructedMb) {m : ℕ} {skip : Bool} (h : 0 ≡ m) where
  pub skipped : skip ≡ true → prediction_told (Ok s) ≡ answered m (finished_unless skip c s)
  skipped k = done_is h refl (ap (λ (b : Bool). cond b s (finished c s)) (sym k))

  pub not_skipped : {s' : ReconstructedMb} → skip ≡ false → s' ≡ finished c s → prediction_told (Ok s') ≡ answered m (finished_unless skip c s)
  not_skipped k q = done_is h refl (q ∙ ap (λ (b : Bool). cond b s (finished c s)) (sym k))

-- f is what refuses the residue: with the skip flag off
pub not_late : (f : Bool → List ℤ → ℕ) (c : List ℤ) {skip : Bool} → 0 ≡ f skip c → skip ≡ false → f false c ≡ 0
not_late f c e k = ap (λ (s : Bool). f s c) (sym k) ∙ sym e

-- the samples of a report alone, by a call of which Q says that it takes them
pub samples_of : (r : Result Predicted Refusal) (m : Result ReconstructedMb Refusal) {o : Report} (Q : Predicted → ReconstructedMb → Type 0)
    → ((p : Predicted) (s : ReconstructedMb) → Q p s → s ≡ p.samples)
    → MatchResult r (λ p. IsOkAnd m (Q p)) (λ e. m ≡ Err e)
    → report_told r ≡ o
    → prediction_told m ≡ o.prediction
samples_of (Ok p) (Ok s) Q k h e = ap (λ (s : ReconstructedMb). prediction_told (Ok s)) (k p s h) ∙ ap (λ (o : Report). o.prediction) e
samples_of (Ok p) (Err x) Q k h e = absurd h
samples_of (Err x) m Q k h e = ap prediction_told h ∙ ap (λ (o : Report). o.prediction) e
