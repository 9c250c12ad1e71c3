-- Demand 3 of the finished block, carried to the C functions: the 384 bytes that their contracts allow. Assumes nothing.
use mathlib.Core.Path.{◌≡◌, sym, ap, ◌∙◌}
use mathlib.Core.Bool.{Bool, true}
use mathlib.Core.List.{List}
use Prim.Native.Nat.{ℕ}
use lib.ListN.{length}
use lib.IntN.{ℤ}
use mir.Syntax.{w16}
use mir.Val.{SFits}
use Rattle.rfc6386.specs.Vector.{lowering_of, mergeable}
use Rattle.rfc6386.specs.Macroblock.{whole, split}
use Rattle.rfc6386.proofs.Merging.{merge_inside}
use Rattle.rfc6386.proofs.Carried.{Place, lent_at}
use Rattle.rfc6386.proofs.Laws.Refusals.{done}
use Rattle.residue.specs.Coefficients.{seeded, whole_refusal, split_refusal}
use Rattle.residue.specs.Reconstruction.{finished_unless}
use Rattle.residue.proofs.Refused.{zero_late}
use Rattle.residue.proofs.Merging.{Alike, alike-seeded, split_count}
use Rattle.rfc6386.specs.Refusal.{code_refusal}
use Rattle.vector_bytes.specs.Bytes.{vectors_of}
use Rattle.outputs.specs.Output.{flat, call_number}
use Rattle.threshowl.specs.Boundary.{set_of, flag_of, codes_refusal}
use Rattle.threshowl.specs.Finished.{Finishes}
use Rattle.vector_bytes.specs.Spelled.{sixteen_spelled, spelled_is}
use Rattle.rfc6386.specs.declared.Mv.{Mv}
use Rattle.rfc6386.specs.Answer.{Prediction}

-- ---- what the contracts allow: the number r and the final bytes out' of an output that held out
-- of threshowl_reconstruct_whole
abbrev pub WholeFinishes : ℕ → ℕ → Place → Mv → ℕ → List ℤ → List ℕ → ℕ → List ℕ → Type 0
WholeFinishes filter flag p v skip c out r out' =
    Finishes (whole (set_of filter) (lowering_of (flag_of flag)) (lent_at p) p.col p.row v) (code_refusal filter) (whole_refusal (flag_of skip) c) (flag_of skip) (seeded c) out r out'

-- of threshowl_reconstruct_split
abbrev pub SplitFinishes : ℕ → ℕ → Place → List ℕ → ℕ → List ℤ → List ℕ → ℕ → List ℕ → Type 0
SplitFinishes filter flag p vectors skip s out r out' =
    Finishes (split (set_of filter) (lowering_of (flag_of flag)) (lent_at p) p.col p.row (vectors_of vectors)) (codes_refusal filter (length vectors)) (split_refusal (flag_of skip) s) (flag_of skip) s out r out'

-- THEOREM. One call with a vector inside -16384 .. 16383, and one with its bytes sixteen times, with coefficients that are alike: where both are done,
-- they leave the same 384 bytes.
pub finished_outputs_agree : (filter flag : ℕ) (v : Mv) → SFits w16 v.row → SFits w16 v.col → mergeable v ≡ true → (p : Place) (skip : ℕ) (c s : List ℤ) → Alike c s
    → (out out₁ : List ℕ) (r r₁ : ℕ) (a b : List ℕ) → WholeFinishes filter flag p v skip c out r a → SplitFinishes filter flag p (sixteen_spelled v) skip s out₁ r₁ b
    → r ≡ 0 → r₁ ≡ 0 → a ≡ b
finished_outputs_agree filter flag v fr fc e p skip c s A out out₁ r r₁ a b L M m n =
    let set = set_of filter in
    let low = lowering_of (flag_of flag) in
    let k = flag_of skip in
    let q = split set low (lent_at p) p.col p.row (vectors_of (sixteen_spelled v)) in
    let same : whole set low (lent_at p) p.col p.row v ≡ q =
    merge_inside set low (lent_at p) p.col p.row v e ∙ ap (split set low (lent_at p) p.col p.row) (sym (spelled_is v fr fc)) in
    let count = split_count k s (zero_late (call_number q (codes_refusal filter (length (sixteen_spelled v))) out₁) (split_refusal k s) (sym M.number_is ∙ n)) in
    L.bytes_are
    ∙ done (flat (finished_unless k (seeded c) (whole set low (lent_at p) p.col p.row v).samples)) out (sym L.number_is ∙ m)
    ∙ (λ i. flat (finished_unless k (sym (alike-seeded c s count A) i) (same i).samples))
    ∙ sym (M.bytes_are ∙ done (flat (finished_unless k s q.samples)) out₁ (sym M.number_is ∙ n))

-- ---- THEOREM. No two outcomes meet the contract of a C function that finishes: its number, and the bytes that it leaves.
pub one_finish : {p : Prediction} {codes late : ℕ} {skip : Bool} {c : List ℤ} {out : List ℕ} {r s : ℕ} {a b : List ℕ}
    → Finishes p codes late skip c out r a → Finishes p codes late skip c out s b → (r ≡ s) × (a ≡ b)
one_finish h k = (h.number_is ∙ sym k.number_is, h.bytes_are ∙ sym k.bytes_are)
