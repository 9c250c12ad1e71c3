-- Three planes, one after the other.
use Rattle.std.proofs.Common.{◌≡◌, ap, ◌∙◌, arith, List, ◌++◌, ℕ, length, ℤ}
use Rattle.residue.specs.Coefficients.{finished_plane}
use Rattle.residue.specs.Inner.{Area, piece}
use Rattle.residue.proofs.Pieces.{three_pieces, piece_finished, piece_kept}
use Rattle.residue.proofs.Finishing.{in_plane}
use Rattle.residue.proofs.planes.finish_samples.Goals as goal

three : (c : List ℤ) {d d₁ d₂ d₃ : List ℕ} → length d ≡ 384 → Area d d₁ 0 16 0 16 0 16 (in_plane d 0 16 c 0) → Area d₁ d₂ 256 8 0 8 0 8 (in_plane d₁ 256 8 c 256)
    → Area d₂ d₃ 320 8 0 8 0 8 (in_plane d₂ 320 8 c 320)
    → d₃ ≡ finished_plane 16 c 0 (piece d 0 256) ++ (finished_plane 8 c 256 (piece d 256 64) ++ finished_plane 8 c 320 (piece d 320 64))
three c {d} {d₁} {d₂} {d₃} e A B C =
    let y = piece_kept 320 8 c 320 C 0 256 (λ k p q r s. omega arith) ∙ piece_kept 256 8 c 256 B 0 256 (λ k p q r s. omega arith) ∙ piece_finished 0 16 c 0 A (omega arith) in
    let u = piece_kept 320 8 c 320 C 256 64 (λ k p q r s. omega arith) ∙ piece_finished 256 8 c 256 B (omega arith)
    ∙ ap (finished_plane 8 c 256) (piece_kept 0 16 c 0 A 256 64 (λ k p q r s. omega arith)) in
    let v = piece_finished 320 8 c 320 C (omega arith)
    ∙ ap (finished_plane 8 c 320) (piece_kept 256 8 c 256 B 320 64 (λ k p q r s. omega arith) ∙ piece_kept 0 16 c 0 A 320 64 (λ k p q r s. omega arith)) in
    three_pieces d₃ (C.size ∙ B.size ∙ A.size ∙ e) ∙ (λ t. y t ++ (u t ++ v t))

pub returns : goal.returns
returns c = three c.args.c.now c.requires.d_len c.finish_plane.ensures c.finish_plane-2.ensures c.finish_plane-3.ensures
