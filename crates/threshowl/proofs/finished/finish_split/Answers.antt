-- `finished::finish_split` meets its contract: coefficients that are not refused are those that `finish_samples` asks for. Assumes nothing.
use Rattle.std.proofs.Common.{sym, ap, ◌∙◌, Bool}
use Rattle.residue.specs.Coefficients.{split_refusal}
use Rattle.residue.proofs.Refused.{split_accepted, open_low}
use Rattle.threshowl.proofs.finished.finish_split.Goals as goal

pub finish_samples-requires-clause-c_len : goal.finish_samples-requires-clause-c_len
finish_samples-requires-clause-c_len c =
    let n = c.args.c.now in
    let a = split_accepted n (ap (λ (s : Bool). split_refusal s n) (sym c.if-skip.false) ∙ c.requires.1) in
    (a.0, open_low a.1)
