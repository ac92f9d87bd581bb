-- `all_zero`: all are zero exactly if their sum is.
use Rattle.std.proofs.Common.{◌≡◌, ap, ◌∙◌, arith, sum, take_all}
use Rattle.std.proofs.lemmas.List.Folds.{sum_by-zero}
use Rattle.font_file.specs.FontFile.{all_zero}
use Rattle.font_file.proofs.all_zero.Goals as goal

pub returns : goal.returns
unfolding all_zero
returns c =
    let l = c.loop-byte in
    let bytes = c.args.bytes.now in
    let total : l.sum ≡ sum bytes = l.invariant.total ∙ ap sum (take_all l.byte-index bytes (omega arith)) in
    rw total (sum_by-zero (λ x. x) bytes)
