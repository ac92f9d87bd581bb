-- `column_at`: what is summed up is the column from the row on.
use mathlib.Core.Path.{refl}
use native.Mathlib.Omega.{arith}
use borrow.Author.Rules.{rules}
use Rattle.font_file.specs.Columns.{column_sum, column_weighted}
use Rattle.font_file.proofs.Columns.{row_up}
use Rattle.font_file.proofs.column_at.Goals as goal

pub loop-row-init : goal.loop-row-init
unfolding column_sum column_weighted
loop-row-init c = (search rules, refl, refl, search rules, search rules)

pub loop-row-preserved : goal.loop-row-preserved
loop-row-preserved c =
    let l = c.loop-row in
    let up = row_up c.args.first l.row c.args.block.now (omega arith) (omega arith) in
    let byte = rw c.from.ensures at c.from-sum.ensures in
    (search rules, omega arith, omega arith, omega (arith, c.fits-block c.from.result), search rules)
