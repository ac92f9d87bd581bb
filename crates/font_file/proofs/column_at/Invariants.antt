-- `column_at`: what is summed up is the column from the row on.
use Prim.Native.Nat.{◌-◌, ◌*◌, ◌≤◌}
use mathlib.Core.Path.{◌≡◌}
use Rattle.font_file.specs.Columns.{row_count, column_sum, column_weighted}
use Rattle.font_file.proofs.Columns.{rows_from}
use Rattle.font_file.proofs.column_at.Given as goal

abbrev pub invariant-loop-row : goal.invariant-loop-row
invariant-loop-row l =
    (l.row ≤ row_count)
    × (l.sum ≡ rows_from column_sum l.first l.row l.block)
    × (l.weighted ≡ rows_from column_weighted l.first l.row l.block)
    × (l.sum ≤ 255 * (row_count - l.row))
    × (l.weighted ≤ 1785 * (row_count - l.row))
