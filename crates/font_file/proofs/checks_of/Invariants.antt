-- `checks_of`: what is summed up and what is left are the payload, modulo 65,536; then comes the heading.
use Prim.Native.Nat.{ℕ, ◌+◌, ◌*◌, ◌%◌}
use mathlib.Core.Path.{◌≡◌}
use mathlib.Core.List.{List}
use lib.ListN.{take, drop}
use Rattle.font_file.specs.FontFile.{heading_length, payload_length, sum as whole, weighted_sum}
use Rattle.font_file.specs.Columns.{column_count, column_sum, column_weighted}
use Rattle.font_file.proofs.Columns.{columns_from}
use Rattle.font_file.proofs.checks_of.Given as goal

abbrev payload : (block : List ℕ) → List ℕ
payload block = take payload_length (drop heading_length block)

abbrev pub invariant-loop-at : goal.invariant-loop-at
invariant-loop-at l =
    ((l.sum + whole (columns_from column_sum l.at l.block)) % 65536 ≡ whole (payload l.block) % 65536)
    × ((l.weighted + weighted_sum (l.at + 1) (columns_from column_sum l.at l.block) + column_count * (l.by_row + whole (columns_from column_weighted l.at l.block))) % 65536
    ≡ weighted_sum (heading_length + 1) (payload l.block) % 65536)
