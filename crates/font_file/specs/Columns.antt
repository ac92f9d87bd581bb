-- A block's payload as rows of 72 bytes, as the code sums it up: what stands in a column. It serves the promises of inner functions; what
-- writing and reading promise does not speak of it.
-- Assumes nothing.
use Rattle.std.specs.Prelude.{ℕ, zero, suc, ◌+◌, List, get_or, drop}
use Rattle.font_file.specs.declared.CheckSums.{CheckSums}

abbrev pub column_count : ℕ
column_count = 72

abbrev pub row_count : ℕ
row_count = 7

-- the sum of the column that begins with the first byte
unfoldable pub column_sum : (rows : ℕ) (bytes : List ℕ) → ℕ
column_sum zero bytes = 0
column_sum (suc rows) bytes = get_or bytes 0 0 + column_sum rows (drop column_count bytes)

-- the sum of each of its bytes times its row, counted from 0
unfoldable pub column_weighted : (rows : ℕ) (bytes : List ℕ) → ℕ
column_weighted zero bytes = 0
column_weighted (suc rows) bytes = column_sum rows (drop column_count bytes) + column_weighted rows (drop column_count bytes)

abbrev pub column_of : (rows : ℕ) (bytes : List ℕ) → CheckSums
column_of rows bytes = record { sum = column_sum rows bytes; weighted = column_weighted rows bytes }
