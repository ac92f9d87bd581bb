-- Whose slice a cell belongs to, the inverse of a user slice's address (`user_cell`): what the search for a cell asks.
-- Assumes nothing.
use Rattle.std.specs.Prelude.{ℕ, ◌+◌, ◌/◌, ◌%◌, Bool, ltb}
use Rattle.limits.specs.Limits.{user_length, user_cells}
use Rattle.raster.specs.declared.Slice.{Slice}

-- it is a cell of the user characters 0 to 25
abbrev pub of_user : ℕ → Bool
of_user c = ltb c user_cells

-- the high byte of its character's code
abbrev pub user_high : ℕ → ℕ
user_high c = 128 + c / user_length

-- the number of its slice; 0 for the first two cells of a character, which are of none
unfoldable pub user_slice : ℕ → Slice
user_slice c = record { 0 = c % user_length / 2 }
