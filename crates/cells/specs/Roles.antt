-- A program's reads by role: the list of all that it reads is made up of those that it reads as descriptors, as codes and as slices.
-- Assumes nothing.
use Rattle.std.specs.Prelude.{ℕ, ◌+◌, ◌≡◌, ◌||◌, List, length}
use Rattle.cells.specs.Reading.{Reading, descriptor, code, slice, cells, cells_as, among}

pub record ByRole : Type 1 where
  -- each read has one role, so the counts add up
  pub count : {A : Type 0} (ram : List ℕ) (p : Reading A)
      → length (cells ram p) ≡ length (cells_as descriptor ram p) + length (cells_as code ram p) + length (cells_as slice ram p)
  -- a cell is read if it is read in one of the roles
  pub member : {A : Type 0} (ram : List ℕ) (p : Reading A) (c : ℕ)
      → among c (cells ram p) ≡ (among c (cells_as descriptor ram p) || among c (cells_as code ram p)) || among c (cells_as slice ram p)
