-- Request K4: the first two cells of a user character are never read as a slice, so the cell question says no for them unless the remaining
-- lines read them as descriptors or codes.
-- For every device record, made-up ones too, and every RAM of 1,024 cells.
-- Assumes nothing.
use Rattle.std.specs.Prelude.{ℕ, ◌+◌, ◌<◌, ◌≡◌, Bool, false, cond, ◌||◌, List, length}
use Rattle.limits.specs.Limits.{ram_length, user_characters}
use Rattle.cells.specs.Reading.{Role, descriptor, code, slice, cells_as, among}
use Rattle.refusals.specs.Refusals.{accepted}
use Rattle.glyph.specs.Glyph.{user_cell}
use Rattle.device.specs.declared.Device.{Device}
use Rattle.device.specs.Device.{remaining_of, ask_cell}

-- do the frame's remaining lines read the cell in this role?
abbrev pub read_as : Role → Device → List ℕ → ℕ → Bool
read_as r d ram c = among c (cells_as r ram (remaining_of d))

pub record NoSlice (d : Device) (ram : List ℕ) (c : ℕ) : Type 0 where
  -- no remaining line reads the cell as a slice
  pub never : read_as slice d ram c ≡ false
  -- the cell question says no (0) exactly if they read it neither as descriptor nor as code
  pub answer : ask_cell d ram c ≡ accepted (cond (read_as descriptor d ram c || read_as code d ram c) 1 0)

-- the claim: this holds of the cells 38 n and 38 n + 1 of each user character n, 0 to 25
abbrev pub FirstCells : Type 0
FirstCells = (d : Device) (ram : List ℕ) (n i : ℕ) → length ram ≡ ram_length → n < user_characters → i < 2 → NoSlice d ram (user_cell n 0 + i)
