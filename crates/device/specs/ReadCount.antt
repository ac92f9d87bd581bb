-- Document 01, "Pixels": the count that a draw reports, at most 1,268 by request K9 (crate line's specs/Rules.antt has which cells those are).
-- For every device record, made-up ones too, and every RAM, font and line buffer; a refused draw has the value 0.
-- Assumes nothing.
use Rattle.std.specs.Prelude.{ℕ, ◌≤◌, List}
use Rattle.limits.specs.Limits.{line_cells}
use Rattle.device.specs.declared.Device.{Device}
use Rattle.device.specs.Device.{draw_line}

-- the claim
abbrev pub ReadCount : Type 0
ReadCount = (d : Device) (ram font line : List ℕ) → (draw_line d ram font line).reply.value ≤ line_cells
