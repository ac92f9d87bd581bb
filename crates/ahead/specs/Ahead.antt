-- The frame's remaining lines, as one reading program (document 01, "Condition 3 read exactly").
-- Assumes nothing.
use Rattle.std.specs.Prelude.{ℕ, zero, suc}
use Rattle.cells.specs.Reading.{Reading, done, bind}
use Rattle.registers.specs.declared.Settings.{Settings}
use Rattle.walk.specs.declared.Walk.{Walk}
use Rattle.line.specs.Line.{scan}

-- the walk goes on, with the settings as they stand; with no line remaining nothing is read
unfoldable pub remaining : Settings → ℕ → Walk → Reading Walk
remaining s zero w = done w
remaining s (suc n) w = bind (scan s w) λ x. remaining s n x.walk
