-- Document 01, "Pixels": how many cells a line reads and which, and how many pixels it has and which.
-- For every record of registers and every walk, made-up ones too: the walk's next line is one of its strip's lines, or plain with no strip (K9).
-- Assumes nothing.
use Rattle.std.specs.Prelude.{ℕ, ◌*◌, ◌≤◌, ◌<◌, ◌≡◌, List, T, length, get_or}
use Rattle.limits.specs.Limits.{ram_length, line_cells}
use Rattle.cells.specs.Reading.{Reading, descriptor, code, slice, cells, cells_as, among}
use Rattle.registers.specs.declared.Registers.{Registers}
use Rattle.registers.specs.Registers.{settings_of}
use Rattle.raster.specs.Raster.{OnScreen, width_of}
use Rattle.walk.specs.declared.Walk.{Walk}
use Rattle.glyph.specs.Cells.{user_slice}
use Rattle.line.specs.Line.{Place, Scanned, scan, paint}

-- what a line reads over a RAM of any length
pub record FewCells (line : Reading Scanned) (ram : List ℕ) : Type 0 where
  -- 512 descriptors, of two cells each (K9)
  pub descriptors : length (cells_as descriptor ram line) ≤ 2 * 512
  -- 61 codes, of two cells each
  pub codes : length (cells_as code ram line) ≤ 2 * 61
  -- 61 user slices, of two cells each
  pub slices : length (cells_as slice ram line) ≤ 2 * 61
  -- so at most 1,268, a cell read twice counted twice
  pub most : length (cells ram line) ≤ line_cells
  -- each is a cell of the RAM
  pub below : (c : ℕ) → T (among c (cells ram line)) → c < ram_length
  -- each that is read as a slice is of a slice on screen, so never of slice 0 (K2, K4)
  pub on_screen : (c : ℕ) → T (among c (cells_as slice ram line)) → OnScreen (user_slice c)

-- the claim: this holds of every line
abbrev pub MostCells : Type 0
MostCells = (r : Registers) (w : Walk) (ram : List ℕ) → FewCells (scan (settings_of r) w) ram

-- W pixels, each a number below 16 (past the end get_or gives 0)
pub record WholeLine (w : ℕ) (pixels : List ℕ) : Type 0 where
  pub wide : length pixels ≡ w
  pub below : (x : ℕ) → get_or pixels x 0 < 16

-- the claim: every line is W pixels, whatever the font, the frame number and what stands in the row
abbrev pub LinePixels : Type 0
LinePixels =
    (r : Registers) (font : List ℕ) (f : ℕ) (row : List Place) → WholeLine (width_of (settings_of r).ld) (paint (settings_of r) font f row)
