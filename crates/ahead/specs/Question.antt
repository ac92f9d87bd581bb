-- A cell, and what follows from it and the settings: what is looked for (`Sought`).
-- Assumes nothing.
use Rattle.std.specs.Prelude.{ℕ, ◌<◌, ◌≡◌, Bool, false, cond, ◌&&◌}
use Rattle.limits.specs.Limits.{ram_length}
use Rattle.registers.specs.declared.Settings.{Settings}
use Rattle.raster.specs.declared.ScanLine.{ScanLine}
use Rattle.raster.specs.Raster.{before_first, characters_of}
use Rattle.raster.specs.Search.{slice_shown}
use Rattle.walk.specs.Walk.{height_of}
use Rattle.glyph.specs.Cells.{of_user, user_slice}

-- the codes that a line reads at the most: none with OSD 0
abbrev pub codes_at_most : Settings → ℕ
codes_at_most s = cond s.osd (characters_of s.ld s.dd) 0

-- does one of the k lines after a line of a strip show the cell's slice, of a user character?
abbrev pub user_shown : ℕ → ScanLine → ℕ → ℕ → Bool → Bool
user_shown c j k ch zoom = slice_shown j k ch zoom (user_slice c) && of_user c

-- what is sought follows from the cell and the settings
pub record Posed (c : ℕ) (s : Settings) (most : ℕ) (shown : Bool) : Type 0 where
  pub cell : c < ram_length
  pub codes : most ≡ codes_at_most s
  pub whole : shown ≡ user_shown c before_first (height_of s.ch) (height_of s.ch) false
