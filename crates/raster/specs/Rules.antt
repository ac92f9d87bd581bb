-- Rules of documents 01 and 02 that the definitions of a line's geometry keep: claims, each proved in proofs/Rules.antt.
-- Assumes nothing.
use Rattle.std.specs.Prelude.{ℕ, ◌+◌, ◌*◌, ◌<◌, Bool, ◌↔◌}
use Rattle.raster.specs.declared.ScanLine.{ScanLine}
use Rattle.raster.specs.Raster.{InStrip, OnScreen, interpolated, width_of, first_pixel_of, characters_of}

-- the slice lies in 1 to 18, on every line of every strip (K2)
abbrev pub SliceRange : Type 0
SliceRange = (j : ScanLine) (ch : ℕ) (zoom : Bool) → InStrip j ch zoom → OnScreen (interpolated j ch zoom)

-- codes are read while the next character's first pixel is below W
abbrev pub LineCharacters : Type 0
LineCharacters = (ld dd k : ℕ) → k < characters_of ld dd ↔ first_pixel_of dd + 12 * k < width_of ld
