-- Each claim of this crate's specs, with its proof.
-- Assumes nothing.
use Rattle.raster.specs.Rules.{SliceRange, LineCharacters}
use Rattle.raster.proofs.Rules as rules

pub slice_range : SliceRange
slice_range = rules.slice_range

pub line_characters : LineCharacters
line_characters = rules.line_characters
