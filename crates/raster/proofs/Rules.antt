-- The rules of specs/Rules.antt, proved.
-- Assumes nothing.
use native.Mathlib.Omega.{arith}
use Rattle.raster.specs.Raster.{interpolated}
use Rattle.raster.specs.Rules.{SliceRange, LineCharacters}
use Rattle.raster.proofs.Laws.{slice-some, slice_bound, unzoomed_bound, height_pos}

pub slice_range : SliceRange
unfolding interpolated
slice_range j ch zoom h =
    record { from = slice-some ch _; to = slice_bound ch _ (height_pos j ch zoom h) (unzoomed_bound j ch zoom h) }

pub line_characters : LineCharacters
line_characters ld dd k = (λ h. omega arith, λ h. omega arith)
