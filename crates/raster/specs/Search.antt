-- Which lines of a strip show a slice: what the search for a cell asks.
-- Assumes nothing.
use Rattle.std.specs.Prelude.{ℕ, zero, suc, ◌-◌, ◌*◌, ◌≤◌, ◌≡◌, Bool, false, cond, ◌&&◌, ◌||◌, eqb, leb, ltb}
use Rattle.raster.specs.declared.ScanLine.{ScanLine}
use Rattle.raster.specs.declared.Slice.{Slice}
use Rattle.raster.specs.declared.SliceLines.{SliceLines}
use Rattle.raster.specs.Raster.{following, interpolated}

-- a number that is asked about: a slice's, 1 to 18, or 0, which a user character's first two cells have and no line shows
abbrev pub InCharacter : Slice → Type 0
InCharacter s = s.0 ≤ 18

abbrev pub same_slice : Slice → Slice → Bool
same_slice s t = eqb s.0 t.0

-- does one of the k lines after line j of a strip show this slice?
unfoldable pub slice_shown : ScanLine → ℕ → ℕ → Bool → Slice → Bool
slice_shown j zero ch zoom s = false
slice_shown j (suc k) ch zoom s = same_slice (interpolated (following j) ch zoom) s || slice_shown (following j) k ch zoom s

-- line n shows slice s, or one above it, exactly where 36 n is so many times CH or more: every line shows slice 1 or more
unfoldable pub heights_to : ℕ → ℕ
heights_to s = cond (ltb s 2) 0 (2 * s - 1)

-- exactly these lines of strips of a height show the slice (where no line is 0 or below, and no height)
pub record LinesShown (ch : ℕ) (zoom : Bool) (s : Slice) (r : SliceLines) : Type 0 where
  pub lines : (j : ScanLine) → 1 ≤ ch → 1 ≤ j.0 → same_slice (interpolated j ch zoom) s ≡ leb r.from j.0 && ltb j.0 r.to
