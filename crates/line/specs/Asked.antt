-- Request K4: the slices with which a line's codes are looked up.
-- For every record of settings and every walk, made-up ones too: where a strip has no line left the next is read, or the rest of the frame is
-- plain (K9), so a line of characters is always one of its strip's.
-- Assumes nothing.
use Rattle.std.specs.Prelude.{ℕ, ◌≡◌, List, [], ◌∷◌, T, length}
use Rattle.cells.specs.Reading.{slice, Reading, done, read, value, cells_as, among}
use Rattle.registers.specs.declared.Settings.{Settings}
use Rattle.raster.specs.declared.Slice.{Slice}
use Rattle.raster.specs.Raster.{OnScreen}
use Rattle.walk.specs.declared.Walk.{Walk}
use Rattle.glyph.specs.Glyph.{Glyph, font, user, blank, glyph_of}
use Rattle.line.specs.Line.{Place, shown_by, scan_by, scan}

-- a lookup that notes the slice that it is asked for, by reading the cell of that number as a slice, and gives what `glyph_of` gives
unfoldable pub noting : List ℕ → ℕ → Slice → Reading Glyph
noting ram high s = read slice s.0 λ x. done (value ram (glyph_of high s))

-- the slices that a line asks for, character by character: what is noted, as the line's own program reads nothing as a slice
unfoldable pub asked : List ℕ → Settings → Walk → List ℕ
asked ram s w = cells_as slice ram (scan_by (shown_by (noting ram)) s w)

-- a font character's glyph has a slice on screen. The font is read there when the line is painted (`bits_of`)
unfoldable pub FontOnScreen : Glyph → Type 0
FontOnScreen (font number t) = OnScreen (record { 0 = t })
FontOnScreen (user first second) = Unit
FontOnScreen blank = Unit

-- each glyph of a row has P
unfoldable pub EachGlyph : (Glyph → Type 0) → List Place → Type 0
EachGlyph P [] = Unit
EachGlyph P (p ∷ ps) = P p.glyph × EachGlyph P ps

-- what a line asks for, over a RAM of any length
pub record Asks (ram : List ℕ) (s : Settings) (w : Walk) : Type 0 where
  -- noting changes nothing: the line finds what it finds without
  pub same : value ram (scan_by (shown_by (noting ram)) s w) ≡ value ram (scan s w)
  -- one slice for each character on the line
  pub each : length (asked ram s w) ≡ length (value ram (scan s w)).row
  -- each is 1 to 18, so never 0
  pub on_screen : (t : ℕ) → T (among t (asked ram s w)) → OnScreen (record { 0 = t })
  -- and so is that of each font character's glyph
  pub in_font : EachGlyph FontOnScreen (value ram (scan s w)).row

-- the claim: no line of any strip asks the lookup for slice 0, with or without zoom, whatever its CH
abbrev pub SlicesAsked : Type 0
SlicesAsked = (ram : List ℕ) (s : Settings) (w : Walk) → Asks ram s w
