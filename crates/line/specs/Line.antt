-- Document 01, "Codes and glyphs" along a row, and "Pixels", as request K7 mends it: a line is scanned, then painted.
-- `scan` reads descriptors, codes and user slices and no font, so the cells that a line reads are known without one.
-- `paint` makes the line's W pixels of what was scanned.
-- Assumes nothing.
use Rattle.std.specs.Prelude.{ℕ, zero, suc, ◌-◌, min, Bool, cond, List, [], ◌∷◌, ◌++◌, take, replicate}
use Rattle.cells.specs.Reading.{code, Reading, done, bind, fmap}
use Rattle.registers.specs.declared.Settings.{Settings}
use Rattle.raster.specs.declared.Slice.{Slice}
use Rattle.raster.specs.Raster.{interpolated, width_of, first_pixel_of, characters_of, hidden_in}
use Rattle.walk.specs.declared.Strip.{Strip}
use Rattle.walk.specs.declared.Strip.TheVariants.{Spacing, Characters}
use Rattle.walk.specs.declared.Walk.{Walk}
use Rattle.walk.specs.Walk.{next, read_pair, next_line}
use Rattle.glyph.specs.Glyph.{Glyph, ends_line, glyph_of, bits_of}
use Rattle.paint.specs.Pixels.{plain_of, shown_bits, twelve_columns}

-- ---- scan

-- a character's place on the line: the code's low byte, and its glyph
pub record Place : Type 0 where
  pub low : ℕ
  pub glyph : Glyph

-- what a line finds: where it brings the walk, and its characters
pub record Scanned : Type 0 where
  pub walk : Walk
  pub row : List Place

-- what a code's high byte shows in a slice is asked of a lookup. The program of a row is written over any, so that what it asks for can be
-- told apart from what it is given
module _ (look : ℕ → Slice → Reading Glyph) where
  -- the codes from an address on, n at the most, up to the end of line (whose two bytes are read), each looked up in the slice. A code
  -- is two bytes at an even address, address plus 2 for the next, wrapping at 1,024
  unfoldable pub codes_by : ℕ → Slice → ℕ → Reading (List Place)
  codes_by zero s a = done []
  codes_by (suc n) s a =
      read_pair code a λ low high.
      cond (ends_line high)
      (done [])
      (bind (look high s) λ g. fmap (λ places. (record { low = low; glyph = g }) ∷ places) (codes_by n s (next a)))

  -- what stands on a line of the strip. In spacing strips and strips with DE 0 no code is read
  unfoldable pub row_by : ℕ → Strip → Reading (List Place)
  row_by n (Spacing left) = done []
  row_by n (Characters address height zoom enabled line) = cond enabled (codes_by n (interpolated line height zoom) address) (done [])

  -- OSD 0: codes and slices are not read. Codes are read while the next character's first pixel is below W
  unfoldable pub shown_by : Settings → Strip → Reading (List Place)
  shown_by s strip = cond s.osd (row_by (characters_of s.ld s.dd) strip) (done [])

-- the lookup is `glyph_of`
abbrev pub codes : ℕ → Slice → ℕ → Reading (List Place)
codes = codes_by glyph_of

abbrev pub shown_row : Settings → Strip → Reading (List Place)
shown_row = shown_by glyph_of

-- a line reads its descriptors, if any, with OSD 0 too, and then its row, over any way to read a row
unfoldable pub scan_by : (Settings → Strip → Reading (List Place)) → Settings → Walk → Reading Scanned
scan_by row s w = bind (next_line s.ch w) λ v. fmap (λ places. record { walk = v; row = places }) (row s v.strip)

abbrev pub scan : Settings → Walk → Reading Scanned
scan = scan_by shown_row

-- ---- paint

-- what a character shows of its glyph, PX11 to PX0
unfoldable pub shown_of : List ℕ → Bool → Place → ℕ
shown_of font hidden p = shown_bits hidden p.low (bits_of font p.glyph)

-- its twelve pixels, after the bits that the character just to its left shows
unfoldable pub character : List ℕ → (plain : ℕ) (hidden : Bool) (before : ℕ) → Place → List ℕ
character font plain hidden before p = twelve_columns plain p.low before (shown_of font hidden p)

-- the room that remains on a line, from a character's first pixel on, after the bits that the character to its left shows: the characters, the last
-- cut, then plain
unfoldable pub painted : List ℕ → (plain : ℕ) (hidden : Bool) (before room : ℕ) → List Place → List ℕ
painted font plain hidden before room [] = replicate room plain
painted font plain hidden before room (p ∷ ps) =
    take room (character font plain hidden before p) ++ painted font plain hidden (shown_of font hidden p) (room - 12) ps

-- a line of W pixels around the room from the first character on. OSD 0: every pixel 0. Else plain before that character
abbrev pub in_line : Settings → (room : List ℕ) → List ℕ
in_line s room =
    cond s.osd
    (replicate (min (first_pixel_of s.dd) (width_of s.ld)) (plain_of s.fbk) ++ room)
    (replicate (width_of s.ld) 0)

-- a line and its characters. To the left of the first no bits are shown
unfoldable pub paint : Settings → List ℕ → ℕ → List Place → List ℕ
paint s font f row =
    in_line s (painted font (plain_of s.fbk) (hidden_in s.fl f) 0 (width_of s.ld - first_pixel_of s.dd) row)
