-- Request K5: the pixel at column x of line y of a frame, both counted from 0, while RAM, registers and font stay put. Document 01 read once
-- more, as plainly as it can be and in its order: neither the scan nor the painting of a line (crate line) is used. Shared with them are small
-- rules alone: settings and P, even addresses and the next, the bits of a descriptor, which spacing is passed over and a strip's lines, the slice
-- of a line and where its bytes lie, the end of line, the plain pixel and the colours of a low byte, the first pixel and the hidden time.
-- Assumes nothing.
use Rattle.std.specs.Prelude.{ℕ, zero, suc, ◌+◌, ◌-◌, ◌*◌, ◌/◌, ◌%◌, ◌^◌, Bool, not, cond, ◌&&◌, ◌||◌, List, eqb, ltb, get_or}
use Rattle.registers.specs.declared.Registers.{Registers}
use Rattle.registers.specs.declared.Settings.{Settings}
use Rattle.registers.specs.Registers.{settings_of, page_of}
use Rattle.raster.specs.declared.Slice.{Slice}
use Rattle.raster.specs.Raster.{strip_lines, interpolated, first_pixel_of, hidden_in}
use Rattle.walk.specs.Walk.{even, next, page_address, is_spacing, zoomed_by, codes_at, passed_over, height_of, shows_codes}
use Rattle.glyph.specs.Glyph.{from_font, number_in, is_user, ends_line, font_byte, user_cell, twelve}
use Rattle.paint.specs.Pixels.{plain_of, flashes, foreground, background}
use Rattle.pixel.specs.declared.Pair.{Pair}
use Rattle.pixel.specs.declared.StripLine.{StripLine}
use Rattle.pixel.specs.declared.Row.{Row}

-- a descriptor, or a code: two bytes at an even address, low byte first; addresses wrap at 1,024 (H)
abbrev pub pair_at : List ℕ → ℕ → Pair
pair_at ram a = record { low = get_or ram (even a) 0; high = get_or ram (even a + 1) 0 }

-- ---- "Walk of a frame": which strip does line y fall in, and which of its lines is it?

-- spacing has SL lines; characters have CH lines, or twice that with ZY. CH of 0 is taken as 1 (H)
abbrev pub lines_of : ℕ → Pair → ℕ
lines_of ch d = cond (is_spacing d.high) d.low (strip_lines (height_of ch) (zoomed_by d.high))

-- spacing with SL 0 is passed over (K9)
abbrev pub is_passed : Pair → Bool
is_passed d = passed_over d.low d.high

-- and the next is read at once: where the first descriptor lies that is not passed over, of n + 1 in a row from an address on; or else the last of them
unfoldable pub strip_from : (n : ℕ) → List ℕ → ℕ → ℕ
strip_from zero ram a = a
strip_from (suc n) ram a = cond (is_passed (pair_at ram a)) (strip_from n ram (next a)) a

-- line y of the strip whose descriptor lies at an address. Lines of a strip count from 1
abbrev pub line_at : List ℕ → ℕ → ℕ → StripLine
line_at ram a y = record { descriptor = pair_at ram a; line = record { 0 = y + 1 } }

-- line y, counted from the first line of the strip that the descriptors from an address on begin, is a line of that strip, or it falls in the strips
-- after it. Where 512 descriptors in a row are passed over, it falls in none, and nor do the lines after it (K9): the last of the 512 stands for
-- its descriptor; it is spacing, so the line is plain. n is how many strips may still be passed: y is enough, since each has a line at least, and
-- where n is 0 so is y
unfoldable pub falls_in : (n : ℕ) (ram : List ℕ) (ch a y : ℕ) → StripLine
falls_in zero ram ch a y = line_at ram (strip_from 511 ram a) y
falls_in (suc n) ram ch a y =
    let b : ℕ = strip_from 511 ram a in
    let d : Pair = pair_at ram b in
    cond (is_passed d || ltb y (lines_of ch d)) (line_at ram b y) (falls_in n ram ch (next b) (y - lines_of ch d))

-- ---- "From line to slice"

-- the slice that a line of characters shows: n times 18 over CH, rounded, halves up (H), and 1 at the least (K2)
abbrev pub slice_of : ℕ → StripLine → Slice
slice_of ch at = interpolated at.line (height_of ch) (zoomed_by at.descriptor.high)

-- ---- "Codes and glyphs"

-- one of the codes 0 to k of the row at an address ends the line: SET 1, 127 (H)
unfoldable pub ended : ℕ → List ℕ → ℕ → Bool
ended zero ram a = ends_line (pair_at ram a).high
ended (suc k) ram a = ends_line (pair_at ram a).high || ended k ram (next a)

-- the two bytes at a place, as the pixels PX11 to PX0, a bit each
abbrev pub twelve_at : List ℕ → ℕ → ℕ
twelve_at bytes i = twelve (get_or bytes i 0) (get_or bytes (i + 1) 0)

-- what a code's high byte shows in a slice. SET 0: a font character. SET 1, 0 to 25: a user character; 26 to 126: all background (H)
abbrev pub slice_bits : (ram font : List ℕ) (high slice : ℕ) → ℕ
slice_bits ram font high slice =
    let number : ℕ = number_in high in
    cond (from_font high)
    (twelve_at font (font_byte number slice))
    (cond (is_user number) (twelve_at ram (user_cell number slice)) 0)

-- ---- "Pixels"

-- is column c of a character, 0 to 11, foreground? PX11 is leftmost. A flashing character in its hidden time draws foreground as background and
-- casts no shadow
abbrev pub is_foreground : (hidden : Bool) (low bits c : ℕ) → Bool
is_foreground hidden low bits c = not (hidden && flashes low) && eqb (bits / 2 ^ (11 - c) % 2) 1

-- the code of column j of a row: columns are counted from its first character's first pixel, twelve a code
abbrev pub code_of : List ℕ → Row → ℕ → Pair
code_of ram row j = pair_at ram (row.address + 2 * (j / 12))

-- is column j foreground? A blank or hidden character has none
abbrev pub foreground_at : List ℕ → List ℕ → Row → ℕ → Bool
foreground_at ram font row j =
    let code : Pair = code_of ram row j in
    is_foreground row.hidden code.low (slice_bits ram font code.high row.slice.0) (j % 12)

-- is there foreground just to its left? That is column j − 1, of the same character or, for a leftmost column, the last of the character just to its
-- left (K7). The row's first column has none
abbrev pub beside_at : List ℕ → List ℕ → Row → ℕ → Bool
beside_at ram font row j = ltb 0 j && foreground_at ram font row (j - 1)

-- its pixel: plain from the end of line on
unfoldable pub row_pixel : List ℕ → List ℕ → Row → ℕ → ℕ
row_pixel ram font row j =
    let low : ℕ = (code_of ram row j).low in
    cond (ended (j / 12) ram row.address)
    row.plain
    (cond (foreground_at ram font row j) (foreground low) (background row.plain low (beside_at ram font row j)))

-- column x of a line of characters: plain before the first character, then the row. x is below W, so its code is read; W cuts the last
abbrev pub characters_pixel : Settings → (ram font : List ℕ) (f : ℕ) → StripLine → (x : ℕ) → ℕ
characters_pixel s ram font f at x =
    let first : ℕ = first_pixel_of s.dd in
    let row : Row =
    record {
      address = codes_at at.descriptor.low at.descriptor.high;
      slice = slice_of s.ch at;
      plain = plain_of s.fbk;
      hidden = hidden_in s.fl f;
    }
    in
    cond (ltb x first) (plain_of s.fbk) (row_pixel ram font row (x - first))

-- the pixel at column x, below W, of line y, in a frame with number f, 0 to 63. Descriptors from P times 64 on. OSD 0: every pixel 0. Spacing
-- strips and strips with DE 0 are plain
unfoldable pub pixel_at : Registers → (ram font : List ℕ) (f x y : ℕ) → ℕ
pixel_at r ram font f x y =
    let s : Settings = settings_of r in
    let at : StripLine = falls_in y ram s.ch (page_address (page_of r)) y in
    cond (not s.osd) 0
    (cond (not (shows_codes at.descriptor.high)) (plain_of s.fbk) (characters_pixel s ram font f at x))
