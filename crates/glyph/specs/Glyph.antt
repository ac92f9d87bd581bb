-- Document 01, "Codes and glyphs": what a code shows in a slice, and which cells that reads. A slice is 1 to 18; no line asks for another
-- (`SlicesAsked` of `line`), so what these definitions give for another number is never shown.
-- Assumes nothing.
use Rattle.std.specs.Prelude.{ℕ, ◌+◌, ◌-◌, ◌*◌, ◌/◌, ◌%◌, ◌<◌, ◌≡◌, Bool, false, cond, List, eqb, ltb, get_or, take, drop}
use Rattle.limits.specs.Limits.{user_characters, user_length}
use Rattle.cells.specs.Reading.{slice, Reading, done, read}
use Rattle.raster.specs.declared.Slice.{Slice}

-- where the two bytes of a slice come from
pub data Glyph : Type 0 where
  -- a font character's slice
  font : (number slice : ℕ) → Glyph
  -- a user character's two bytes, read from the RAM
  user : (first second : ℕ) → Glyph
  -- all background
  blank : Glyph

-- ---- a code's high byte: bit 7 SET, then the number

-- SET 0: font character 0 to 127
abbrev pub from_font : (high : ℕ) → Bool
from_font high = eqb (high / 128 % 2) 0

abbrev pub number_in : (high : ℕ) → ℕ
number_in high = high % 128

-- SET 1, 0 to 25: user character
abbrev pub is_user : (number : ℕ) → Bool
is_user number = ltb number user_characters

-- SET 1, 127: end of line (H)
abbrev pub ends_line : (high : ℕ) → Bool
ends_line high = eqb high 255

-- ---- where its slice lies

-- a font character's slice s from 1 is at 36 × number + 2(s − 1)
abbrev pub font_byte : (number s : ℕ) → ℕ
font_byte number s = 36 * number + 2 * (s - 1)

-- a user character's slice s lies at cell 38 × number + 2s (001 prints + s). Its first two cells are of no slice (K4)
abbrev pub user_cell : (number s : ℕ) → ℕ
user_cell number s = user_length * number + 2 * s

-- SET 1, 26 to 126: all background, no slice read (H)
unfoldable pub in_ram : (number s : ℕ) → Reading Glyph
in_ram number s =
    cond (is_user number)
    (read slice (user_cell number s) λ first. read slice (user_cell number s + 1) λ second. done (user first second))
    (done blank)

unfoldable pub glyph_of : (high : ℕ) → Slice → Reading Glyph
glyph_of high s = cond (from_font high) (done (font (number_in high) s.0)) (in_ram (number_in high) s.0)

-- ---- its pixels

-- a number made of a glyph's two bytes; 0 where it has none
unfoldable pub of_bytes : (ℕ → ℕ → ℕ) → (fnt : List ℕ) → Glyph → ℕ
of_bytes f fnt (font number s) = f (get_or fnt (font_byte number s) 0) (get_or fnt (font_byte number s + 1) 0)
of_bytes f fnt (user first second) = f first second
of_bytes f fnt blank = 0

-- first PX7 to PX0, then PX11 to PX8 in the low bits
abbrev pub twelve : (first second : ℕ) → ℕ
twelve first second = second % 16 * 256 + first

-- the pixels PX11 to PX0 of a glyph as a number, a bit each
abbrev pub bits_of : (fnt : List ℕ) → Glyph → ℕ
bits_of = of_bytes twelve

-- ---- the lookup

-- the two bytes of a slice come from the lent RAM or from the lent font: a two-byte part of one of them, chosen by SET
unfoldable pub slice_part : (ram fnt : List ℕ) (high s : ℕ) → List ℕ
slice_part ram fnt high s =
    cond (from_font high) (take 2 (drop (font_byte (number_in high) s) fnt)) (take 2 (drop (user_cell (number_in high) s) ram))

-- a character with slices: of the font, or a user character 0 to 25
abbrev pub HasSlices : (high : ℕ) → Type 0
HasSlices high = from_font high ≡ false → number_in high < user_characters
