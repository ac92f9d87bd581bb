-- What a row's codes show, as the words of their slices.
-- Assumes nothing.
use Rattle.std.specs.Prelude.{ℕ, ◌+◌, ◌*◌, cond, List, length, Option, Some, None}
use Rattle.cells.specs.Reading.{value, cells}
use Rattle.raster.specs.declared.Slice.{Slice}
use Rattle.glyph.specs.declared.Word.{Word}
use Rattle.glyph.specs.Glyph.{Glyph, ends_line, glyph_of, of_bytes}

-- two bytes as they lie, the low one first
abbrev pub in_order : ℕ → ℕ → ℕ
in_order first second = second * 256 + first

-- those of a glyph, with all their bits, since the code that looks a glyph up leaves the cut to twelve (`bits_of`) to who paints
abbrev pub word_of : (fnt : List ℕ) → Glyph → ℕ
word_of = of_bytes in_order

-- a code's word in a slice, and how many cells that read, of every code: at the end of line no bits and no cells, as of any blank
abbrev pub glyph_word : (ram fnt : List ℕ) (high : ℕ) → Slice → Word
glyph_word ram fnt high s = record { bits = word_of fnt (value ram (glyph_of high s)); cells = length (cells ram (glyph_of high s)) }

-- what the lookup finds: nothing at the end of line
unfoldable pub word_in : (ram fnt : List ℕ) (high : ℕ) → Slice → Option Word
word_in ram fnt high s = cond (ends_line high) None (Some (glyph_word ram fnt high s))
