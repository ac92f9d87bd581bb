-- What the line's functions promise of the bytes that they write and the cells that they read, in the definition's terms.
-- Assumes nothing.
use Rattle.std.specs.Prelude.{ℕ, ◌+◌, ◌-◌, min, ◌≡◌, List, ◌++◌, is_none, length, get_or, take, drop, replicate, Some}
use Rattle.cells.specs.Reading.{Reading, value, cells}
use Rattle.registers.specs.declared.Registers.{Registers}
use Rattle.registers.specs.declared.Settings.{Settings}
use Rattle.registers.specs.Registers.{settings_of}
use Rattle.raster.specs.Raster.{width_of, characters_in}
use Rattle.walk.specs.declared.Strip.{Strip}
use Rattle.walk.specs.declared.Walk.{Walk}
use Rattle.walk.specs.declared.Walked.{Walked}
use Rattle.glyph.specs.Glyph.{ends_line, glyph_of}
use Rattle.paint.specs.declared.Drawn.{Drawn}
use Rattle.paint.specs.Tables.{column_pixels}
use Rattle.line.specs.declared.Pen.{Pen}
use Rattle.line.specs.declared.Coded.{Coded}
use Rattle.line.specs.Line.{Place, codes, shown_row, scan, shown_of, character, painted, paint}

-- what stands at the code of an even address
abbrev pub place_at : List ℕ → Pen → ℕ → Place
place_at ram pen a = record { low = get_or ram a 0; glyph = value ram (glyph_of (get_or ram (a + 1) 0) pen.slice) }

-- the code at an even address, after the bits that the character to its left shows: does it end the line, how many cells did it read, and which
-- bits and columns does its character have?
pub record CodeShown (ram font : List ℕ) (at : ℕ) (pen : Pen) (before : ℕ) (c : Coded) : Type 0 where
  pub ends : is_none c.drawn ≡ ends_line (get_or ram (at + 1) 0)
  pub reads : c.cells ≡ 2 + length (cells ram (glyph_of (get_or ram (at + 1) 0) pen.slice))
  pub bits : (d : Drawn) → c.drawn ≡ Some d → d.bits ≡ shown_of font pen.hidden (place_at ram pen at)
  pub pixels : (d : Drawn) → c.drawn ≡ Some d → column_pixels d.columns ≡ character font pen.plain pen.hidden before (place_at ram pen at)

-- the codes that there is room for; the pixels of that room, after the bits that the character to the left of it shows
abbrev pub row_in : Pen → ℕ → ℕ → Reading (List Place)
row_in pen room a = codes (characters_in room) pen.slice a

abbrev pub room_of : List ℕ → List ℕ → Pen → (before room a : ℕ) → List ℕ
room_of ram font pen before room a = painted font pen.plain pen.hidden before room (value ram (row_in pen room a))

-- the room from pixel x to w holds the characters and then plain; the bytes before and after stay
pub record RowDrawn (ram font : List ℕ) (address : ℕ) (pen : Pen) (x w : ℕ) (out : List ℕ) (n : ℕ) (out' : List ℕ) : Type 0 where
  pub pixels : out' ≡ take x out ++ (room_of ram font pen 0 (w - x) address ++ drop w out)
  pub reads : n ≡ length (cells ram (row_in pen (w - x) address))

-- plain up to the first character, or to w, then the row
pub record CharactersDrawn (ram font : List ℕ) (address : ℕ) (pen : Pen) (x w : ℕ) (out : List ℕ) (n : ℕ) (out' : List ℕ) : Type 0 where
  pub pixels : out' ≡ replicate (min x w) pen.plain ++ (room_of ram font pen 0 (w - x) address ++ drop w out)
  pub reads : n ≡ length (cells ram (row_in pen (w - x) address))

-- a line of the strip on screen; later bytes stay
pub record StripDrawn (ram font : List ℕ) (s : Settings) (strip : Strip) (f : ℕ) (out : List ℕ) (n : ℕ) (out' : List ℕ) : Type 0 where
  pub pixels : out' ≡ paint s font f (value ram (shown_row s strip)) ++ drop (width_of s.ld) out
  pub reads : n ≡ length (cells ram (shown_row s strip))

-- a frame's next line; later bytes stay
pub record LineDrawn (ram font : List ℕ) (r : Registers) (w : Walk) (f : ℕ) (out : List ℕ) (l : Walked) (out' : List ℕ) : Type 0 where
  pub pixels : out' ≡ paint (settings_of r) font f (value ram (scan (settings_of r) w)).row ++ drop (width_of (settings_of r).ld) out
  pub walk : l.walk ≡ (value ram (scan (settings_of r) w)).walk
  pub reads : l.cells ≡ length (cells ram (scan (settings_of r) w))
