-- Document 01, "Edges to test": the rows marked P, one table under one claim. The slices for (37,1) and (63,1) are request K2's,
-- what stands to the left of the second character is K7's.
-- Assumes nothing.
use Rattle.std.specs.Prelude.{ℕ, ◌+◌, ◌*◌, ◌≤◌, ◌≡◌, true, List, [], ◌∷◌, ◌++◌, length, take, replicate}
use Rattle.cells.specs.Reading.{code, cells, cells_as}
use Rattle.registers.specs.declared.Settings.{Settings}
use Rattle.raster.specs.Raster.{slice_number, first_pixel_of, hidden_in}
use Rattle.walk.specs.declared.Walk.{Walk}
use Rattle.glyph.specs.Glyph.{glyph_of}
use Rattle.paint.specs.Pixels.{plain_of}
use Rattle.line.specs.Line.{Place, scan, shown_of, character, paint}

pub data Row : Type 0 where
  -- slice for (CH, n)
  slice : (ch n s : ℕ) → Row
  -- the first pixel for DD
  start : (dd x : ℕ) → Row
  -- a line of this LD and DD reads at most so many codes
  most_codes : (ld dd n : ℕ) → Row
  -- on a line of this LD and DD the second character is cut to so many columns
  second_cut : (ld dd n : ℕ) → Row
  -- the cells of a user character's slice
  user_cells : (number s first second : ℕ) → Row

-- what a row says, for any RAM, font, walk and other settings
unfoldable pub Holds : Row → Type 0
Holds (slice ch n s) = slice_number ch n ≡ s
Holds (start dd x) = first_pixel_of dd ≡ x
-- a code is two cells
Holds (most_codes ld dd n) = (s : Settings) (w : Walk) (ram : List ℕ) → s.ld ≡ ld → s.dd ≡ dd → length (cells_as code ram (scan s w)) ≤ 2 * n
Holds (second_cut ld dd n) =
    (s : Settings) (fnt : List ℕ) (f : ℕ) (p q : Place) → s.ld ≡ ld → s.dd ≡ dd → s.osd ≡ true
    → paint s fnt f (p ∷ q ∷ [])
    ≡ replicate (first_pixel_of dd) (plain_of s.fbk)
    ++ (character fnt (plain_of s.fbk) (hidden_in s.fl f) 0 p
    ++ take n (character fnt (plain_of s.fbk) (hidden_in s.fl f) (shown_of fnt (hidden_in s.fl f) p) q))
Holds (user_cells number s a b) = (ram : List ℕ) → cells ram (glyph_of (128 + number) (record { 0 = s })) ≡ a ∷ b ∷ []

-- LD 4 is W 60, LD 63 is W 768
unfoldable pub table : List Row
table =
    slice 18 1 1
    ∷ slice 18 18 18
    ∷ slice 36 2 1
    ∷ slice 36 35 18
    ∷ slice 37 1 1
    ∷ slice 63 1 1
    ∷ slice 63 2 1
    ∷ slice 1 1 18
    ∷ slice 12 1 2
    ∷ start 3 36
    ∷ start 8 48
    ∷ start 255 789
    ∷ most_codes 63 255 0
    ∷ most_codes 4 5 2
    ∷ second_cut 4 5 9
    ∷ user_cells 25 18 986 987
    ∷ []

unfoldable pub Each : List Row → Type 0
Each [] = Unit
Each (r ∷ rs) = Holds r × Each rs

-- the claim: every row holds
abbrev pub Edges : Type 0
Edges = Each table
