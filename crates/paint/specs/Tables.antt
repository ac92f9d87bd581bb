-- The tables that characters are drawn from, four columns at a time: a column is a byte of a number, the leftmost the lowest.
-- Assumes nothing.
use Rattle.std.specs.Prelude.{ℕ, zero, suc, ◌+◌, ◌-◌, ◌*◌, ◌/◌, ◌%◌, ◌<◌, ◌≡◌, Bool, cond, ◌&&◌, List, [], ◌∷◌, ◌++◌, ltb, leb}
use Rattle.std.specs.Int.Bits.{bit_and, bit_or, bit_xor}
use Rattle.paint.specs.declared.Paint.{Paint}
use Rattle.paint.specs.declared.Fours.{Fours}
use Rattle.paint.specs.declared.Drawn.{Drawn}
use Rattle.paint.specs.Pixels.{shown_bits, twelve_columns}

-- f of i and of the n − 1 numbers after it
unfoldable pub tabulate : (ℕ → ℕ) → ℕ → ℕ → List ℕ
tabulate f i zero = []
tabulate f i (suc n) = f i ∷ tabulate f (suc i) n

-- four columns of one number each
abbrev pub in_four : ℕ → ℕ → ℕ → ℕ → ℕ
in_four a b c d = a + 256 * b + 65536 * c + 16777216 * d

-- an index has five bits: the column to the left of the four, then the four from the left.
-- Foreground columns
unfoldable pub facing : ℕ → ℕ
facing i = 255 * in_four (i / 8 % 2) (i / 4 % 2) (i / 2 % 2) (i % 2)

-- shadow: black, FBLK 1, in background columns beside foreground, to its right
unfoldable pub casting : ℕ → ℕ
casting i = 8 * in_four (i / 16 % 2 - i / 8 % 2) (i / 8 % 2 - i / 4 % 2) (i / 4 % 2 - i / 2 % 2) (i / 2 % 2 - i % 2)

-- four columns of one pixel
abbrev pub of_pixel : ℕ → ℕ
of_pixel pixel = pixel * 16843009

-- foreground for each FL, RF, GF, BF
unfoldable pub fores : ℕ → ℕ
fores i = of_pixel (8 + i % 8)

-- background for each BK
unfoldable pub backs : ℕ → ℕ → ℕ
backs plain i = of_pixel (cond (ltb i 8) (8 + i) plain)

-- the bits that are shown for each FL, RF, GF, BF
unfoldable pub shows : Bool → ℕ → ℕ
shows hidden i = cond (leb 8 i && hidden) 0 4095

unfoldable pub mask_table : List ℕ
mask_table = tabulate facing 0 32 ++ tabulate casting 0 32

-- what a row makes once and lends to its characters
unfoldable pub row_table : ℕ → Bool → List ℕ
row_table plain hidden = mask_table ++ (tabulate fores 0 16 ++ (tabulate (backs plain) 0 16 ++ tabulate (shows hidden) 0 16))

-- what a code's low byte draws with
unfoldable pub paint_of : ℕ → Bool → ℕ → Paint
paint_of plain hidden low =
    record {
      back = backs plain (low % 16);
      fore = bit_xor (backs plain (low % 16)) (fores (low / 16));
      kept = shows hidden (low / 16);
    }

-- four columns with no shadow, and with it
unfoldable pub solid : Paint → ℕ → ℕ
solid p i = bit_xor p.back (bit_and (facing i) p.fore)

unfoldable pub shadowed : Paint → ℕ → ℕ
shadowed p i = bit_or (solid p i) (casting i)

-- a plain pixel, 0 or 8: 8 laid over it by `or` is 8
abbrev pub IsPlain : ℕ → Type 0
IsPlain plain = (plain % 8 ≡ 0) × (plain < 16)

-- the pixels of four columns
unfoldable pub four_of : ℕ → List ℕ
four_of n = n % 256 ∷ n / 256 % 256 ∷ n / 65536 % 256 ∷ n / 16777216 % 256 ∷ []

-- twelve columns, four at a time: twelve bits, and above them the one to their left
unfoldable pub in_fours : (ℕ → ℕ) → ℕ → Fours
in_fours four bits = record { left = four (bits / 256); middle = four (bits / 16 % 32); right = four (bits % 32) }

-- their pixels
unfoldable pub column_pixels : Fours → List ℕ
column_pixels c = four_of c.left ++ (four_of c.middle ++ four_of c.right)

-- a character's bits and columns, after the bits that the one to its left shows
pub record CharacterDrawn (plain : ℕ) (hidden : Bool) (low before glyph : ℕ) (d : Drawn) : Type 0 where
  pub bits : d.bits ≡ shown_bits hidden low glyph
  pub pixels : column_pixels d.columns ≡ twelve_columns plain low before (shown_bits hidden low glyph)
