-- Document 01, "Pixels", as request K7 mends it: the colours of a code, and the columns of a character. A pixel is one byte: 8 FBLK + 4 R + 2 G + B.
-- Assumes nothing.
use Rattle.std.specs.Prelude.{ℕ, zero, suc, ◌+◌, ◌*◌, ◌/◌, ◌%◌, ◌^◌, Bool, true, false, cond, ◌&&◌, List, [], ◌∷◌, eqb}

-- plain pixel: colour 0 and FBLK = FBK
abbrev pub plain_of : ℕ → ℕ
plain_of fbk = 8 * fbk

-- low byte of a code (H): FL bit 7, RF, GF, BF bits 6 to 4, BK[3:0]
abbrev pub flashes : ℕ → Bool
flashes low = eqb (low / 128 % 2) 1

-- foreground: its colour, FBLK 1
abbrev pub foreground : ℕ → ℕ
foreground low = 8 + low / 16 % 8

-- a shadowed character, whose background takes shadow: BK3 1 and BK1 1
abbrev pub takes_shadow : ℕ → Bool
takes_shadow low = cond (eqb (low / 8 % 2) 0) false (cond (eqb (low / 2 % 2) 0) false true)

-- background with BK3 0: colour BK[2:0], FBLK 1. BK3 1 and BK1 0: plain. BK3 1 and BK1 1: black with FBLK 1 where the pixel to
-- the left is foreground (beside), else plain; to the left of a leftmost column stands the last column of the character just to its left
-- (K7). BK2 and BK0 are then ignored (H)
abbrev pub background : ℕ → ℕ → Bool → ℕ
background plain low beside =
    cond (eqb (low / 8 % 2) 0) (8 + low % 8) (cond (eqb (low / 2 % 2) 0) plain (cond beside 8 plain))

-- the pixels that a code draws with: foreground, background beside foreground, to its right, and other background
pub record Ink : Type 0 where
  pub fore : ℕ
  pub cast : ℕ
  pub back : ℕ

-- by its low byte
unfoldable pub ink_of : ℕ → ℕ → Ink
ink_of plain low = record { fore = foreground low; cast = background plain low true; back = background plain low false }

-- a pixel from its own bit and the bit to its left
abbrev pub pixel : Ink → ℕ → ℕ → ℕ
pixel ink bit left = cond (eqb bit 1) ink.fore (cond (eqb left 1) ink.cast ink.back)

-- the last n columns of a character, PX(n−1) to PX0, after a bit to the left
unfoldable pub columns : ℕ → Ink → ℕ → ℕ → List ℕ
columns zero ink bits left = []
columns (suc n) ink bits left = pixel ink (bits / 2 ^ n % 2) left ∷ columns n ink bits (bits / 2 ^ n % 2)

-- the bits that a character shows: a flashing one in its hidden time draws foreground as background and casts no shadow
abbrev pub shown_bits : Bool → ℕ → ℕ → ℕ
shown_bits hidden low bits = cond (flashes low && hidden) 0 bits

-- the twelve pixels of a code's low byte and the bits that its character shows, PX11 leftmost. To the left of PX11 stands PX0 of the bits that the
-- character just to its left shows (K7): not foreground where that one is hidden or blank
unfoldable pub twelve_columns : (plain low before bits : ℕ) → List ℕ
twelve_columns plain low before bits = columns 12 (ink_of plain low) bits (before % 2)
