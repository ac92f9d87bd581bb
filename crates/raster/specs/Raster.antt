-- Document 01, "From line to slice", as request K2 mends it, with the lines of a character strip of "Walk of a frame", and of
-- "Pixels" the width, the first pixel and the hidden time.
-- Assumes nothing.
use Rattle.std.specs.Prelude.{ℕ, zero, suc, ◌+◌, ◌-◌, ◌*◌, ◌/◌, ◌≤◌, ◌<◌, max, Bool, false, cond, leb}
use Rattle.raster.specs.declared.ScanLine.{ScanLine}
use Rattle.raster.specs.declared.Slice.{Slice}

-- a character strip has CH lines, or twice that with ZY
abbrev pub strip_lines : ℕ → Bool → ℕ
strip_lines ch zoom = cond zoom (2 * ch) ch

-- ---- the scan lines of a strip

-- before a strip's first line
unfoldable pub before_first : ScanLine
before_first = record { 0 = 0 }

-- the line after this one
unfoldable pub following : ScanLine → ScanLine
following j = record { 0 = j.0 + 1 }

-- line j of a strip counts from 1 and ends with the strip's last
pub record InStrip (j : ScanLine) (ch : ℕ) (zoom : Bool) : Type 0 where
  pub from : 1 ≤ j.0
  pub to : j.0 ≤ strip_lines ch zoom

-- it is the strip's last, or beyond
unfoldable pub is_last : ScanLine → ℕ → Bool → Bool
is_last j ch zoom = leb (strip_lines ch zoom) j.0

-- how many lines of the strip are left after it
unfoldable pub lines_after : ScanLine → ℕ → Bool → ℕ
lines_after j ch zoom = strip_lines ch zoom - j.0

-- its number has sixteen bits, and so has that of the line after it
abbrev pub HasNext : ScanLine → Type 0
HasNext j = j.0 < 65535

-- ---- the slices of a character

-- a slice of a character, as lines show it and as the lookup is asked for it: 1 to 18
pub record OnScreen (s : Slice) : Type 0 where
  pub from : 1 ≤ s.0
  pub to : s.0 ≤ 18

-- ---- from line to slice

-- n is j, or with ZY half of j rounded up
abbrev pub unzoomed : Bool → ℕ → ℕ
unzoomed zoom j = cond zoom ((j + 1) / 2) j

-- the slice is n times 18 over CH, rounded, halves up (H). A rounded slice below 1 is taken as 1 (K2)
unfoldable pub slice_number : ℕ → ℕ → ℕ
slice_number ch n = max 1 ((36 * n + ch) / (2 * ch))

-- only this turns a scan line of a strip into a slice of a character
unfoldable pub interpolated : ScanLine → ℕ → Bool → Slice
interpolated j ch zoom = record { 0 = slice_number ch (unzoomed zoom j.0) }

-- ---- the characters of a line

-- W = 12 × (LD + 1)
abbrev pub width_of : ℕ → ℕ
width_of ld = 12 * (ld + 1)

-- characters start at pixel 3 × (DD + 8), DD below 4 taken as 4
abbrev pub first_pixel_of : ℕ → ℕ
first_pixel_of dd = 3 * (max 4 dd + 8)

-- how many characters start in a room of so many pixels, one every 12
abbrev pub characters_in : ℕ → ℕ
characters_in room = (room + 11) / 12

-- those of a line: their first pixel is below W
abbrev pub characters_of : ℕ → ℕ → ℕ
characters_of ld dd = characters_in (width_of ld - first_pixel_of dd)

-- hidden time: mode 0 never hides, mode 1 shows f below 32, mode 2 below 16, mode 3 below 48 (H)
abbrev pub hidden_in : ℕ → ℕ → Bool
hidden_in zero f = false
hidden_in (suc zero) f = leb 32 f
hidden_in (suc (suc zero)) f = leb 16 f
hidden_in (suc (suc (suc n))) f = leb 48 f
