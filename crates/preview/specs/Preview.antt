-- A text preview of a picture: which headings are taken, and the character that stands for 4 columns of 8 lines.
-- Assumes nothing.
use Rattle.std.specs.Prelude.{ℕ, ◌+◌, ◌-◌, ◌*◌, ◌/◌, ◌%◌, cond, List, [], ◌∷◌, eqb, ltb, get_or, Option, Some, None, option_and_then}
use Rattle.limits.specs.Limits.{line_max}
use Rattle.preview.specs.declared.Size.{Size}

-- ---- the heading: `P6`, a newline, the width and the height in three digits each with a space between, a newline, `255` and one byte

-- none for a byte that is no digit
abbrev pub digit : ℕ → Option ℕ
digit b = cond (ltb b 48) None (cond (ltb 57 b) None (Some (b - 48)))

-- none where a byte is no digit
abbrev pub number : ℕ → ℕ → ℕ → Option ℕ
number a b c =
    option_and_then (λ h. option_and_then (λ t. option_and_then (λ o. Some (100 * h + 10 * t + o)) (digit c)) (digit b)) (digit a)

-- four bytes as one number, the first of them highest
abbrev pub four_bytes : ℕ → ℕ → ℕ → ℕ → ℕ
four_bytes a b c d = ((a * 256 + b) * 256 + c) * 256 + d

-- a width of 1 to 768, and any height of three digits
abbrev pub shown : ℕ → ℕ → Option Size
shown width height =
    cond (eqb width 0) None (cond (ltb line_max width) None (Some (record { width = width; height = height })))

-- 50 36 0A 20 is `P6`, newline, space, and 0A 32 35 35 is newline, `255`; none where the picture is not shown
unfoldable pub size_of : List ℕ → Option Size
size_of h =
    cond (eqb (four_bytes (get_or h 0 0) (get_or h 1 0) (get_or h 2 0) (get_or h 6 0)) 0x50360A20)
    (cond (eqb (four_bytes (get_or h 10 0) (get_or h 11 0) (get_or h 12 0) (get_or h 13 0)) 0x0A323535)
    (option_and_then (λ w. option_and_then (λ t. shown w t)
    (number (get_or h 7 0) (get_or h 8 0) (get_or h 9 0)))
    (number (get_or h 3 0) (get_or h 4 0) (get_or h 5 0)))
    None)
    None

-- ---- a character: two columns of four dots, each for one of the pixels in every second column and line

-- the brightness of the pixel whose red stands at a place, 0 to 255
abbrev pub brightness : List ℕ → ℕ → ℕ
brightness band at = (2 * get_or band at 0 + 5 * get_or band (at + 1) 0 + get_or band (at + 2) 0) / 8

-- a dot has a weight, and is set where the pixel is bright enough
unfoldable pub dot : List ℕ → ℕ → ℕ → ℕ → ℕ
dot band at least weight = cond (ltb (brightness band at) least) 0 weight

-- the dots of one line: two pixels are 6 bytes apart
abbrev pub dots : List ℕ → ℕ → ℕ → ℕ → ℕ → ℕ
dots band at left right weight = dot band at left weight + dot band (at + 6) right (8 * weight)

-- the upper three rows of dots
abbrev pub upper : List ℕ → ℕ → ℕ → ℕ
upper band at pitch = dots band at 64 160 1 + dots band (at + 2 * pitch) 208 112 2 + dots band (at + 4 * pitch) 88 184 4

-- the lowest row of a Braille character has the last two weights
abbrev pub cell : List ℕ → ℕ → ℕ → ℕ
cell band at pitch = upper band at pitch + (dot band (at + 6 * pitch) 232 64 + dot band (at + 6 * pitch + 6) 136 128)

-- Braille patterns start at 2800 hexadecimal, three bytes each in UTF-8
abbrev pub braille : ℕ → List ℕ
braille n = 226 ∷ (160 + n / 64) ∷ (128 + n % 64) ∷ []
