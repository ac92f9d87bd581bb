-- Request K7: what it changes of document 01's line, and that it changes nothing else.
-- For every record of settings, font, frame number and row, made-up ones too.
-- Assumes nothing.
use Rattle.std.specs.Prelude.{ℕ, ◌-◌, ◌/◌, ◌%◌, ◌^◌, ◌<◌, ◌≡◌, Bool, false, cond, ◌&&◌, List, [], ◌∷◌, ◌++◌, eqb, leb, get_or, take, replicate}
use Rattle.registers.specs.declared.Settings.{Settings}
use Rattle.raster.specs.Raster.{width_of, first_pixel_of, hidden_in}
use Rattle.paint.specs.Pixels.{plain_of}
use Rattle.line.specs.Line.{Place, shown_of, character, in_line, paint}

-- document 01's row: each character is drawn by itself, with nothing to its left
unfoldable pub apart : List ℕ → (plain : ℕ) (hidden : Bool) (room : ℕ) → List Place → List ℕ
apart font plain hidden room [] = replicate room plain
apart font plain hidden room (p ∷ ps) = take room (character font plain hidden 0 p) ++ apart font plain hidden (room - 12) ps

-- document 01's line
unfoldable pub paint_apart : Settings → List ℕ → ℕ → List Place → List ℕ
paint_apart s font f row = in_line s (apart font (plain_of s.fbk) (hidden_in s.fl f) (width_of s.ld - first_pixel_of s.dd) row)

-- the shadow of p crosses the seam into q, just to its right: q's leftmost column, PX11, is background, or drawn as such while q is hidden; q is
-- shadowed (BK3 1 and BK1 1); and p drew foreground in its last column, PX0, so it is neither hidden nor blank
unfoldable pub crosses : List ℕ → Bool → Place → Place → Bool
crosses font hidden p q =
    eqb (shown_of font hidden q / 2 ^ 11 % 2) 0 && (eqb (q.low / 8 % 2) 1 && (eqb (q.low / 2 % 2) 1 && eqb (shown_of font hidden p % 2) 1))

-- column j of a row, counted from its first character's first pixel, is the leftmost of a character that the shadow of the one just to its left
-- crosses into. The first character has none
unfoldable pub in_seam : List ℕ → Bool → List Place → ℕ → Bool
in_seam font hidden [] j = false
in_seam font hidden (p ∷ []) j = false
in_seam font hidden (p ∷ q ∷ ps) j = cond (eqb j 12) (crosses font hidden p q) (in_seam font hidden (q ∷ ps) (j - 12))

-- the claim: a line's pixels are document 01's, but black with FBLK 1 where a shadow crosses a seam
abbrev pub Seams : Type 0
Seams =
    (s : Settings) (font : List ℕ) (f : ℕ) (row : List Place) (x : ℕ) → x < width_of s.ld
    → get_or (paint s font f row) x 0
    ≡ cond (s.osd && (leb (first_pixel_of s.dd) x && in_seam font (hidden_in s.fl f) row (x - first_pixel_of s.dd))) 8
    (get_or (paint_apart s font f row) x 0)
