-- The proof of what K7 changes (specs/Seams.antt): the first column of a character by cases, the others have the same column to their left.
-- Assumes nothing.
use Prim.Native.Nat.{ℕ, zero, suc, ◌+◌, ◌-◌, ◌/◌, ◌%◌, ◌≤◌, ◌<◌, min}
use mathlib.Core.Path.{◌≡◌, refl, sym, ap, ◌∙◌}
use mathlib.Core.Bool.{Bool, true, false, not, cond, ◌&&◌}
use mathlib.Core.List.{List, [], ◌∷◌, ◌++◌}
use native.Mathlib.Decide.{dec_lt}
use native.Mathlib.Omega.{arith}
use borrow.Author.Tests.{ne_eqb, le-leb, lt-leb}
use lib.Dec.{eqb, leb}
use lib.ListN.{length, get_or, take, replicate, length-replicate}
use Rattle.facts.proofs.Choice.{cond_same}
use Rattle.raster.specs.Raster.{width_of, first_pixel_of, hidden_in}
use Rattle.paint.specs.Pixels.{plain_of, foreground, ink_of, columns, twelve_columns}
use Rattle.line.specs.Line.{Place, shown_of, character, painted, paint}
use Rattle.line.specs.Seams.{apart, paint_apart, crosses, in_seam, Seams}
use Rattle.line.proofs.Laws.{at_front, at_rest, column_in, column_past}

-- a bit that is not 1 is 0
bit_is : (n : ℕ) → eqb (n % 2) 0 ≡ not (eqb (n % 2) 1)
bit_is n = by (n % 2) (omega arith)
  where
    by : (b : ℕ) → b < 2 → eqb b 0 ≡ not (eqb b 1)
    by zero h = refl
    by (suc zero) h = refl
    by (suc (suc b)) h = absurd (omega arith)

-- a character's columns after what stands to its left, and with nothing there
module _ (plain low before bits : ℕ) where
  first_column : get_or (twelve_columns plain low before bits) 0 0
      ≡ cond (eqb (bits / 2048 % 2) 0 && (eqb (low / 8 % 2) 1 && (eqb (low / 2 % 2) 1 && eqb (before % 2) 1))) 8 (get_or (twelve_columns plain low 0 bits) 0 0)
  unfolding twelve_columns columns ink_of
  first_column =
      rw (bit_is (bits / 2048), bit_is (low / 8), bit_is (low / 2))
      (by (eqb (bits / 2048 % 2) 1) (eqb (low / 8 % 2) 1) (eqb (low / 2 % 2) 1) (eqb (before % 2) 1) (foreground low) (8 + low % 8))
    where
      by : (u s t v : Bool) (fore solid : ℕ)
          → cond u fore (cond v (cond (not s) solid (cond (not t) plain 8)) (cond (not s) solid (cond (not t) plain plain)))
          ≡ cond (not u && (s && (t && v))) 8 (cond u fore (cond (not s) solid (cond (not t) plain plain)))
      by true s t v fore solid = refl
      by false false t v fore solid = cond_same v solid
      by false true false v fore solid = cond_same v plain
      by false true true v fore solid = refl

  later_column : (j : ℕ) → get_or (twelve_columns plain low before bits) (suc j) 0 ≡ get_or (twelve_columns plain low 0 bits) (suc j) 0
  unfolding twelve_columns columns
  later_column j = refl

-- ---- a row

module _ (font : List ℕ) (plain : ℕ) (hidden : Bool) where
  -- no shadow crosses into a row's first character
  none_first : (p : Place) (ps : List Place) (j : ℕ) → j < 12 → in_seam font hidden (p ∷ ps) j ≡ false
  unfolding in_seam
  none_first p [] j h = refl
  none_first p (q ∷ ps) j h = rw (ne_eqb j 12 (omega arith)) (none_first q ps (j - 12) (omega arith))

  -- column j of the second, q
  column_is : (p q : Place) (ps : List Place) (j : ℕ) → j < 12
      → get_or (character font plain hidden (shown_of font hidden p) q) j 0
      ≡ cond (in_seam font hidden (p ∷ q ∷ ps) (12 + j)) 8 (get_or (character font plain hidden 0 q) j 0)
  unfolding character in_seam crosses
  column_is p q ps zero h = first_column plain q.low (shown_of font hidden p) (shown_of font hidden q)
  column_is p q ps (suc j) h =
      rw (ne_eqb (12 + suc j) 12 (omega arith), none_first q ps (12 + suc j - 12) (omega arith))
      (later_column plain q.low (shown_of font hidden p) (shown_of font hidden q) j)

  -- the row past p
  past_is : (p : Place) (ps : List Place) (room j : ℕ) → j < room
      → get_or (painted font plain hidden (shown_of font hidden p) room ps) j 0
      ≡ cond (in_seam font hidden (p ∷ ps) (12 + j)) 8 (get_or (apart font plain hidden room ps) j 0)
  unfolding painted apart in_seam
  past_is p [] room j h = refl
  past_is p (q ∷ ps) room j h = by (dec_lt j 12) (past_is q ps (room - 12) (j - 12))
    where
      before : ℕ
      before = shown_of font hidden p

      by : Dec (j < 12)
          → (j - 12 < room - 12 → get_or (painted font plain hidden (shown_of font hidden q) (room - 12) ps) (j - 12) 0
          ≡ cond (in_seam font hidden (q ∷ ps) (12 + (j - 12))) 8 (get_or (apart font plain hidden (room - 12) ps) (j - 12) 0))
          → get_or (take room (character font plain hidden before q) ++ painted font plain hidden (shown_of font hidden q) (room - 12) ps) j 0
          ≡ cond (in_seam font hidden (p ∷ q ∷ ps) (12 + j)) 8 (get_or (take room (character font plain hidden 0 q) ++ apart font plain hidden (room - 12) ps) j 0)
      by (yes l) later =
          column_in font plain hidden before room q _ j h l
          ∙ column_is p q ps j l
          ∙ ap (cond (in_seam font hidden (p ∷ q ∷ ps) (12 + j)) 8) (sym (column_in font plain hidden 0 room q _ j h l))
      by (no l) later =
          let same : 12 + (j - 12) ≡ 12 + j - 12 = omega arith in
          column_past font plain hidden before room q _ j h (omega arith)
          ∙ later (omega arith)
          ∙ rw (ne_eqb (12 + j) 12 (omega arith), same, column_past font plain hidden 0 room q (apart font plain hidden (room - 12) ps) j h (omega arith))

  row_is : (room : ℕ) (row : List Place) (j : ℕ) → j < room
      → get_or (painted font plain hidden 0 room row) j 0 ≡ cond (in_seam font hidden row j) 8 (get_or (apart font plain hidden room row) j 0)
  unfolding painted apart in_seam
  row_is room [] j h = refl
  row_is room (p ∷ ps) j h = by (dec_lt j 12)
    where
      by : Dec (j < 12)
          → get_or (take room (character font plain hidden 0 p) ++ painted font plain hidden (shown_of font hidden p) (room - 12) ps) j 0
          ≡ cond (in_seam font hidden (p ∷ ps) j) 8 (get_or (take room (character font plain hidden 0 p) ++ apart font plain hidden (room - 12) ps) j 0)
      by (yes l) =
          rw (none_first p ps j l) (column_in font plain hidden 0 room p _ j h l ∙ sym (column_in font plain hidden 0 room p _ j h l))
      by (no l) =
          let same : 12 + (j - 12) ≡ j = omega arith in
          column_past font plain hidden 0 room p _ j h (omega arith)
          ∙ past_is p ps (room - 12) (j - 12) (omega arith)
          ∙ rw (same, column_past font plain hidden 0 room p (apart font plain hidden (room - 12) ps) j h (omega arith))

-- ---- a line

pub seams : Seams
unfolding paint paint_apart
seams s font f row x h = by s.osd
  where
    first : ℕ
    first = first_pixel_of s.dd

    w : ℕ
    w = width_of s.ld

    plain : ℕ
    plain = plain_of s.fbk

    hidden : Bool
    hidden = hidden_in s.fl f

    margin : List ℕ
    margin = replicate (min first w) plain

    long : length margin ≡ min first w
    long = length-replicate (min first w) plain

    drawn : Dec (x < first)
        → get_or (margin ++ painted font plain hidden 0 (w - first) row) x 0
        ≡ cond (leb first x && in_seam font hidden row (x - first)) 8 (get_or (margin ++ apart font plain hidden (w - first) row) x 0)
    drawn (yes l) = rw (lt-leb first x l) (at_front margin _ first w x long h l ∙ sym (at_front margin _ first w x long h l))
    drawn (no l) =
        let past : first ≤ x = omega arith in
        rw (le-leb first x past)
        (at_rest margin _ first w x long h past
        ∙ row_is font plain hidden (w - first) row (x - first) (omega arith)
        ∙ ap (cond (in_seam font hidden row (x - first)) 8) (sym (at_rest margin _ first w x long h past)))

    by : (o : Bool)
        → get_or (cond o (margin ++ painted font plain hidden 0 (w - first) row) (replicate w 0)) x 0
        ≡ cond (o && (leb first x && in_seam font hidden row (x - first))) 8 (get_or (cond o (margin ++ apart font plain hidden (w - first) row) (replicate w 0)) x 0)
    by true = drawn (dec_lt x first)
    by false = refl
