-- The laws of a line: it has W pixels, each below 16; what stands at a column.
-- Assumes nothing.
use Prim.Native.Nat.{ℕ, ◌+◌, ◌-◌, ◌≤◌, ◌<◌, min}
use mathlib.Core.Path.{◌≡◌, ap, ◌∙◌}
use mathlib.Core.Bool.{Bool}
use mathlib.Core.List.{List, [], ◌∷◌, ◌++◌}
use native.Mathlib.Omega.{arith}
use lib.ListN.{length, get_or, take, length-append, length-take, length-replicate, get_or-append}
use lib.Seq.{get_or-take, get_or-append-add}
use Rattle.facts.proofs.Choice.{either}
use Rattle.registers.specs.declared.Settings.{Settings}
use Rattle.registers.specs.declared.Registers.{Registers}
use Rattle.registers.specs.Registers.{settings_of}
use Rattle.registers.proofs.Laws.{fbk_bound}
use Rattle.raster.specs.Raster.{width_of, first_pixel_of, hidden_in}
use Rattle.paint.specs.Pixels.{plain_of}
use Rattle.paint.proofs.Laws.{Below, Pixels, pixels_at, twelve-length, twelve-pixels}
use Rattle.std.proofs.lemmas.List.Elements.{All-append, All-replicate, All-take}
use Rattle.line.specs.Line.{Place, shown_of, character, painted, paint}

-- ---- the width

pub character-length : (font : List ℕ) (plain : ℕ) (hidden : Bool) (before : ℕ) (p : Place) → length (character font plain hidden before p) ≡ 12
unfolding character
character-length font plain hidden before p = twelve-length plain p.low before (shown_of font hidden p)

pub painted-length : (font : List ℕ) (plain : ℕ) (hidden : Bool) (before room : ℕ) (ps : List Place) → length (painted font plain hidden before room ps) ≡ room
unfolding painted
painted-length font plain hidden before room [] = length-replicate room plain
painted-length font plain hidden before room (p ∷ ps) =
    simp (length-append, length-take, character-length, painted-length font plain hidden (shown_of font hidden p) (room - 12) ps) (omega arith)

-- a drawn line has exactly W pixels
pub paint-length : (s : Settings) (font : List ℕ) (f : ℕ) (row : List Place) → length (paint s font f row) ≡ width_of s.ld
unfolding paint
paint-length s font f row =
    either (λ (l : List ℕ). length l ≡ width_of s.ld) s.osd _ _ (simp (length-append, length-replicate, painted-length) (omega arith))
    (length-replicate (width_of s.ld) 0)

-- ---- a column

-- of w, which begin with n, as many as fit: one of the n, or of the rest
module _ (front rest : List ℕ) (n w x : ℕ) (long : length front ≡ min n w) (h : x < w) where
  pub at_front : x < n → get_or (front ++ rest) x 0 ≡ get_or front x 0
  at_front l = get_or-append front rest 0 x (omega arith)

  pub at_rest : n ≤ x → get_or (front ++ rest) x 0 ≡ get_or rest (x - n) 0
  at_rest l =
      let past : x ≡ length front + (x - n) = omega arith in
      ap (λ (i : ℕ). get_or (front ++ rest) i 0) past ∙ get_or-append-add front rest (x - n) 0

-- of room that begins with a character: one of its twelve, or past it
module _ (font : List ℕ) (plain : ℕ) (hidden : Bool) (before room : ℕ) (p : Place) (rest : List ℕ) (j : ℕ) (h : j < room) where
  abbrev twelve : List ℕ
  twelve = character font plain hidden before p

  long : length (take room twelve) ≡ min 12 room
  long = simp (length-take, character-length) (omega arith)

  pub column_in : j < 12 → get_or (take room twelve ++ rest) j 0 ≡ get_or twelve j 0
  column_in l = at_front (take room twelve) rest 12 room j long h l ∙ get_or-take room twelve j 0 h

  pub column_past : 12 ≤ j → get_or (take room twelve ++ rest) j 0 ≡ get_or rest (j - 12) 0
  column_past = at_rest (take room twelve) rest 12 room j long h

-- ---- the pixels

painted-pixels : (font : List ℕ) (plain : ℕ) (hidden : Bool) (before room : ℕ) (ps : List Place) → plain < 16
    → Pixels (painted font plain hidden before room ps)
unfolding painted character
painted-pixels font plain hidden before room [] h = All-replicate (Below 16) room plain h
painted-pixels font plain hidden before room (p ∷ ps) h =
    All-append (Below 16) _ _ (All-take (Below 16) room _ (twelve-pixels plain p.low before (shown_of font hidden p) h))
    (painted-pixels font plain hidden (shown_of font hidden p) (room - 12) ps h)

paint-pixels : (s : Settings) (font : List ℕ) (f : ℕ) (row : List Place) → s.fbk < 2 → Pixels (paint s font f row)
unfolding paint
paint-pixels s font f row h =
    either Pixels s.osd _ _
    (All-append (Below 16) _ _ (All-replicate (Below 16) (min (first_pixel_of s.dd) (width_of s.ld)) (plain_of s.fbk) (omega arith))
    (painted-pixels font (plain_of s.fbk) (hidden_in s.fl f) 0 (width_of s.ld - first_pixel_of s.dd) row (omega arith)))
    (All-replicate (Below 16) (width_of s.ld) 0 (omega arith))

-- each pixel of a line is below 16
pub paint-below : (r : Registers) (font : List ℕ) (f : ℕ) (row : List Place) (i : ℕ) → get_or (paint (settings_of r) font f row) i 0 < 16
paint-below r font f row = pixels_at _ (paint-pixels (settings_of r) font f row (fbk_bound r))
