-- The laws of a line's geometry.
-- Assumes nothing.
use Prim.Native.Nat.{ℕ, suc, ◌+◌, ◌-◌, ◌*◌, ◌/◌, ◌≤◌, ◌<◌}
use mathlib.Core.Path.{◌≡◌, sym, ◌∙◌}
use mathlib.Core.Bool.{Bool, true, false}
use native.Mathlib.Decide.{dec_le}
use native.Mathlib.Nat.{div-lt_iff_lt-mul}
use native.Mathlib.Omega.{arith}
use borrow.Author.Tests.{leb-false, le-leb, lt-leb, eq-eqb, ne_eqb}
use lib.Dec.{eqb, leb}
use Rattle.raster.specs.declared.ScanLine.{ScanLine}
use Rattle.raster.specs.Raster.{strip_lines, before_first, following, InStrip, is_last, lines_after, HasNext, unzoomed, slice_number}

-- ---- the scan lines of a strip

-- before its first line a strip has all its lines left
pub all_after : (ch : ℕ) (zoom : Bool) → lines_after before_first ch zoom ≡ strip_lines ch zoom
unfolding lines_after before_first
all_after ch zoom = omega arith

-- a strip of some height has a line
pub some_after : (ch : ℕ) (zoom : Bool) → 1 ≤ ch → 1 ≤ lines_after before_first ch zoom
unfolding lines_after before_first
some_after ch true h = omega arith
some_after ch false h = omega arith

module _ (j : ScanLine) (ch : ℕ) (zoom : Bool) where
  -- each line leaves one less
  pub one_less : lines_after (following j) ch zoom ≡ lines_after j ch zoom - 1
  unfolding lines_after following
  one_less = omega arith

  -- the last line leaves none
  pub last_none : is_last j ch zoom ≡ eqb (lines_after j ch zoom) 0
  unfolding is_last lines_after
  last_none = by (dec_le (strip_lines ch zoom) j.0)
    where
      by : Dec (strip_lines ch zoom ≤ j.0) → leb (strip_lines ch zoom) j.0 ≡ eqb (strip_lines ch zoom - j.0) 0
      by (yes h) = le-leb (strip_lines ch zoom) j.0 h ∙ sym (eq-eqb (strip_lines ch zoom - j.0) 0 (omega arith))
      by (no h) = lt-leb (strip_lines ch zoom) j.0 (omega arith) ∙ sym (ne_eqb (strip_lines ch zoom - j.0) 0 (λ e. omega arith))

  -- a line that is not the last is followed by one of the strip
  pub following_in : 1 ≤ lines_after j ch zoom → InStrip (following j) ch zoom
  unfolding lines_after following
  following_in h = record { from = omega arith; to = omega arith }

  -- and has a number of sixteen bits
  pub last_next : ch < 256 → is_last j ch zoom ≡ false → HasNext j
  unfolding is_last
  last_next h e = by zoom (leb-false (strip_lines ch zoom) j.0 e)
    where
      by : (z : Bool) → j.0 < strip_lines ch z → j.0 < 65535
      by true l = omega arith
      by false l = omega arith

-- ---- slices

-- a slice lies in 1 to 18
pub slice-some : (ch n : ℕ) → 1 ≤ slice_number ch n
unfolding slice_number
slice-some ch n = omega arith

pub steps_bound : (ch n : ℕ) → 0 < ch → n ≤ ch → (36 * n + ch) / (2 * ch) < 19
steps_bound ch n pos h = (div-lt_iff_lt-mul {k = 2 * ch} {x = 36 * n + ch} {y = 19} (omega arith)).1 (omega arith)

pub slice_bound : (ch n : ℕ) → 0 < ch → n ≤ ch → slice_number ch n ≤ 18
unfolding slice_number
slice_bound ch n pos h = omega (arith, steps_bound ch n pos h)

pub unzoomed_bound : (j : ScanLine) (ch : ℕ) (zoom : Bool) → InStrip j ch zoom → unzoomed zoom j.0 ≤ ch
unzoomed_bound j ch true h = omega (arith, h.to)
unzoomed_bound j ch false h = h.to

pub height_pos : (j : ScanLine) (ch : ℕ) (zoom : Bool) → InStrip j ch zoom → 0 < ch
height_pos j ch true h = omega (arith, h.to, h.from)
height_pos j ch false h = omega (arith, h.to, h.from)

-- on a line of a strip the unzoomed line is CH at the most, and CH is not 0
pub in_strip : (j : ScanLine) (ch : ℕ) (zoom : Bool) → InStrip j ch zoom → (unzoomed zoom j.0 ≤ ch) × (0 < ch)
in_strip j ch zoom h = (unzoomed_bound j ch zoom h, height_pos j ch zoom h)

-- another character has room to start exactly while its first pixel is below W
pub characters_more : (left : ℕ) → 0 < left → (left + 11) / 12 ≡ suc ((left - 12 + 11) / 12)
characters_more left h = omega arith
