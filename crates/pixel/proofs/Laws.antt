-- The laws of one pixel: strip by strip to the line, code by code to the column.
-- Assumes nothing.
use Prim.Native.Nat.{ℕ, zero, suc, ◌+◌, ◌-◌, ◌*◌, ◌/◌, ◌%◌, ◌≤◌, ◌<◌}
use mathlib.Core.Path.{◌≡◌, refl, sym, ap, ap₂, ◌∙◌}
use mathlib.Core.Bool.{Bool, true, false, not, cond, ◌&&◌, ◌||◌, and-false, or-true, false≢true}
use mathlib.Core.List.{List}
use native.Mathlib.Nat.{div-eq_of_lt}
use native.Mathlib.Omega.{arith}
use borrow.Author.Tests.{eqb-true, eqb-false, eq-eqb, ltb-true, lt-ltb, le-ltb, lt-leb}
use lib.Dec.{eqb, leb, ltb}
use lib.ListN.{length, get_or}
use lib.Pow.{pow_pos}
use Rattle.std.specs.Prelude.{Some, None}
use Rattle.buffers.specs.Buffers.{Bytes}
use Rattle.limits.specs.Limits.{ram_length, font_length, frame_lines, bad_line_count}
use Rattle.limits.proofs.Laws.{some_frame}
use Rattle.facts.proofs.Choice.{by_test}
use Rattle.cells.specs.Reading.{slice, done, read, value}
use Rattle.refusals.specs.declared.Refusal.TheVariants.{PixelRange}
use Rattle.refusals.specs.Refusals.{accepted, passed, refuse_if}
use Rattle.registers.specs.declared.Registers.{Registers}
use Rattle.registers.specs.Registers.{settings_of}
use Rattle.raster.specs.declared.Slice.{Slice}
use Rattle.raster.specs.Raster.{InStrip, before_first, strip_lines, width_of}
use Rattle.raster.proofs.Laws.{all_after}
use Rattle.walk.specs.declared.Strip.TheVariants.{Spacing, Characters}
use Rattle.walk.specs.Walk.{even, next, height_of, is_spacing, enabled_by, zoomed_by, codes_at, shows_codes, strip_of, lines_left}
use Rattle.walk.proofs.Laws.{next-same, none_passed, codes_begin, passed_at}
use Rattle.glyph.specs.declared.Word.{Word}
use Rattle.glyph.specs.Words.{word_in}
use Rattle.glyph.proofs.Laws.{word_low}
use Rattle.glyph.specs.Glyph.{font, user, blank, ends_line, user_cell, font_byte, in_ram, glyph_of, of_bytes, bits_of}
use Rattle.paint.specs.Pixels.{flashes}
use Rattle.device.specs.Device.{frame_number}
use Rattle.pixel.specs.declared.Pair.{Pair}
use Rattle.pixel.specs.declared.StripLine.{StripLine}
use Rattle.pixel.specs.Pixel.{pair_at, lines_of, is_passed, strip_from, line_at, falls_in, ended, twelve_at, slice_bits, is_foreground, pixel_at}
use Rattle.pixel.specs.Ask.{pixel_verdict, pixel_by, ask_pixel}

-- ---- the lines of a strip

-- as the walk counts them
pub lines_left_lem : (ch : ℕ) (d : Pair) → lines_of ch d ≡ lines_left (strip_of ch d.low d.high)
unfolding strip_of lines_left
lines_left_lem ch d = by (is_spacing d.high)
  where
    by : (t : Bool)
        → cond t d.low (strip_lines (height_of ch) (zoomed_by d.high))
        ≡ lines_left
        (cond t
        (Spacing d.low)
        (Characters (codes_at d.low d.high) (height_of ch) (zoomed_by d.high) (enabled_by d.high) before_first))
    by true = refl
    by false = sym (all_after (height_of ch) (zoomed_by d.high))

-- a descriptor is passed over exactly if it has none
pub lines_none : (ch : ℕ) (d : Pair) → is_passed d ≡ eqb (lines_of ch d) 0
lines_none ch d = none_passed ch d.low d.high ∙ ap (λ (n : ℕ). eqb n 0) (sym (lines_left_lem ch d))

pub lines-passed : (ch : ℕ) (d : Pair) → is_passed d ≡ true → lines_of ch d ≡ 0
lines-passed ch d e = eqb-true (lines_of ch d) 0 (sym (lines_none ch d) ∙ e)

pub lines-some : (ch : ℕ) (d : Pair) → is_passed d ≡ false → 1 ≤ lines_of ch d
lines-some ch d e = omega (arith, eqb-false (lines_of ch d) 0 (sym (lines_none ch d) ∙ e))

-- of spacing, and of characters
pub lines_spacing : (ch : ℕ) (d : Pair) → is_spacing d.high ≡ true → lines_of ch d ≡ d.low
lines_spacing ch d e = ap (λ (t : Bool). cond t d.low (strip_lines (height_of ch) (zoomed_by d.high))) e

pub lines_characters : (ch : ℕ) (d : Pair) (z : Bool) → is_spacing d.high ≡ false → zoomed_by d.high ≡ z
    → lines_of ch d ≡ strip_lines (height_of ch) z
lines_characters ch d z e f = ap₂ (λ (t z : Bool). cond t d.low (strip_lines (height_of ch) z)) e f

-- ---- the first descriptor that is not passed over

-- an address stands for its even one
pub pair_same : (ram : List ℕ) (a b : ℕ) → even a ≡ even b → pair_at ram a ≡ pair_at ram b
pair_same ram a b e = ap (λ (i : ℕ). record { low = get_or ram i 0; high = get_or ram (i + 1) 0 }) e

module _ (ram : List ℕ) where
  -- it is the one at the address, or the search goes on from the next
  pub strip_here : (n a : ℕ) → passed_at ram a ≡ false → strip_from n ram a ≡ a
  unfolding strip_from
  strip_here zero a e = refl
  strip_here (suc n) a e = rw e

  pub strip-next : (n a : ℕ) → passed_at ram a ≡ true → strip_from (suc n) ram a ≡ strip_from n ram (next a)
  unfolding strip_from
  strip-next n a e = rw e

  pub strip-none : (a : ℕ) → strip_from 0 ram a ≡ a
  unfolding strip_from
  strip-none a = refl

  -- what holds of each search, by its steps
  pub strip_by : (Q : ℕ → ℕ → Type 0) → ((a : ℕ) → Q 0 a) → ((n a : ℕ) → passed_at ram a ≡ true → Q n (next a) → Q (suc n) a)
      → ((n a : ℕ) → passed_at ram a ≡ false → Q (suc n) a) → (n a : ℕ) → Q n a
  strip_by Q none more here zero a = none a
  strip_by Q none more here (suc n) a =
      by_test (passed_at ram a) (λ e. more n a e (strip_by Q none more here n (next a))) (λ e. here n a e)

  -- where one is found, it is found with one more to read
  strip-more : (n a : ℕ) → passed_at ram (strip_from n ram a) ≡ false → strip_from (suc n) ram a ≡ strip_from n ram a
  strip-more =
      strip_by (λ (n a : ℕ). passed_at ram (strip_from n ram a) ≡ false → strip_from (suc n) ram a ≡ strip_from n ram a)
      (λ a e. strip_here 1 a (rw (strip-none a) at e) ∙ sym (strip-none a))
      (λ n a p q e. strip-next (suc n) a p ∙ q (rw (strip-next n a p) at e) ∙ sym (strip-next n a p))
      (λ n a p e. strip_here (suc (suc n)) a p ∙ sym (strip_here (suc n) a p))

  -- where none is, it is the last
  pub strip_last : (n a : ℕ) → passed_at ram (strip_from n ram a) ≡ true → even (strip_from n ram a) ≡ even (a + 2 * n)
  strip_last =
      strip_by (λ (n a : ℕ). passed_at ram (strip_from n ram a) ≡ true → even (strip_from n ram a) ≡ even (a + 2 * n))
      (λ a e. ap even (strip-none a) ∙ omega arith)
      (λ n a p q e. ap even (strip-next n a p) ∙ q (rw (strip-next n a p) at e) ∙ omega arith)
      (λ n a p e. absurd (false≢true (sym p ∙ ap (passed_at ram) (sym (strip_here (suc n) a p)) ∙ e)))

  -- from either of its two addresses
  strip-same : (n a b : ℕ) → even a ≡ even b → even (strip_from n ram a) ≡ even (strip_from n ram b)
  strip-same zero a b e = ap even (strip-none a) ∙ e ∙ ap even (sym (strip-none b))
  strip-same (suc n) a b e =
      let same : passed_at ram b ≡ passed_at ram a = ap is_passed (sym (pair_same ram a b e)) in
      by_test (passed_at ram a)
      (λ p. ap even (strip-next n a p ∙ ap (strip_from n ram) (next-same a b e) ∙ sym (strip-next n b (same ∙ p))))
      (λ p. ap even (strip_here (suc n) a p) ∙ e ∙ ap even (sym (strip_here (suc n) b (same ∙ p))))

  -- of 512 descriptors from an address on: the one that begins the next strip, or the last of them
  abbrev pub first_at : ℕ → ℕ
  first_at a = strip_from 511 ram a

  -- they are not all passed over: there is a strip
  abbrev pub Strips : ℕ → Type 0
  Strips a = passed_at ram (first_at a) ≡ false

  -- then one that is passed over is as if it were not there
  strip_pass : (a : ℕ) → Strips a → passed_at ram a ≡ true → first_at a ≡ first_at (next a)
  strip_pass a s p = strip-next 510 a p ∙ sym (strip-more 510 (next a) (rw (strip-next 510 a p) at s))

  -- and there is a strip from the next one on: the 512 from there end with the one at hand
  pub strips_next : (a : ℕ) → Strips a → Strips (next a)
  strips_next a s =
      by_test (passed_at ram a)
      (λ p. ap (passed_at ram) (sym (strip_pass a s p)) ∙ s)
      (λ p. by_test (passed_at ram (first_at (next a)))
      (λ q. ap is_passed (pair_same ram (first_at (next a)) a (strip_last 511 (next a) q ∙ omega arith)) ∙ p)
      (λ q. q))

-- ---- strip by strip

module _ (ram : List ℕ) (ch : ℕ) where
  abbrev pub lines_at : ℕ → ℕ
  lines_at a = lines_of ch (pair_at ram a)

  -- line y is one of the strip whose descriptor lies at b; or b is the last of 512 that are all passed over
  abbrev ends : ℕ → ℕ → Bool
  ends b y = passed_at ram b || ltb y (lines_at b)

  ends-none : (b y : ℕ) → passed_at ram b ≡ true → ends b y ≡ true
  ends-none b y e = rw e

  ends_in : (b y : ℕ) → y < lines_at b → ends b y ≡ true
  ends_in b y h = rw (lt-ltb y (lines_at b) h) (or-true (passed_at ram b))

  ends_first : (b y : ℕ) → y ≤ 0 → ends b y ≡ true
  ends_first b y h = by_test (passed_at ram b) (ends-none b y) (λ e. ends_in b y (omega (arith, lines-some ch (pair_at ram b) e)))

  -- then it is found there, however many strips may be passed
  falls_there : (n a b y : ℕ) → first_at ram a ≡ b → ends b y ≡ true → falls_in n ram ch a y ≡ line_at ram b y
  unfolding falls_in
  falls_there zero a b y s e = ap (λ (i : ℕ). line_at ram i y) s
  falls_there (suc n) a b y s e = rw (s, e)

  pub falls_none : (n a y : ℕ) → passed_at ram (first_at ram a) ≡ true → falls_in n ram ch a y ≡ line_at ram (first_at ram a) y
  falls_none n a y e = falls_there n a (first_at ram a) y refl (ends-none (first_at ram a) y e)

  pub falls_first : (n a y : ℕ) → y < lines_at (first_at ram a) → falls_in n ram ch a y ≡ line_at ram (first_at ram a) y
  falls_first n a y h = falls_there n a (first_at ram a) y refl (ends_in (first_at ram a) y h)

  -- the bound is enough where it is y or more
  enough : (n m a y : ℕ) → y ≤ n → y ≤ m → falls_in n ram ch a y ≡ falls_in m ram ch a y
  unfolding falls_in
  enough zero m a y h k = sym (falls_there m a (first_at ram a) y refl (ends_first (first_at ram a) y h))
  enough (suc n) zero a y h k = falls_there (suc n) a (first_at ram a) y refl (ends_first (first_at ram a) y k)
  enough (suc n) (suc m) a y h k =
      let b : ℕ = first_at ram a in
      by_test (passed_at ram b)
      (λ e. falls_none (suc n) a y e ∙ sym (falls_none (suc m) a y e))
      (λ e. let some : 1 ≤ lines_at b = lines-some ch (pair_at ram b) e in
      ap (cond (ends b y) (line_at ram b y)) (enough n m (next b) (y - lines_at b) (omega arith) (omega arith)))

  -- past that strip
  pub falls_later : (a b y : ℕ) → first_at ram a ≡ b → passed_at ram b ≡ false → lines_at b ≤ y
      → falls_in y ram ch a y ≡ falls_in (y - lines_at b) ram ch (next b) (y - lines_at b)
  unfolding falls_in
  falls_later a b zero s e h = absurd (omega (arith, lines-some ch (pair_at ram b) e))
  falls_later a b (suc y) s e h =
      let l : ℕ = lines_at b in
      let some : 1 ≤ l = lines-some ch (pair_at ram b) e in
      rw (s, e, le-ltb (suc y) l h) (enough y (suc y - l) (next b) (suc y - l) (omega arith) (omega arith))

  -- ---- descriptor by descriptor

  -- addresses with one descriptor that begins the next strip
  falls_same : (n a b y : ℕ) → even (first_at ram a) ≡ even (first_at ram b) → falls_in n ram ch a y ≡ falls_in n ram ch b y
  unfolding falls_in
  falls_same zero a b y e =
      ap (λ (d : Pair). record { descriptor = d; line = record { 0 = y + 1 } }) (pair_same ram (first_at ram a) (first_at ram b) e)
  falls_same (suc n) a b y e =
      ap₂ (λ (d : Pair) (i : ℕ). cond (is_passed d || ltb y (lines_of ch d)) (record { descriptor = d; line = record { 0 = y + 1 } })
      (falls_in n ram ch i (y - lines_of ch d)))
      (pair_same ram (first_at ram a) (first_at ram b) e) (next-same (first_at ram a) (first_at ram b) e)

  pub falls_even : (n a b y : ℕ) → even a ≡ even b → falls_in n ram ch a y ≡ falls_in n ram ch b y
  falls_even n a b y e = falls_same n a b y (strip-same ram 511 a b e)

  -- in the strip of the descriptor at the address
  pub falls_here : (n a y : ℕ) → y < lines_at a → falls_in n ram ch a y ≡ line_at ram a y
  falls_here n a y h =
      by_test (passed_at ram a)
      (λ e. absurd (omega (arith, lines-passed ch (pair_at ram a) e)))
      (λ e. falls_there n a a y (strip_here ram 511 a e) (ends_in a y h))

  -- past that descriptor, whether it has a strip or is passed over
  pub falls_next : (a y : ℕ) → Strips ram a → lines_at a ≤ y → falls_in y ram ch a y ≡ falls_in (y - lines_at a) ram ch (next a) (y - lines_at a)
  falls_next a y s h =
      by_test (passed_at ram a)
      (λ e. let same : y ≡ y - lines_at a = omega (arith, lines-passed ch (pair_at ram a) e) in
      falls_same y a (next a) y (ap even (strip_pass ram a s e)) ∙ ap (λ (z : ℕ). falls_in z ram ch (next a) z) same)
      (λ e. falls_later a a y (strip_here ram 511 a e) e h)

  -- ---- the line that is found

  -- it is one of its strip, from its first to its last, unless there is none
  abbrev Within : StripLine → Type 0
  Within l = is_passed l.descriptor ≡ false → (1 ≤ l.line.0) × (l.line.0 ≤ lines_of ch l.descriptor)

  ends-within : (b y : ℕ) → ends b y ≡ true → Within (line_at ram b y)
  ends-within b y e p = (omega arith, omega (arith, ltb-true y (lines_at b) (rw p at e)))

  falls_within : (n a y : ℕ) → y ≤ n → Within (falls_in n ram ch a y)
  unfolding falls_in
  falls_within zero a y h = ends-within (first_at ram a) y (ends_first (first_at ram a) y h)
  falls_within (suc n) a y h = by (ends b y) refl (falls_within n (next b) (y - lines_at b))
    where
      b : ℕ
      b = first_at ram a

      later : StripLine
      later = falls_in n ram ch (next b) (y - lines_at b)

      by : (t : Bool) → ends b y ≡ t → (y - lines_at b ≤ n → Within later) → Within (cond t (line_at ram b y) later)
      by true e ih = ends-within b y e
      by false e ih =
          ih (by_test (passed_at ram b)
          (λ p. absurd (false≢true (sym e ∙ ends-none b y p)))
          (λ p. omega (arith, lines-some ch (pair_at ram b) p)))

  -- a line of its strip, where that shows codes
  pub falls_shown : (a y : ℕ) → shows_codes (falls_in y ram ch a y).descriptor.high ≡ true
      → InStrip (falls_in y ram ch a y).line (height_of ch) (zoomed_by (falls_in y ram ch a y).descriptor.high)
  falls_shown a y e = by (is_spacing l.descriptor.high) e within.1
    where
      l : StripLine
      l = falls_in y ram ch a y

      within : (1 ≤ l.line.0) × (l.line.0 ≤ lines_of ch l.descriptor)
      within = falls_within y a y (omega arith) (codes_begin l.descriptor.low l.descriptor.high e)

      by : (t : Bool) → cond t false (enabled_by l.descriptor.high) ≡ true
          → l.line.0 ≤ cond t l.descriptor.low (strip_lines (height_of ch) (zoomed_by l.descriptor.high))
          → InStrip l.line (height_of ch) (zoomed_by l.descriptor.high)
      by true q h = absurd (false≢true q)
      by false q h = record { from = within.0; to = h }

-- ---- code by code

-- does a row's first code end the line, or one of those after it, up to a number?
module _ (ram : List ℕ) (a : ℕ) where
  pub end_here : (k : ℕ) → ends_line (pair_at ram a).high ≡ true → ended k ram a ≡ true
  unfolding ended
  end_here zero e = e
  end_here (suc k) e = rw e

  pub end_last : ended 0 ram a ≡ ends_line (pair_at ram a).high
  unfolding ended
  end_last = refl

  pub end_later : (k : ℕ) → ends_line (pair_at ram a).high ≡ false → ended (suc k) ram a ≡ ended k ram (next a)
  unfolding ended
  end_later k e = rw e

  pub end_at : (n k : ℕ) → n ≤ k → ended (n - k) ram a ≡ ends_line (pair_at ram a).high
  end_at n k h = let none : n - k ≡ 0 = omega arith in ap (λ (m : ℕ). ended m ram a) none ∙ end_last

  pub end_on : (n k : ℕ) → k < n → ends_line (pair_at ram a).high ≡ false → ended (n - k) ram a ≡ ended (n - (k + 1)) ram (next a)
  end_on n k h e =
      let one : n - k ≡ suc (n - (k + 1)) = omega arith in
      ap (λ (m : ℕ). ended m ram a) one ∙ end_later (n - (k + 1)) e

-- what the glyph lookup gives of a code
pub bits-glyph : (ram f : List ℕ) (high : ℕ) (s : Slice) → slice_bits ram f high s.0 ≡ bits_of f (value ram (glyph_of high s))
unfolding glyph_of in_ram value of_bytes
bits-glyph ram f high s = by (eqb (high / 128 % 2) 0) (ltb (high % 128) 26)
  where
    by : (t u : Bool)
        → cond t (twelve_at f (font_byte (high % 128) s.0)) (cond u (twelve_at ram (user_cell (high % 128) s.0)) 0)
        ≡ bits_of f
        (value ram
        (cond t (done (font (high % 128) s.0))
        (cond u
        (read slice (user_cell (high % 128) s.0) λ first. read slice (user_cell (high % 128) s.0 + 1) λ second. done (user first second))
        (done blank))))
    by true u = refl
    by false true = refl
    by false false = refl

-- of a word that is looked up
pub bits-word : (ram f : List ℕ) (high : ℕ) (s : Slice) → Bytes ram → Bytes f → (w : Word) → word_in ram f high s ≡ Some w
    → w.bits % 4096 ≡ slice_bits ram f high s.0
bits-word ram f high s b d w e = word_low ram f high s b d w e ∙ sym (bits-glyph ram f high s)

-- the columns of a word that is looked up
pub word_shown : (ram f : List ℕ) (high : ℕ) (s : Slice) (hidden : Bool) (low c : ℕ) (w : Word) → Bytes ram → Bytes f → word_in ram f high s ≡ Some w
    → is_foreground hidden low (w.bits % 4096) c ≡ is_foreground hidden low (slice_bits ram f high s.0) c
word_shown ram f high s hidden low c w b d e = ap (λ (n : ℕ). is_foreground hidden low n c) (bits-word ram f high s b d w e)

-- the end of line has none, and no foreground
none-lit : (hidden : Bool) (low c : ℕ) → is_foreground hidden low 0 c ≡ false
none-lit hidden low c = rw (div-eq_of_lt (pow_pos (11 - c))) (and-false (not (hidden && flashes low)))

end-dark : (ram f : List ℕ) (high : ℕ) (s : Slice) → ends_line high ≡ true → slice_bits ram f high s.0 ≡ 0
end-dark ram f high s e =
    let h : high ≡ 255 = eqb-true high 255 e in
    ap (λ (x : ℕ). slice_bits ram f x s.0) h

pub end_unlit : (ram f : List ℕ) (high : ℕ) (s : Slice) (hidden : Bool) (low c : ℕ) → word_in ram f high s ≡ None
    → is_foreground hidden low (slice_bits ram f high s.0) c ≡ false
unfolding word_in
end_unlit ram f high s hidden low c e =
    by_test (ends_line high)
    (λ h. rw (end-dark ram f high s h) (none-lit hidden low c))
    (λ h. let g = rw h at e in cc)

-- ---- a question's tests

module _ (r : Registers) (ram f : List ℕ) (lines frame x y : ℕ) (a : length ram ≡ ram_length) (b : length f ≡ font_length) where
  -- where those before it find nothing, the range decides
  pub by_range : bad_line_count lines ≡ false
      → ask_pixel r ram f lines frame x y
      ≡ pixel_by (refuse_if (leb (width_of (settings_of r).ld) x || leb lines y) PixelRange passed) (pixel_at r ram f (frame_number frame) x y)
  unfolding ask_pixel pixel_verdict
  by_range h = rw (eq-eqb (length ram) ram_length a, eq-eqb (length f) font_length b, h)

  -- where none finds anything, the pixel is answered
  pub ask-passed : 1 ≤ lines → lines ≤ frame_lines → x < width_of (settings_of r).ld → y < lines
      → ask_pixel r ram f lines frame x y ≡ accepted (pixel_at r ram f (frame_number frame) x y)
  unfolding pixel_by
  ask-passed h k w v = by_range (some_frame lines h k) ∙ rw (lt-leb (width_of (settings_of r).ld) x w, lt-leb lines y v)
