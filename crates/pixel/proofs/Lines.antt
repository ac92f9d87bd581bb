-- The pixel of a line is the one that the line has there: the walk comes, line by line, to the line that is found strip by strip.
-- Assumes nothing.
use Prim.Native.Nat.{ℕ, zero, suc, ◌+◌, ◌-◌, ◌≤◌, ◌<◌, min}
use mathlib.Core.Path.{◌≡◌, refl, sym, ap, ◌∙◌}
use mathlib.Core.Bool.{Bool, true, false, not, cond}
use mathlib.Core.List.{List, [], ◌++◌}
use native.Mathlib.Nat.{zero-add}
use native.Mathlib.Decide.{dec_lt}
use native.Mathlib.Omega.{arith}
use borrow.Author.Tests.{lt-ltb, le-ltb}
use lib.Dec.{ltb}
use lib.ListN.{length, get_or, replicate, length-replicate, get_or-replicate}
use Rattle.facts.proofs.Choice.{by_test}
use Rattle.cells.specs.Reading.{Reading, done, value}
use Rattle.registers.specs.declared.Registers.{Registers}
use Rattle.registers.specs.declared.Settings.{Settings}
use Rattle.registers.specs.Registers.{settings_of, page_of}
use Rattle.raster.specs.declared.ScanLine.{ScanLine}
use Rattle.raster.specs.Raster.{before_first, following, interpolated, width_of, first_pixel_of, hidden_in}
use Rattle.walk.specs.declared.Strip.{Strip}
use Rattle.walk.specs.declared.Strip.TheVariants.{Spacing, Characters}
use Rattle.walk.specs.declared.Walk.{Walk}
use Rattle.walk.specs.Walk.{even, next, walk_at, plain_rest, page_address, walk_from, is_spacing, enabled_by, zoomed_by, codes_at, height_of, shows_codes, strip_of, over, lines_left, next_strip, advanced}
use Rattle.walk.proofs.Laws.{none_over, advanced_by, left_by, passed-strip, codes-shown, strip_at, passed_at, pass_value, begin_value, rest-value}
use Rattle.walk.proofs.Lines.{walk_after, one_more, after_both, next-strip, next-rest}
use Rattle.paint.specs.Pixels.{plain_of}
use Rattle.line.specs.declared.Pen.{Pen}
use Rattle.line.specs.Line.{Place, Scanned, shown_row, scan, paint}
use Rattle.line.specs.Promises.{room_of}
use Rattle.line.proofs.Laws.{at_front, at_rest}
use Rattle.line.proofs.Strips.{has_row, still_row, no_row, row-shown, paint-none, scan-value}
use Rattle.pixel.specs.declared.Pair.{Pair}
use Rattle.pixel.specs.declared.StripLine.{StripLine}
use Rattle.pixel.specs.Pixel.{pair_at, strip_from, falls_in, row_pixel, characters_pixel, pixel_at}
use Rattle.pixel.proofs.Laws.{lines_left_lem, lines-some, strip_here, strip-next, strip-none, strip_by, first_at, lines_at, falls_none, falls_first, falls_later}
use Rattle.pixel.proofs.Rows.{row_of, room-pixel}

-- ---- the walk, line by line, and the strip that a line falls in

-- a strip with no line, at any line
spacing_by : (k : ℕ) → Spacing 0 ≡ advanced_by k (Spacing 0)
unfolding advanced_by advanced
spacing_by zero = refl
spacing_by (suc k) = spacing_by k

module _ (ram : List ℕ) (ch : ℕ) where
  -- the next strip is that of the first descriptor that is not passed over, or the rest is plain
  abbrev Next : ℕ → Bool → Walk
  Next b t = cond t (plain_rest (next b)) (walk_at (next b) (strip_at ram ch b))

  strip-value : (n a : ℕ) → value ram (next_strip (suc n) ch a) ≡ Next (strip_from n ram a) (passed_at ram (strip_from n ram a))
  strip-value =
      strip_by ram (λ (n a : ℕ). value ram (next_strip (suc n) ch a) ≡ Next (strip_from n ram a) (passed_at ram (strip_from n ram a)))
      (λ a. rw (strip-none ram a) (by_test (passed_at ram a)
      (λ p. pass_value ram 0 ch a p ∙ rest-value ram ch (next a) ∙ ap (Next a) (sym p))
      (λ p. begin_value ram 0 ch a p ∙ ap (Next a) (sym p))))
      (λ n a p q. rw (strip-next ram n a p) (pass_value ram (suc n) ch a p ∙ q))
      (λ n a p. rw (strip_here ram (suc n) a p) (begin_value ram (suc n) ch a p ∙ ap (Next a) (sym p)))

  -- the strip at its line
  abbrev shown_strip : StripLine → Strip
  shown_strip l = advanced_by l.line.0 (strip_of ch l.descriptor.low l.descriptor.high)

  -- the walk is at the line that y falls in
  abbrev Falls : ℕ → Walk → Type 0
  Falls y w =
      over w.strip ≡ true → w.plain ≡ false → (walk_after ram ch (suc y) w).strip ≡ shown_strip (falls_in y ram ch w.descriptor y)

  -- where the next strip's descriptor lies, and its lines
  abbrev next_at : Walk → ℕ
  next_at w = first_at ram w.descriptor

  abbrev lines : Walk → ℕ
  lines w = lines_at ram ch (next_at w)

  -- no strip: the line is plain, as are all after it
  falls_plain : (y : ℕ) (w : Walk) → passed_at ram (next_at w) ≡ true → Falls y w
  falls_plain y w e o f =
      let b : ℕ = next_at w in
      ap (λ (v : Walk). v.strip) (next-rest ram ch y (next b) w o f (strip-value 511 w.descriptor ∙ ap (Next b) e))
      ∙ spacing_by (y + 1)
      ∙ ap (advanced_by (y + 1)) (sym (passed-strip ch (pair_at ram b).low (pair_at ram b).high e))
      ∙ ap shown_strip (sym (falls_none ram ch y w.descriptor y e))

  -- k lines into the strip
  into : (k : ℕ) (w : Walk) → passed_at ram (next_at w) ≡ false → over w.strip ≡ true → w.plain ≡ false → 1 ≤ k → k ≤ lines w
      → walk_after ram ch k w ≡ walk_at (next (next_at w)) (advanced_by k (strip_at ram ch (next_at w)))
  into k w e o f m h =
      let b : ℕ = next_at w in
      next-strip ram ch k b w o f (strip-value 511 w.descriptor ∙ ap (Next b) e) m (omega (arith, lines_left_lem ch (pair_at ram b)))

  falls_in_lem : (y : ℕ) (w : Walk) → passed_at ram (next_at w) ≡ false → y < lines w → Falls y w
  falls_in_lem y w e h o f =
      let from_one : suc y ≡ y + 1 = omega arith in
      ap (λ (v : Walk). v.strip) (into (suc y) w e o f (omega arith) (omega arith))
      ∙ ap (λ (k : ℕ). advanced_by k (strip_at ram ch (next_at w))) from_one
      ∙ ap shown_strip (sym (falls_first ram ch y w.descriptor y h))

  falls_past : (y : ℕ) (w : Walk) → passed_at ram (next_at w) ≡ false → lines w ≤ y → ((v : Walk) → Falls (y - lines w) v)
      → Falls y w
  falls_past y w e h ih o f =
      let b : ℕ = next_at w in
      let l : ℕ = lines w in
      let t : Strip = advanced_by l (strip_at ram ch b) in
      let then : suc y ≡ l + suc (y - l) = omega arith in
      let none : lines_left t ≡ 0 = left_by l (strip_at ram ch b) ∙ omega (arith, lines_left_lem ch (pair_at ram b)) in
      ap (λ (k : ℕ). (walk_after ram ch k w).strip) then
      ∙ ap (λ (v : Walk). v.strip) (after_both ram ch l (suc (y - l)) w)
      ∙ ap (λ (v : Walk). (walk_after ram ch (suc (y - l)) v).strip) (into l w e o f (lines-some ch (pair_at ram b) e) (omega arith))
      ∙ ih (walk_at (next b) t) (none_over t none) refl
      ∙ ap shown_strip (sym (falls_later ram ch w.descriptor b y refl e h))

  -- line by line as strip by strip: n bounds the strips
  walk_falls : (n y : ℕ) (w : Walk) → y ≤ n → Falls y w
  walk_falls zero y w h =
      by_test (passed_at ram (next_at w)) (falls_plain y w)
      (λ e. falls_in_lem y w e (omega (arith, lines-some ch (pair_at ram (next_at w)) e)))
  walk_falls (suc n) y w h =
      by_test (passed_at ram (next_at w)) (falls_plain y w) (by (dec_lt y (lines w)) (walk_falls n (y - lines w)))
    where
      by : Dec (y < lines w) → ((v : Walk) → y - lines w ≤ n → Falls (y - lines w) v) → passed_at ram (next_at w) ≡ false → Falls y w
      by (yes l) ih e = falls_in_lem y w e l
      by (no l) ih e = falls_past y w e (omega arith) (λ v. ih v (omega (arith, lines-some ch (pair_at ram (next_at w)) e)))

-- ---- the row of a strip's line

-- a strip of characters at its line j
characters_by : (k address height : ℕ) (zoom enabled : Bool) (line : ScanLine)
    → advanced_by k (Characters address height zoom enabled line) ≡ Characters address height zoom enabled (record { 0 = line.0 + k })
unfolding advanced_by advanced following
characters_by zero address height zoom enabled line = ap (λ (j : ℕ). Characters address height zoom enabled (record { 0 = j })) (omega arith)
characters_by (suc k) address height zoom enabled line =
    characters_by k address height zoom enabled (following line)
    ∙ ap (λ (j : ℕ). Characters address height zoom enabled (record { 0 = j })) (omega arith)

-- a descriptor's strip shows a row exactly if codes are read, at each of its lines
row_by : (k : ℕ) (t : Strip) → has_row (advanced_by k t) ≡ has_row t
unfolding advanced_by
row_by zero t = refl
row_by (suc k) t = row_by k (advanced t) ∙ still_row t

row_of_lem : (ch low high : ℕ) → has_row (strip_of ch low high) ≡ shows_codes high
unfolding strip_of has_row
row_of_lem ch low high = by (is_spacing high)
  where
    by : (t : Bool)
        → has_row (cond t (Spacing low) (Characters (codes_at low high) (height_of ch) (zoomed_by high) (enabled_by high) before_first))
        ≡ cond t false (enabled_by high)
    by true = refl
    by false = refl

-- ---- the pixel of a painted line

module _ (ram font : List ℕ) (s : Settings) (f x : ℕ) (inside : x < width_of s.ld) where
  -- a line with no character
  plain-pixel : (p : Reading (List Place)) → s.osd ≡ true → p ≡ done [] → get_or (paint s font f (value ram p)) x 0 ≡ plain_of s.fbk
  unfolding value
  plain-pixel p o e =
      ap (λ (q : Reading (List Place)). get_or (paint s font f (value ram q)) x 0) e
      ∙ ap (λ (l : List ℕ). get_or l x 0) (paint-none s font f o)
      ∙ get_or-replicate (width_of s.ld) x (plain_of s.fbk) 0 inside

  -- a line with OSD 0
  dark_pixel : (row : List Place) → s.osd ≡ false → get_or (paint s font f row) x 0 ≡ 0
  unfolding paint
  dark_pixel row o = rw o (get_or-replicate (width_of s.ld) x 0 0 inside)

  -- a line of characters: plain up to the first one, then the room of its row
  module _ (address height : ℕ) (zoom : Bool) (line : ScanLine) (paired : even address ≡ address) (on : s.osd ≡ true) where
    abbrev pen : Pen
    pen = record { slice = interpolated line height zoom; plain = plain_of s.fbk; hidden = hidden_in s.fl f }

    abbrev first : ℕ
    first = first_pixel_of s.dd

    row-pixel : get_or (paint s font f (value ram (shown_row s (Characters address height zoom true line)))) x 0
        ≡ cond (ltb x (first_pixel_of s.dd)) (plain_of s.fbk)
        (row_pixel ram font (row_of pen address) (x - first_pixel_of s.dd))
    unfolding paint
    row-pixel = rw (row-shown s address height zoom line on, on) (by (dec_lt x first))
      where
        margin : List ℕ
        margin = replicate (min first (width_of s.ld)) (plain_of s.fbk)

        long : length margin ≡ min first (width_of s.ld)
        long = length-replicate (min first (width_of s.ld)) (plain_of s.fbk)

        room : List ℕ
        room = room_of ram font pen 0 (width_of s.ld - first) address

        by : Dec (x < first)
            → get_or (margin ++ room) x 0
            ≡ cond (ltb x first) (plain_of s.fbk)
            (row_pixel ram font (row_of pen address) (x - first))
        by (yes l) =
            rw (lt-ltb x first l)
            (at_front margin room first (width_of s.ld) x long inside l
            ∙ get_or-replicate (min first (width_of s.ld)) x (plain_of s.fbk) 0 (omega arith))
        by (no l) =
            rw (le-ltb x first (omega arith))
            (at_rest margin room first (width_of s.ld) x long inside (omega arith)
            ∙ room-pixel ram font pen address (x - first) (width_of s.ld - first) (omega arith) paired)

  characters_pixel_lem : (at : StripLine) → s.osd ≡ true → shows_codes at.descriptor.high ≡ true
      → get_or (paint s font f (value ram (shown_row s (shown_strip ram s.ch at)))) x 0 ≡ characters_pixel s ram font f at x
  unfolding before_first
  characters_pixel_lem at o e =
      let d : Pair = at.descriptor in
      let shown : shown_strip ram s.ch at ≡ Characters (codes_at d.low d.high) (height_of s.ch) (zoomed_by d.high) true at.line =
      ap (advanced_by at.line.0) (codes-shown s.ch d.low d.high e)
      ∙ characters_by at.line.0 (codes_at d.low d.high) (height_of s.ch) (zoomed_by d.high) true before_first
      ∙ ap (λ (j : ℕ). Characters (codes_at d.low d.high) (height_of s.ch) (zoomed_by d.high) true (record { 0 = j })) (zero-add at.line.0)
      in
      ap (λ (t : Strip). get_or (paint s font f (value ram (shown_row s t))) x 0) shown
      ∙ row-pixel (codes_at d.low d.high) (height_of s.ch) (zoomed_by d.high) at.line (omega arith) o

  line-pixel : (at : StripLine)
      → get_or (paint s font f (value ram (shown_row s (shown_strip ram s.ch at)))) x 0
      ≡ cond (not s.osd) 0 (cond (not (shows_codes at.descriptor.high)) (plain_of s.fbk) (characters_pixel s ram font f at x))
  line-pixel at = by s.osd (shows_codes at.descriptor.high) refl refl
    where
      by : (o t : Bool) → s.osd ≡ o → shows_codes at.descriptor.high ≡ t
          → get_or (paint s font f (value ram (shown_row s (shown_strip ram s.ch at)))) x 0
          ≡ cond (not o) 0 (cond (not t) (plain_of s.fbk) (characters_pixel s ram font f at x))
      by false t p q = dark_pixel (value ram (shown_row s (shown_strip ram s.ch at))) p
      by true false p q =
          let d : Pair = at.descriptor in
          plain-pixel (shown_row s (shown_strip ram s.ch at)) p
          (no_row s (shown_strip ram s.ch at) (row_by at.line.0 (strip_of s.ch d.low d.high) ∙ row_of_lem s.ch d.low d.high ∙ q))
      by true true p q = characters_pixel_lem at p q

-- ---- line y of a frame

-- the pixel that a frame's line y has at x, where the frame began at the page of its registers
pub pixel-is : (r : Registers) (ram font : List ℕ) (f x y : ℕ) → x < width_of (settings_of r).ld
    → get_or (paint (settings_of r) font f (value ram (scan (settings_of r) (walk_after ram (settings_of r).ch y (walk_from (page_of r))))).row) x 0
    ≡ pixel_at r ram font f x y
unfolding pixel_at walk_from over
pixel-is r ram font f x y h =
    let s : Settings = settings_of r in
    let w : Walk = walk_from (page_of r) in
    ap (λ (z : Scanned). get_or (paint s font f z.row) x 0) (scan-value shown_row ram s (walk_after ram s.ch y w))
    ∙ ap (λ (t : Strip). get_or (paint s font f (value ram (shown_row s t))) x 0)
    (ap (λ (v : Walk). v.strip) (sym (one_more ram s.ch y w)) ∙ walk_falls ram s.ch y y w (omega arith) refl refl)
    ∙ line-pixel ram font s f x h (falls_in y ram s.ch (page_address (page_of r)) y)
