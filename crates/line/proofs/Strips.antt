-- From rows of characters to lines of a strip, and to the frame's next line.
-- Assumes nothing.
use Prim.Native.Nat.{ℕ, ◌+◌, ◌-◌, ◌≤◌, ◌<◌, min}
use mathlib.Core.Path.{◌≡◌, refl, sym, ap, ap₂, ◌∙◌, subst, subst₂}
use mathlib.Core.Bool.{Bool, true, false}
use mathlib.Core.List.{List, [], ◌++◌, append_assoc}
use native.Mathlib.Omega.{arith}
use lib.ListN.{length, take, drop, replicate, length-append, length-replicate, replicate-append-replicate}
use lib.Seq.{take_at, drop_at}
use borrow.Rule.Slice.PartMut.{Post-is}
use Rattle.facts.proofs.Choice.{cond_same}
use Rattle.limits.specs.Limits.{line_cells}
use Rattle.cells.specs.Reading.{Role, Reading, done, value, cells}
use Rattle.cells.proofs.Laws.{value-bind, cells-bind, value-fmap, cells-fmap}
use Rattle.cells.proofs.Bounds.{only-value}
use Rattle.registers.specs.declared.Registers.{Registers}
use Rattle.registers.specs.declared.Settings.{Settings}
use Rattle.registers.specs.Registers.{settings_of}
use Rattle.raster.specs.declared.ScanLine.{ScanLine}
use Rattle.raster.specs.declared.Slice.{Slice}
use Rattle.raster.specs.Raster.{InStrip, OnScreen, interpolated, width_of, first_pixel_of, characters_of, hidden_in}
use Rattle.raster.proofs.Rules.{slice_range}
use Rattle.walk.specs.declared.Strip.{Strip}
use Rattle.walk.specs.declared.Strip.TheVariants.{Spacing, Characters}
use Rattle.walk.specs.declared.Walk.{Walk}
use Rattle.walk.specs.Walk.{advanced, next_line, OnLine, walked}
use Rattle.walk.specs.declared.Walked.{Walked}
use Rattle.walk.proofs.Laws.{next_line-only}
use Rattle.line.specs.declared.Pen.{Pen}
use Rattle.paint.specs.Pixels.{plain_of}
use Rattle.line.specs.Line.{Place, Scanned, codes, row_by, shown_by, shown_row, scan_by, paint}
use Rattle.line.specs.Promises.{room_of, RowDrawn, CharactersDrawn, StripDrawn, LineDrawn}
use Rattle.line.proofs.Counts.{line-most}
use Rattle.line.proofs.Turns.{no_room, no_reads, painted-none}

-- ---- the margin and the row

module _ (ram font : List ℕ) (address : ℕ) (pen : Pen) (x w : ℕ) (out : List ℕ) where
  -- the margin is filled, then the row is drawn
  pub characters_drawn : (margin : List ℕ) (n : ℕ) (out' : List ℕ) → x < w → margin ≡ replicate x pen.plain ++ drop x out
      → RowDrawn ram font address pen x w margin n out' → CharactersDrawn ram font address pen x w out n out'
  characters_drawn margin n out' h e d =
      let front : take x margin ≡ replicate (min x w) pen.plain =
      let m : min x w ≡ x = omega arith in
      ap (take x) e ∙ take_at (replicate x pen.plain) (drop x out) x (length-replicate x pen.plain) ∙ ap (λ (k : ℕ). replicate k pen.plain) (sym m)
      in
      let back : drop w margin ≡ drop w out =
      sym (Post-is x w margin (omega arith))
      ∙ ap (drop (w - x)) (ap (drop x) e ∙ drop_at (replicate x pen.plain) (drop x out) x (length-replicate x pen.plain))
      ∙ Post-is x w out (omega arith)
      in
      record {
        pixels =
            d.pixels
            ∙ ap₂ (λ (k l : List ℕ). k ++ (room_of ram font pen 0 (w - x) address ++ l)) front back;
        reads = d.reads;
      }

  -- the first character lies past the line
  pub characters_none : (out' : List ℕ) → w ≤ x → out' ≡ replicate w pen.plain ++ drop w out → CharactersDrawn ram font address pen x w out 0 out'
  characters_none out' h e =
      let none : w - x ≡ 0 = omega arith in
      let m : min x w ≡ w = omega arith in
      record {
        pixels =
            e
            ∙ ap₂ (λ (k : ℕ) (l : List ℕ). replicate k pen.plain ++ (l ++ drop w out)) (sym m)
            (sym (no_room ram font pen 0 (w - x) address none));
        reads = sym (no_reads ram pen (w - x) address none);
      }

-- ---- the row of a strip. No file above opens `shown_by`: what is above cites these

-- does a strip show a row?
unfoldable pub has_row : Strip → Bool
has_row (Spacing left) = false
has_row (Characters address height zoom enabled line) = enabled

-- at each of its lines alike
pub still_row : (t : Strip) → has_row (advanced t) ≡ has_row t
unfolding advanced has_row
still_row (Spacing left) = refl
still_row (Characters address height zoom enabled line) = refl

module _ (s : Settings) where
  -- with OSD 0 there is none
  pub row_off : (t : Strip) → s.osd ≡ false → shown_row s t ≡ done []
  unfolding shown_by
  row_off t o = rw o

  pub no_row : (t : Strip) → has_row t ≡ false → shown_row s t ≡ done []
  unfolding shown_by row_by has_row
  no_row (Spacing left) e = cond_same s.osd (done [])
  no_row (Characters address height zoom enabled line) e = rw e (cond_same s.osd (done []))

  -- codes of the slice that the line shows, as many as there is room for
  pub row-shown : (address height : ℕ) (zoom : Bool) (line : ScanLine) → s.osd ≡ true
      → shown_row s (Characters address height zoom true line) ≡ codes (characters_of s.ld s.dd) (interpolated line height zoom) address
  unfolding shown_by row_by
  row-shown address height zoom line o = rw o

-- ---- a line of the strip on screen

-- OSD 0
pub strip_off : (ram font : List ℕ) (s : Settings) (strip : Strip) (f : ℕ) (out out' : List ℕ) (w : ℕ) → w ≡ width_of s.ld → s.osd ≡ false
    → out' ≡ replicate w 0 ++ drop w out → StripDrawn ram font s strip f out 0 out'
unfolding paint cells
strip_off ram font s strip f out out' w q o e =
    record { pixels = rw o (e ∙ ap (λ (k : ℕ). replicate k 0 ++ drop k out) q); reads = rw (row_off s strip o) }

-- a line with no character is plain
pub paint-none : (s : Settings) (font : List ℕ) (f : ℕ) → s.osd ≡ true → paint s font f [] ≡ replicate (width_of s.ld) (plain_of s.fbk)
unfolding paint
paint-none s font f o =
    let all : min (first_pixel_of s.dd) (width_of s.ld) + (width_of s.ld - first_pixel_of s.dd) ≡ width_of s.ld = omega arith in
    rw (o, painted-none)
    (replicate-append-replicate (min (first_pixel_of s.dd) (width_of s.ld)) (width_of s.ld - first_pixel_of s.dd) (plain_of s.fbk)
    ∙ ap (λ (k : ℕ). replicate k (plain_of s.fbk)) all)

-- no character on the line
pub strip-plain : (ram font : List ℕ) (s : Settings) (strip : Strip) (f : ℕ) (out out' : List ℕ) (w : ℕ) → w ≡ width_of s.ld → s.osd ≡ true
    → has_row strip ≡ false → out' ≡ replicate w (plain_of s.fbk) ++ drop w out → StripDrawn ram font s strip f out 0 out'
unfolding value cells
strip-plain ram font s strip f out out' w q o none e =
    record {
      pixels =
          rw (no_row s strip none)
          (e
          ∙ ap (λ (k : ℕ). replicate k (plain_of s.fbk) ++ drop k out) q
          ∙ ap (λ (l : List ℕ). l ++ drop (width_of s.ld) out) (sym (paint-none s font f o)));
      reads = rw (no_row s strip none);
    }

-- a line of characters
pub strip_characters : (ram font : List ℕ) (s : Settings) (address height : ℕ) (zoom enabled : Bool) (line : ScanLine) (f : ℕ) (out : List ℕ) (n : ℕ) (out' : List ℕ)
    (pen : Pen) (x w : ℕ) → s.osd ≡ true → enabled ≡ true
    → pen ≡ record { slice = interpolated line height zoom; plain = plain_of s.fbk; hidden = hidden_in s.fl f }
    → x ≡ first_pixel_of s.dd → w ≡ width_of s.ld
    → CharactersDrawn ram font address pen x w out n out'
    → StripDrawn ram font s (Characters address height zoom enabled line) f out n out'
unfolding paint
strip_characters ram font s address height zoom enabled line f out n out' pen x w o en p q r d =
    let d' : CharactersDrawn ram font address (record { slice = interpolated line height zoom; plain = plain_of s.fbk; hidden = hidden_in s.fl f })
    (first_pixel_of s.dd) (width_of s.ld) out n out' = rw (p, q, r) at d
    in
    record {
      pixels =
          rw (en, row-shown s address height zoom line o, o)
          (d'.pixels
          ∙ sym (append_assoc (replicate (min (first_pixel_of s.dd) (width_of s.ld)) (plain_of s.fbk)) _ (drop (width_of s.ld) out)));
      reads = rw (en, row-shown s address height zoom line o) d'.reads;
    }

-- ---- the strip as the code took it apart

pub on_strip : (ram font : List ℕ) (s : Settings) (f : ℕ) (out : List ℕ) (n : ℕ) (out' : List ℕ) (strip : Strip) {strip' : Strip} → strip ≡ strip'
    → StripDrawn ram font s strip' f out n out' → StripDrawn ram font s strip f out n out'
on_strip ram font s f out n out' strip e d = subst (λ (t : Strip). StripDrawn ram font s t f out n out') (sym e) d

pub on_line : (strip : Strip) {address height : ℕ} {zoom enabled : Bool} {line : ScanLine} → strip ≡ Characters address height zoom enabled line
    → OnLine strip → InStrip line height zoom
unfolding OnLine
on_line strip e h = subst OnLine e h

pub slice_on_lem : (r : Slice) (j : ScanLine) (ch : ℕ) (zoom : Bool) → r ≡ interpolated j ch zoom → InStrip j ch zoom → OnScreen r
slice_on_lem r j ch zoom e h = subst OnScreen (sym e) (slice_range j ch zoom h)

-- ---- the frame's next line

pub walked_line : (ram : List ℕ) (ch : ℕ) (w : Walk) → OnLine (value ram (next_line ch w)).strip
walked_line ram ch w =
    let any : Role → ℕ → Type 0 = λ q c. Unit {0} in
    only-value any (λ (v : Walk). OnLine v.strip) ram (next_line ch w) (next_line-only any (λ c l. tt) ch w)

-- over any way to read a row
module _ (row : Settings → Strip → Reading (List Place)) (ram : List ℕ) (s : Settings) (w : Walk) where
  -- what a line finds: where the walk goes, and its row
  pub scan-value : value ram (scan_by row s w)
      ≡ record { walk = value ram (next_line s.ch w); row = value ram (row s (value ram (next_line s.ch w)).strip) }
  unfolding scan_by
  scan-value = value-bind ram (next_line s.ch w) _ ∙ value-fmap ram _ (row s (value ram (next_line s.ch w)).strip)

  -- what it reads: its descriptors, and its row
  pub scan-cells : cells ram (scan_by row s w) ≡ cells ram (next_line s.ch w) ++ cells ram (row s (value ram (next_line s.ch w)).strip)
  unfolding scan_by
  scan-cells =
      cells-bind ram (next_line s.ch w) _
      ∙ ap (λ (l : List ℕ). cells ram (next_line s.ch w) ++ l) (cells-fmap ram _ (row s (value ram (next_line s.ch w)).strip))

  scan-length : length (cells ram (scan_by row s w))
      ≡ length (cells ram (next_line s.ch w)) + length (cells ram (row s (value ram (next_line s.ch w)).strip))
  scan-length = ap length scan-cells ∙ length-append (cells ram (next_line s.ch w)) (cells ram (row s (value ram (next_line s.ch w)).strip))

-- the walk's next line and a line of its strip are the frame's next line
module _ (ram font : List ℕ) (r : Registers) (w : Walk) (f : ℕ) (out : List ℕ) (n : ℕ) (out' : List ℕ) where
  taken : StripDrawn ram font (settings_of r) (value ram (next_line (settings_of r).ch w)).strip f out n out'
      → LineDrawn ram font r w f out
      (record { walk = value ram (next_line (settings_of r).ch w); cells = length (cells ram (next_line (settings_of r).ch w)) + n }) out'
  taken d =
      record {
        pixels =
            d.pixels
            ∙ ap (λ (x : Scanned). paint (settings_of r) font f x.row ++ drop (width_of (settings_of r).ld) out) (sym (scan-value shown_row ram (settings_of r) w));
        walk = ap (λ (x : Scanned). x.walk) (sym (scan-value shown_row ram (settings_of r) w));
        reads = ap (λ (k : ℕ). length (cells ram (next_line (settings_of r).ch w)) + k) d.reads ∙ sym (scan-length shown_row ram (settings_of r) w);
      }

  pub line-drawn : (s : Settings) (k : Walked) → s ≡ settings_of r → k ≡ walked ram s.ch w → StripDrawn ram font s k.walk.strip f out n out'
      → LineDrawn ram font r w f out (record { walk = k.walk; cells = k.cells + n }) out'
  unfolding walked
  line-drawn s k e q d =
      let q' : k ≡ walked ram (settings_of r).ch w = q ∙ ap (λ (t : Settings). walked ram t.ch w) e in
      subst (λ (t : Walked). LineDrawn ram font r w f out (record { walk = t.walk; cells = t.cells + n }) out') (sym q')
      (taken (subst₂ (λ (t : Settings) (u : Walked). StripDrawn ram font t u.walk.strip f out n out') e q' d))

  -- its cells are at most 1,268
  pub line-cells : (s : Settings) (k : Walked) → s ≡ settings_of r → k ≡ walked ram s.ch w → StripDrawn ram font s k.walk.strip f out n out'
      → k.cells + n ≤ line_cells
  line-cells s k e q d = omega (arith, (line-drawn s k e q d).reads, line-most r w ram)
