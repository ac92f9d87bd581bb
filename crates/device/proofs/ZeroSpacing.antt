-- The claim of specs/ZeroSpacing.antt, by the walk's laws of descriptors that are passed over and of the plain rest.
-- Assumes nothing.
use Prim.Native.Nat.{ℕ, suc, ◌+◌, ◌-◌, ◌*◌, ◌<◌}
use mathlib.Core.Path.{◌≡◌, refl, sym, ap, ◌∙◌}
use mathlib.Core.Bool.{Bool, true, false, not, cond}
use mathlib.Core.List.{List, [], ◌++◌, append-nil}
use native.Mathlib.Omega.{arith}
use borrow.Author.Tests.{not-true}
use lib.ListN.{length, replicate, length-append}
use Rattle.limits.specs.Limits.{ram_pairs}
use Rattle.facts.proofs.Tests.{and_both}
use Rattle.cells.specs.Reading.{Reading, value, cells}
use Rattle.registers.specs.declared.Settings.{Settings}
use Rattle.registers.specs.Registers.{settings_of}
use Rattle.raster.specs.Raster.{width_of}
use Rattle.walk.specs.declared.Strip.TheVariants.{Spacing}
use Rattle.walk.specs.declared.Walk.{Walk}
use Rattle.walk.specs.Walk.{next, plain_rest, walk_from, passed_over, over, in_plain_rest, next_strip, advanced, onward, next_line}
use Rattle.walk.proofs.Laws.{begin_value, begin_cells, run_value, run-cells, all-value, all-cells, over-value, over-cells, plain_value, plain_cells}
use Rattle.paint.specs.Pixels.{plain_of}
use Rattle.line.specs.Line.{Place, Scanned, shown_row, paint}
use Rattle.line.proofs.Strips.{has_row, no_row, paint-none, scan-value, scan-cells}
use Rattle.ahead.proofs.Lines.{plain-none}
use Rattle.device.specs.declared.Device.{Device}
use Rattle.device.specs.Device.{fresh_device, hear_event, in_frame, start_frame, next_scan, pixels_of, line_on, cells_left}
use Rattle.device.specs.ZeroSpacing.{low_at, high_at, ZeroSpacings, reads_descriptor, rest_is_plain, plain_line, StripBegins, PlainBegins, PlainRest, ZeroSpacing}

-- ---- a line with nothing on it

plain-line : (s : Settings) (font : List ℕ) (f : ℕ) → paint s font f [] ≡ replicate (width_of s.ld) (cond s.osd (plain_of s.fbk) 0)
unfolding paint
plain-line s font f = by s.osd refl
  where
    by : (o : Bool) → s.osd ≡ o → paint s font f [] ≡ replicate (width_of s.ld) (cond o (plain_of s.fbk) 0)
    by true e = paint-none s font f e
    by false e = rw e

module _ (d : Device) (ram : List ℕ) where
  abbrev s : Settings
  s = settings_of d.registers

  abbrev w : Walk
  w = d.frame.walk

  -- where the line brings the walk, and what it reads
  walk_is : {v : Walk} → value ram (next_line s.ch w) ≡ v → (line_on d ram).frame.walk ≡ v
  unfolding line_on
  walk_is e = ap (λ (x : Scanned). x.walk) (scan-value shown_row ram s w) ∙ e

  reads_are : length (cells ram (next_scan d))
      ≡ length (cells ram (next_line s.ch w)) + length (cells ram (shown_row s (line_on d ram).frame.walk.strip))
  reads_are =
      ap length (scan-cells shown_row ram s w)
      ∙ length-append (cells ram (next_line s.ch w)) _
      ∙ ap (λ (v : Walk). length (cells ram (next_line s.ch w)) + length (cells ram (shown_row s v.strip))) (sym (walk_is refl))

  pixels_are : (font : List ℕ) → pixels_of d ram font ≡ paint s font d.frame.number (value ram (shown_row s (line_on d ram).frame.walk.strip))
  unfolding pixels_of
  pixels_are font =
      ap (λ (x : Scanned). paint s font d.frame.number x.row) (scan-value shown_row ram s w)
      ∙ ap (λ (v : Walk). paint s font d.frame.number (value ram (shown_row s v.strip))) (sym (walk_is refl))

  -- into the plain rest, or on in it
  module _ (a : ℕ) (e : value ram (next_line s.ch w) ≡ plain_rest a) where
    no_reads : cells ram (shown_row s (value ram (next_line s.ch w)).strip) ≡ []
    unfolding has_row cells
    no_reads = ap (λ (v : Walk). cells ram (shown_row s v.strip)) e ∙ ap (cells ram) (no_row s (Spacing 0) refl)

    plain-pixels : (font : List ℕ) → pixels_of d ram font ≡ plain_line d
    unfolding value has_row
    plain-pixels font =
        pixels_are font
        ∙ ap (λ (v : Walk). paint s font d.frame.number (value ram (shown_row s v.strip))) (walk_is e)
        ∙ ap (λ (p : Reading (List Place)). paint s font d.frame.number (value ram p)) (no_row s (Spacing 0) refl)
        ∙ plain-line s font d.frame.number

    plain-reads : cells ram (next_scan d) ≡ cells ram (next_line s.ch w)
    plain-reads =
        scan-cells shown_row ram s w ∙ ap (λ (l : List ℕ). cells ram (next_line s.ch w) ++ l) no_reads ∙ append-nil (cells ram (next_line s.ch w))

    plain_on : rest_is_plain (line_on d ram) ≡ true
    unfolding over
    plain_on = ap in_plain_rest (walk_is e)

-- ---- the claim

reads-one : (d : Device) → reads_descriptor d ≡ true → (over d.frame.walk.strip ≡ true) × (d.frame.walk.plain ≡ false)
reads-one d h =
    let t = and_both (over d.frame.walk.strip) (not d.frame.walk.plain) h in
    (t.0, not-true d.frame.walk.plain t.1)

some : (d : Device) (ram : List ℕ) (k : ℕ) → reads_descriptor d ≡ true → k < 512 → ZeroSpacings ram k d.frame.walk.descriptor
    → passed_over (low_at ram (d.frame.walk.descriptor + 2 * k)) (high_at ram (d.frame.walk.descriptor + 2 * k)) ≡ false
    → StripBegins d ram k (d.frame.walk.descriptor + 2 * k)
some d ram k h l z b =
    let ch = (settings_of d.registers).ch in
    let w = d.frame.walk in
    let a = w.descriptor in
    let n : ℕ = 511 - k in
    let t = reads-one d h in
    let whole : ram_pairs ≡ k + suc n = omega arith in
    let cut = ap (λ (m : ℕ). length (cells ram (next_strip m ch a))) whole in
    let first = ap length (begin_cells ram n ch (a + 2 * k) b) in
    record {
      strip =
          walk_is d ram
          (over-value ram ch w t.0 t.1
          ∙ ap onward (ap (λ (m : ℕ). value ram (next_strip m ch a)) whole ∙ run_value ram ch k n a z ∙ begin_value ram n ch (a + 2 * k) b));
      reads = omega (arith, reads_are d ram, ap length (over-cells ram ch w t.0 t.1), cut, run-cells ram ch k n a z, first);
      pixels = pixels_are d ram;
    }

all : (d : Device) (ram : List ℕ) → reads_descriptor d ≡ true → ZeroSpacings ram 512 d.frame.walk.descriptor → PlainBegins d ram
unfolding advanced
all d ram h z =
    let ch = (settings_of d.registers).ch in
    let w = d.frame.walk in
    let t = reads-one d h in
    let a : ℕ = next (w.descriptor + 2 * 511) in
    let e : value ram (next_line ch w) ≡ plain_rest a = over-value ram ch w t.0 t.1 ∙ ap onward (all-value ram ch w.descriptor z) in
    record {
      pixels = plain-pixels d ram a e;
      reads = ap length (plain-reads d ram a e) ∙ ap length (over-cells ram ch w t.0 t.1) ∙ all-cells ram ch w.descriptor z;
      rest = plain_on d ram a e;
    }

rest : (d : Device) → rest_is_plain d ≡ true → PlainRest d
unfolding hear_event cells_left start_frame
rest d h =
    let ch = (settings_of d.registers).ch in
    let w = d.frame.walk in
    let t = and_both w.plain (over w.strip) h in
    let e : (ram : List ℕ) → value ram (next_line ch w) ≡ plain_rest w.descriptor = λ ram. plain_value ram ch w t.1 t.0 in
    record {
      pixels = λ ram. plain-pixels d ram w.descriptor (e ram);
      reads = λ ram. plain-reads d ram w.descriptor (e ram) ∙ plain_cells ram ch w t.1 t.0;
      remaining = λ ram. plain-none ram (settings_of d.registers) d.frame.left w h;
      drawn = λ ram. plain_on d ram w.descriptor (e ram);
      written = λ ram v. h;
      refused = λ lines bad. rw bad h;
    }

pub zero_spacing : ZeroSpacing
unfolding start_frame in_frame fresh_device walk_from over
zero_spacing = record { some = some; all = all; rest = rest; started = λ d lines h. rw h; fresh = refl }
