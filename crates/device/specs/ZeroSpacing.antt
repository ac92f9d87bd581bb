-- Request K9 in its own words: descriptors that are passed over, and the plain rest of a frame.
-- For every device record, made-up ones too, every RAM, of any length, and every font.
-- Assumes nothing.
use Rattle.std.specs.Prelude.{ℕ, ◌+◌, ◌*◌, ◌<◌, ◌≡◌, Bool, true, false, not, cond, ◌&&◌, List, [], get_or, length, replicate}
use Rattle.limits.specs.Limits.{bad_line_count}
use Rattle.cells.specs.Reading.{value, cells}
use Rattle.registers.specs.declared.Settings.{Settings}
use Rattle.registers.specs.Registers.{settings_of}
use Rattle.bus.specs.declared.Event.{Event}
use Rattle.walk.specs.Walk.{even, next, walk_at, passed_over, strip_of, over, in_plain_rest, advanced}
use Rattle.paint.specs.Pixels.{plain_of}
use Rattle.line.specs.Line.{shown_row, paint}
use Rattle.device.specs.declared.Device.{Device}
use Rattle.device.specs.Device.{fresh_device, hear_event, start_frame, next_scan, pixels_of, line_on, line_width, cells_left}

-- the two bytes of the descriptor at an address
abbrev pub low_at : List ℕ → ℕ → ℕ
low_at ram a = get_or ram (even a) 0

abbrev pub high_at : List ℕ → ℕ → ℕ
high_at ram a = get_or ram (even a + 1) 0

-- the next k descriptors, from an address on, are all spacing with SL 0
abbrev pub ZeroSpacings : List ℕ → (k a : ℕ) → Type 0
ZeroSpacings ram k a = (i : ℕ) → i < k → passed_over (low_at ram (a + 2 * i)) (high_at ram (a + 2 * i)) ≡ true

-- the frame's next line reads a descriptor
abbrev pub reads_descriptor : Device → Bool
reads_descriptor d = over d.frame.walk.strip && not d.frame.walk.plain

-- the rest of its frame is plain
abbrev pub rest_is_plain : Device → Bool
rest_is_plain d = in_plain_rest d.frame.walk

-- a line of plain pixels, 0 with OSD 0; LD, OSD and FBK as they stand
abbrev pub plain_line : Device → List ℕ
plain_line d =
    let s : Settings = settings_of d.registers in
    replicate (line_width d) (cond s.osd (plain_of s.fbk) 0)

-- fewer than 512 are passed over, and then one begins its strip: it is on screen, at its first line. They are read, it is, and then its row,
-- which is painted
pub record StripBegins (d : Device) (ram : List ℕ) (k a : ℕ) : Type 0 where
  pub strip : (line_on d ram).frame.walk ≡ walk_at (next a) (advanced (strip_of (settings_of d.registers).ch (low_at ram a) (high_at ram a)))
  pub reads : length (cells ram (next_scan d))
      ≡ 2 * (k + 1) + length (cells ram (shown_row (settings_of d.registers) (line_on d ram).frame.walk.strip))
  pub pixels : (font : List ℕ) → pixels_of d ram font
      ≡ paint (settings_of d.registers) font d.frame.number (value ram (shown_row (settings_of d.registers) (line_on d ram).frame.walk.strip))

-- 512 are: the line is plain, and so is the rest of the frame
pub record PlainBegins (d : Device) (ram : List ℕ) : Type 0 where
  pub pixels : (font : List ℕ) → pixels_of d ram font ≡ plain_line d
  pub reads : length (cells ram (next_scan d)) ≡ 1024
  pub rest : rest_is_plain (line_on d ram) ≡ true

-- what the plain rest is: over any RAM each line is plain, nothing is read, and it lasts over draws, bus events and refused frame starts
pub record PlainRest (d : Device) : Type 0 where
  pub pixels : (ram font : List ℕ) → pixels_of d ram font ≡ plain_line d
  pub reads : (ram : List ℕ) → cells ram (next_scan d) ≡ []
  pub remaining : (ram : List ℕ) → cells_left d ram ≡ []
  pub drawn : (ram : List ℕ) → rest_is_plain (line_on d ram) ≡ true
  pub written : (ram : List ℕ) (e : Event) → rest_is_plain (hear_event d ram e).device ≡ true
  pub refused : (lines : ℕ) → bad_line_count lines ≡ true → rest_is_plain (start_frame d lines).device ≡ true

-- the claim
pub record ZeroSpacing : Type 0 where
  pub some : (d : Device) (ram : List ℕ) (k : ℕ) → reads_descriptor d ≡ true → k < 512 → ZeroSpacings ram k d.frame.walk.descriptor
      → passed_over (low_at ram (d.frame.walk.descriptor + 2 * k)) (high_at ram (d.frame.walk.descriptor + 2 * k)) ≡ false
      → StripBegins d ram k (d.frame.walk.descriptor + 2 * k)
  pub all : (d : Device) (ram : List ℕ) → reads_descriptor d ≡ true → ZeroSpacings ram 512 d.frame.walk.descriptor → PlainBegins d ram
  pub rest : (d : Device) → rest_is_plain d ≡ true → PlainRest d
  -- it ends with an accepted frame start or a reset: the walk is at a descriptor again
  pub started : (d : Device) (lines : ℕ) → bad_line_count lines ≡ false → reads_descriptor (start_frame d lines).device ≡ true
  pub fresh : reads_descriptor fresh_device ≡ true
